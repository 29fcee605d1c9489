-- Two answers that are equal: both are refused alike, or both hold the same.
use Rattle.std.specs.Prelude.{◌≡◌, Result, Ok, Err}
use Rattle.std.proofs.Common.{ap}
use Rattle.file_refusals.specs.declared.Refusal.{Refusal}

module _ {T : Type 0} where
  pub same_value : (x y : T) → ◌≡◌ {A = Result T Refusal} (Ok x) (Ok y) → x ≡ y
  same_value x y e = cc

  pub not_both : {A : Type 0} (q : Refusal) (x : T) → ◌≡◌ {A = Result T Refusal} (Err q) (Ok x) → A
  not_both q x e = absurd cc

  pub same_refusal : (q r : Refusal) → ◌≡◌ {A = Result T Refusal} (Err q) (Err r) → q ≡ r
  same_refusal q r e = cc

  pub same_number : (q r : Refusal) → ◌≡◌ {A = Result T Refusal} (Err q) (Err r) → q.number ≡ r.number
  same_number q r e = ap (λ (i : Refusal). i.number) (same_refusal q r e)
