-- The numbers that an answer can give: said once for every answer that may be refused.
use Rattle.std.specs.Prelude.{◌≡◌, ℕ, ◌≤◌, Result, Err}
use Rattle.file_refusals.specs.declared.Refusal.{Refusal}
use Rattle.file_refusals.specs.Apart.{same_number}

-- a number from low to high
abbrev pub Between : ℕ → ℕ → ℕ → Type 0
Between low high number = (low ≤ number) × (number ≤ high)

-- an answer that is refused has a number of a kind
module _ {T : Type 0} (Kind : ℕ → Type 0) where
  abbrev pub Numbered : Result T Refusal → Type 0
  Numbered a = (r : Refusal) → a ≡ Err r → Kind r.number

  pub numbered : (q : Refusal) → Kind q.number → Numbered (Err q)
  numbered q k r e =
      let z : q.number ≡ r.number = same_number q r e in
      rw z at k
