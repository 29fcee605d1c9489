-- Which numbers Open's refusals have: 1 to 10, 37, or 30 (`open_numbers`).
use mathlib.Core.{Path.◌≡◌, Path.sym, Bool.Bool, Bool.true, Bool.false, Bool.cond, List.List}
use Rattle.file_refusals.specs.Apart.{same_number}
use Rattle.file_refusals.specs.Refusal.{refused}
use Rattle.std.specs.Prelude.{◌⊎◌, ℕ, Result, Ok, Err}
use Rattle.std.proofs.Common.{inl, inr, arith}
use Rattle.file_refusals.specs.{Numbered.Numbered, Refusal.refusal}
use Rattle.file_refusals.specs.declared.Refusal.{Refusal}
use Rattle.network.specs.declared.header.Header.{Header}
use Rattle.network.specs.Numbers.{NetworkNumber, validated_numbers}
use Rattle.network.specs.{Tables.Tables, Validate.validated}
use Rattle.network_open.specs.Open.{too_short, opened_in, opening}

-- the papers' numbers for Open
abbrev pub OpenNumber : ℕ → Type 0
OpenNumber n = NetworkNumber n ⊎ (n ≡ 30)

pub open_numbers : (file : List ℕ) (t : Tables) (r : Refusal) → opening file t ≡ Err r
    → OpenNumber r.number
open_numbers file t r e = by_file (validated file) (validated_numbers file) e
  where
    by_room : (h : Header) (short : Bool) → cond short (refused 30 0) (Ok h) ≡ Err r
        → OpenNumber r.number
    by_room h true e = inr (sym (same_number (refusal 30 0) r e))
    by_room h false e = let z : ◌≡◌ {A = ℕ} 0 1 = cc in absurd (omega arith)

    by_file : (v : Result Header Refusal) → Numbered NetworkNumber v → opened_in v (λ h. too_short h t) ≡ Err r
        → OpenNumber r.number
    by_file (Err q) n e = inl (n r e)
    by_file (Ok h) n e = by_room h (too_short h t) e
