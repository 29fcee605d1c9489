-- A refusal at one place, and an answer that is one. The other two places are 0.
use Rattle.std.specs.Prelude.{ℕ, Result, Err}
use Rattle.file_refusals.specs.declared.Refusal.{Refusal}

abbrev pub refusal : ℕ → ℕ → Refusal
refusal number place = record { number = number; first = place; second = 0; third = 0 }

abbrev pub refused : {T : Type 0} → ℕ → ℕ → Result T Refusal
refused number place = Err (refusal number place)
