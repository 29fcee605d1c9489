-- A block of a run that has a right check and its form: what one look at it tells, and what follows for the
-- whole run where all of its blocks are so.
use mathlib.Core.{Path.◌≡◌, Path.refl, List.List}
use Rattle.std.specs.Prelude.{Bool, true, false, not, ◌&&◌, ℕ, ◌+◌, ◌-◌, ◌<◌}
use Rattle.std.proofs.Math.Bool.{and-eq-true_iff}
use native.Mathlib.{Decide.dec_lt, Omega.arith}
use Rattle.std.proofs.lemmas.Bool.{not-false}
use Rattle.theory_loops.specs.First.{first, clear}
use Rattle.file_fields.specs.Sum.{good}
use Rattle.file_blocks.specs.Place.{blocks}
use Rattle.file_forms.specs.{Form.run_formed, Form.unformed, Form.RunFormed, Read.bad}

-- block j of a run of n entries, whose first block is `from`
abbrev pub sound_block : List ℕ → ℕ → ℕ → ℕ → ℕ → ℕ → ℕ → Bool
sound_block file from kind per size n j = good file (from + j) && run_formed file from kind per size n j

-- every block of the run is so
abbrev pub RunSound : List ℕ → ℕ → ℕ → ℕ → ℕ → ℕ → Type 0
RunSound file from kind per size n =
    (j : ℕ) → j < blocks per n → sound_block file from kind per size n j ≡ true

-- FOR THE CODE: the check decides, or leaves the answer to the form
module _ (file : List ℕ) (from kind per size n j : ℕ) (t : Bool) (e : t ≡ good file (from + j)) where
  pub check_decides : t ≡ false → t ≡ sound_block file from kind per size n j
  check_decides f = rw (← e, f)

  pub form_decides : (u : Bool) → t ≡ true → u ≡ unformed file from kind per size n j
      → not u ≡ sound_block file from kind per size n j
  form_decides u f g = rw (← e, f, g) (twice (run_formed file from kind per size n j))
    where
      twice : (b : Bool) → not (not b) ≡ b
      twice true = refl
      twice false = refl

-- FOR A READER: a sound run is in its form, and with right checks before it all checks up to its end are
module _ (file : List ℕ) (from kind per size n : ℕ) (s : RunSound file from kind per size n) where
  both : (j : ℕ) → j < blocks per n
      → (good file (from + j) ≡ true) × (run_formed file from kind per size n j ≡ true)
  both j l = (and-eq-true_iff (good file (from + j)) (run_formed file from kind per size n j)).0 (s j l)

  pub sound_formed : RunFormed file from kind per size n
  sound_formed j l = (both j l).1

  pub sound_sums : first from (bad file) ≡ from → (b : ℕ) → b < from + blocks per n → good file b ≡ true
  sound_sums f b l = elim (dec_lt b from) [
    | yes h ↦ not-false _ (clear (bad file) from f b h)
    | no h ↦
        let z : from + (b - from) ≡ b = omega arith in
        let g : good file (from + (b - from)) ≡ true = (both (b - from) (omega arith)).0 in
        rw z at g
  ]
