-- The border itself: a byte for each tick tells whether its own profile is 0 there.
use mathlib.Core.{Path.◌≡◌, Path.◌∙◌, Bool.cond, List.List}
use Rattle.std.specs.Prelude.{ℕ, ◌+◌, ◌≤◌, ◌<◌}
use native.Mathlib.{Decide.dec_lt, Omega.arith}
use lib.{ListN.get_or, Dec.eqb}
use Rattle.theory_loops.specs.Fill.{Filled}
use Rattle.theory_paths.specs.Profiles.{Travel, ticks}
use Rattle.plan.specs.Plan.{Plan, point_count, profile_value}
use Rattle.plan_values.specs.Compare.{same}
use Rattle.day_slopes.specs.Runs.{Runs}
use Rattle.profile_runs.specs.Numbers.{number_at, number_value, number_never}

-- the byte of a tick at which its own profile has this number
abbrev pub home_byte : ℕ → ℕ
home_byte v = cond (eqb v 0) 6 14

-- the ticks of the first n runs have their bytes
pub record Painted (starts values : List ℕ) (n : ℕ) (marks : List ℕ) : Type 0 where
  pub at : (x : ℕ) → x < get_or starts n 0
      → (k : ℕ) × (k < n) × (get_or starts k 0 ≤ x) × (x < get_or starts (k + 1) 0)
      × (get_or marks x 0 ≡ home_byte (get_or values k 0))

-- THE RESULT, by the profile's value at each tick
pub record AtHome (value : ℕ → Travel) (period : ℕ) (marks : List ℕ) : Type 0 where
  pub byte : (x : ℕ) → x < period → get_or marks x 0 ≡ cond (same (value x) (ticks 0)) 6 14

-- FOR A LOOP over runs
module _ {starts values : List ℕ} where
  pub painted_none : (marks : List ℕ) → get_or starts 0 0 ≡ 0 → Painted starts values 0 marks
  painted_none marks e = record { at = λ x h. absurd (omega arith) }

  pub painted_more : {k a b byte : ℕ} {old new : List ℕ} → Painted starts values k old → a ≡ get_or starts k 0
      → b ≡ get_or starts (k + 1) 0 → byte ≡ home_byte (get_or values k 0) → Filled a b (λ _. byte) old new
      → Painted starts values (k + 1) new
  painted_more {k} h ea eb e f = record {
    at = λ x m. elim (dec_lt x (get_or starts k 0)) [
      | yes o ↦
          let (j, l, lo, hi, d) = h.at x o in
          (j, omega arith, lo, hi, f.before x (omega arith) ∙ d)
      | no o ↦ (k, omega arith, omega arith, m, f.written x (omega arith) (omega arith) ∙ e)
    ];
  }

-- its profile as runs
pub home_painted : {starts values marks : List ℕ} {n period : ℕ} (p : Plan) (k : ℕ) → 0 < point_count p k
    → Runs starts values n period (number_at period p k) → Painted starts values n marks
    → AtHome (profile_value period p k) period marks
home_painted {starts} {values} {marks} {n} {period} p k some runs h = record {
  byte = λ x m.
      let (j, a, b, c, d) = h.at x (rw runs.grid.ended m) in
      d ∙ rw (number_value period p k x some, runs.held j x a b c);
}

-- it has no points
pub home_never : (period : ℕ) (p : Plan) (k : ℕ) {old marks : List ℕ} → point_count p k ≡ 0
    → Filled 0 period (λ _. 14) old marks → AtHome (profile_value period p k) period marks
home_never period p k z f = record {
  byte = λ x m. f.written x (omega arith) m ∙ rw (number_never period p k x z);
}
