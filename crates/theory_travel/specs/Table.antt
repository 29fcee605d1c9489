-- Points that stand in lists: the ticks in one and the values in another, `count` of them from index `from`
-- on, for one arc or profile; and the value at a tick by such points, which is what code computes.
use mathlib.Core.{Path.◌≡◌, Path.◌∙◌, List.List}
use Rattle.std.specs.Prelude.{ℕ, ◌+◌, get_or}
use Rattle.std.proofs.Common.{add-zero}
use Rattle.theory_travel.specs.Day.{day_value}

-- entry i of the part of a list that starts at `from`
unfoldable pub entry_at : List ℕ → ℕ → ℕ → ℕ
entry_at list from i = get_or list (from + i) 0

-- the value at tick x, which is below the period
abbrev pub value_at : List ℕ → List ℕ → ℕ → ℕ → ℕ → ℕ → ℕ
value_at ticks values from count period x = day_value (entry_at ticks from) (entry_at values from) count period x

-- the part's first entry
pub entry_first : (list : List ℕ) (from : ℕ) → get_or list from 0 ≡ entry_at list from 0
unfolding entry_at
entry_first list from = rw add-zero

-- and where it was read by itself
pub entry_start : (list : List ℕ) (from q : ℕ) → q ≡ get_or list from 0 → q ≡ entry_at list from 0
entry_start list from q e = e ∙ entry_first list from
