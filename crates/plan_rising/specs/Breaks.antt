-- Where the ticks of a row of points do not rise: at every point of the row (`broken`), and as code finds it
-- in points that stand side by side in a block.
use mathlib.Core.{Path.◌≡◌, Bool.Bool, List.List}
use Rattle.std.specs.Prelude.{ℕ, ◌+◌, ◌*◌, ◌<◌, ◌≤◌}
use native.Mathlib.Omega.{arith}
use Rattle.theory_loops.specs.Count.{count, count_none, count_end, count_few, count_same}
use Rattle.theory_breaks.specs.Tally.{flag, before, tally_more, tally_parts}
use Rattle.file_fields.specs.Fields.{le16}
use Rattle.file_blocks.specs.Kind.{profile_point_size}
use Rattle.plan_rising.specs.Falls.{falls}

-- at point k of a row the tick does not rise above the one before it
unfoldable pub broken : (ℕ → ℕ) → ℕ → Bool
broken t k = falls (t k) (before t k)

-- from the word at byte o to that of the next point
unfoldable pub falls_at : List ℕ → ℕ → Bool
falls_at file o = falls (le16 file (o + profile_point_size)) (le16 file o)

-- from point e to the next, of those side by side from byte `base` on
unfoldable pub break_at : List ℕ → ℕ → ℕ → Bool
break_at file base e = falls_at file (base + profile_point_size * e)

-- THE LOOP over the points side by side: one point more
pub beside_more : (file : List ℕ) (base c e r : ℕ) → c ≡ count e (break_at file base)
    → r ≡ flag (falls_at file (base + profile_point_size * e)) → c + r ≡ count (e + 1) (break_at file base)
unfolding break_at
beside_more file base c e r h k = tally_more (break_at file base) c e r h k

pub beside_few : (file : List ℕ) (base c e r : ℕ) → c ≡ count e (break_at file base) → r < 2 → c + r ≤ e + 1
beside_few file base c e r h k = omega (arith, h, count_few (break_at file base) e)

-- for `search besides` at the needs of that loop
pub ruleset besides = (count_none, beside_more, count_end)

-- m points, and n behind them
module _ (file : List ℕ) (base m n c r : ℕ) (e : c ≡ count m (break_at file base))
    (f : r ≡ count n (break_at file (base + profile_point_size * m))) where
  shifted : (k : ℕ) → k < n → break_at file (base + profile_point_size * m) k ≡ break_at file base (m + k)
  unfolding break_at
  shifted k o =
      let z : base + profile_point_size * m + profile_point_size * k ≡ base + profile_point_size * (m + k) =
      omega arith in
      rw z

  pub both_all : c + r ≡ count (m + n) (break_at file base)
  both_all = rw (e, f, count_same _ _ n shifted) (tally_parts (break_at file base) m n)

  pub both_few : c + r ≤ m + n
  both_few = omega (arith, both_all, count_few (break_at file base) (m + n))
