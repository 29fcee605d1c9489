-- `arc_runs::brief::fill_runs` meets its contract.
use Prim.Native.Nat.{ℕ, ◌+◌, ◌≤◌, ◌<◌}
use native.Mathlib.Omega.{arith}
use lib.ListN.{length}
use Rattle.arc_runs.specs.{Travels.most_travel, Brief.steady_runs, Brief.steady_short}
use Rattle.arc_runs.proofs.brief.fill_runs.Goals as goal

-- where nothing is found
none-fewer : (n : ℕ) → n ≤ n
none-fewer n = omega arith

none_more : (n k : ℕ) → n ≤ n + k
none_more n k = omega arith

pub fill_arc-requires-clause-town : goal.fill_arc-requires-clause-town
fill_arc-requires-clause-town c = c.requires.town

pub fill_arc-requires-clause-arc_lt_arcs : goal.fill_arc-requires-clause-arc_lt_arcs
fill_arc-requires-clause-arc_lt_arcs c = c.requires.arc_lt_arcs

pub fill_arc-requires-clause-space : goal.fill_arc-requires-clause-space
fill_arc-requires-clause-space c = c.requires.space

pub fill_arc-requires-clause-arc_bound : goal.fill_arc-requires-clause-arc_bound
fill_arc-requires-clause-arc_bound c = c.requires.arc_bound

pub returns-then-brief-lt-STEADY : goal.returns-then-brief-lt-STEADY
returns-then-brief-lt-STEADY c = (
  c.fill_arc.ensures.0,
  c.fill_arc.ensures.1,
  omega
      (arith, c.fill_arc.ensures.2),
  omega (arith, c.fill_arc.ensures.2),
)

pub returns : goal.returns
returns c = let h : 128 ≤ c.args.brief = omega arith in
    let in_s : 1 < length c.args.starts.now = omega (
      arith,
      c.requires.space.0.in_s,
      c.requires.town.small.period_some,
    ) in
    let in_v : 0 < length c.args.travels.now = omega
    (arith, c.requires.space.1, c.requires.town.small.period_some) in (
      steady_runs c.requires.brief h c.requires.town.small.period_some c.args.starts.now c.args.travels.now
          in_s in_v c.put_steady.ensures.0 (rw c.from.ensures at c.put_steady.ensures.1),
      steady_short c.requires.brief h c.requires.town.small.period_some c.args.starts.now c.args.travels.now
          in_s in_v (rw c.from.ensures at c.put_steady.ensures.1)
          (most_travel c.requires.town c.requires.arc_lt_arcs.0),
      none-fewer _,
      none_more _ _,
    )
