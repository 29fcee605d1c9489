-- `day_walk::walk::DayRuns::seek` meets its contract.
use Prim.Native.Nat.{◌≤◌}
use native.Mathlib.Omega.{arith}
use lib.ListN.{get_or}
use Rattle.day_walk.specs.Walk.{at_first, begun_below}
use Rattle.day_walk.proofs.walk.DayRuns.seek.Goals as goal

pub on-requires : goal.on-requires
on-requires g c =
    let m : get_or c.args.self.now.starts.now c.args.i 0 ≤ c.args.e =
    omega (arith, c.start.ensures, c.if-start-e.true) in
    (begun_below c.args.self.now.listed.grid _ _ c.requires.0 m c.requires.1, m, c.requires.1)

pub on-requires-2 : goal.on-requires-2
on-requires-2 g c =
    let f = at_first _ _ _ c.args.self.now.listed.grid (omega (arith, c.requires.1)) in
    (f.below, omega (arith, c.args.self.now.listed.grid.begun), c.requires.1)
