-- `day_walk::walk::DayRuns::on` meets its contract: run i does not begin after tick e.
use Prim.Native.Nat.{◌+◌, ◌≤◌}
use native.Mathlib.Omega.{arith}
use lib.ListN.{get_or}
use Rattle.day_slopes.specs.Runs.{starts_few}
use Rattle.day_walk.specs.Walk.{reached_most, step_on, on_more}
use Rattle.day_walk.proofs.walk.DayRuns.on.Goals as goal

pub overflow_add-i : goal.overflow_add-i
overflow_add-i g c =
    let f = starts_few _ _ _ c.args.self.now.listed.grid c.args.from (omega arith) in
    omega (arith, f, reached_most c.reached.ensures)

pub loop-i-init : goal.loop-i-init
loop-i-init g c =
    step_on c.args.self.now.listed.grid _ _ _ _ c.requires.0 c.requires.1 c.requires.2 c.start.ensures
    c.reached.ensures

pub loop-i-preserved : goal.loop-i-preserved
loop-i-preserved g c =
    let h : get_or c.args.self.now.starts.now (c.loop-i.i + 1) 0 ≤ c.args.e = omega arith in
    (on_more c.args.self.now.listed.grid _ _ c.loop-i.invariant.0 h c.requires.2, h)

pub returns : goal.returns
returns g c = record { below = c.loop-i.invariant.0; from = c.loop-i.invariant.1; to = omega arith }
