-- `day_walk::walk::DayRuns::until` meets its contract.
use native.Mathlib.Omega.{arith}
use Rattle.day_walk.specs.Walk.{at_end}
use Rattle.day_walk.proofs.walk.DayRuns.until.Goals as goal

pub overflow_add-left : goal.overflow_add-left
overflow_add-left g c =
    let m = at_end c.args.self.now.listed.grid _ _ c.requires.at.0 in
    let n = at_end c.args.head.now.listed.grid _ _ c.requires.at.1 in
    omega (arith, m, n, c.start.ensures, c.requires.at.0.to, c.requires.one_day)

pub returns : goal.returns
returns g c =
    let m = at_end c.args.self.now.listed.grid _ _ c.requires.at.0 in
    let a = c.requires.at.0.to in
    let b = c.requires.at.1.to in
    record {
      some = omega (arith, c.min.ensures, c.min-2.ensures, c.start.ensures, c.start-2.ensures, a, b);
      own = omega (arith, c.min.ensures, c.min-2.ensures, c.start-2.ensures);
      arc = omega (arith, c.min.ensures, c.min-2.ensures);
      head = omega (arith, c.min-2.ensures, c.start.ensures);
      within = omega (arith, c.min.ensures, c.min-2.ensures, c.start-2.ensures, m);
    }
