-- `day_walk::walk::DayRuns::next` meets its contract.
use native.Mathlib.Omega.{arith}
use Rattle.day_slopes.specs.Runs.{starts_few}
use Rattle.day_walk.specs.Walk.{reached_most, step_next}
use Rattle.day_walk.proofs.walk.DayRuns.next.Goals as goal

pub overflow_add-result : goal.overflow_add-result
overflow_add-result g c =
    let f = starts_few _ _ _ c.args.self.now.listed.grid c.args.i (omega arith) in
    omega (
      arith,
      f,
      c.requires.at.from,
      c.requires.at.to,
      c.start.ensures,
      reached_most c.reached.ensures,
    )

pub returns : goal.returns
returns g c = (
  omega (arith, c.requires.at.below, reached_most c.reached.ensures),
  step_next c.args.self.now.listed.grid _ _ _ _ _ c.requires.at c.requires.t_le_to.0 c.requires.t_le_to.1
      c.start.ensures
      c.reached.ensures,
)
