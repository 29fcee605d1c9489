-- `day_runs::points::fill_day` meets its contract: before point k the runs are the day's, and the reader
-- stands before that point.
use Rattle.std.proofs.Common.{◌∙◌, refl, arith, rules, length-set}
use lib.{Seq.get_or-set_same}
use Rattle.day_runs.specs.Filling.{space_on, filling_start, room_next, room_last}
use Rattle.day_runs.specs.Filling.{filling_next, filling_leads, filling_last}
use Rattle.day_runs.specs.Reading.{passed_none, passed_next, tick_read, value_read}
use Rattle.day_runs.proofs.points.fill_day.Goals as goal

pub value-begin-requires : goal.value-begin-requires
value-begin-requires g c = omega (arith, c.requires.day.0.some, c.requires.day.1)

pub loop-k-init : goal.loop-k-init
loop-k-init g c =
    let z = length-set c.args.starts.now 0 0 in (
      search rules,
      refl,
      refl,
      record {
        short = c.requires.space.0.short;
        in_s = omega (arith, c.requires.space.0.in_s, z);
        in_v = c.requires.space.0.in_v;
      },
      filling_start c.requires.day.0 _ _
          (get_or-set_same c.args.starts.now 0 0 0 (omega (arith, c.requires.space.0.in_s)))
          c.value-begin.ensures,
      omega arith,
      passed_none,
    )

pub step-requires : goal.step-requires
step-requires g c = omega (arith, c.loop-k.invariant.6.left, c.requires.day.1)

pub tick-b-requires : goal.tick-b-requires
tick-b-requires g c = omega (arith, c.loop-k.invariant.6.left, c.step.ensures.left, c.requires.day.1)

pub value-w-requires : goal.value-w-requires
value-w-requires g c = omega (arith, c.loop-k.invariant.6.left, c.step.ensures.left, c.requires.day.1)

pub extend-n-requires-clause-room : goal.extend-n-requires-clause-room
extend-n-requires-clause-room g c =
    room_next c.requires.day.0 _ c.loop-k.invariant.4 _ c.loop-k.invariant.3
    (tick_read (passed_next c.loop-k.invariant.6 c.step.ensures) c.tick-b.ensures) (omega arith)

pub extend-n-requires-clause-finds_bound : goal.extend-n-requires-clause-finds_bound
extend-n-requires-clause-finds_bound g c = omega (arith, c.loop-k.invariant.5, c.requires.space.1)

pub loop-k-preserved : goal.loop-k-preserved
loop-k-preserved g c =
    let passed = passed_next c.loop-k.invariant.6 c.step.ensures in (
      search rules,
      c.extend-n.ensures.0.long_s ∙ c.loop-k.invariant.1,
      c.extend-n.ensures.0.long_v ∙ c.loop-k.invariant.2,
      space_on c.loop-k.invariant.3 c.extend-n.ensures.0,
      filling_next c.requires.day.0 _ c.loop-k.invariant.4 c.extend-n.ensures.0
          (tick_read passed c.tick-b.ensures) (value_read passed c.value-w.ensures) (omega arith),
      omega (arith, c.loop-k.invariant.5, c.extend-n.ensures.1),
      passed,
    )

pub finish-requires-clause-room : goal.finish-requires-clause-room
finish-requires-clause-room g c =
    room_last c.requires.day.0 _ c.loop-k.invariant.4 c.loop-k.invariant.3
    (omega (arith, c.requires.day.0.some, c.loop-k.invariant.0))

pub finish-requires-clause-leading : goal.finish-requires-clause-leading
finish-requires-clause-leading g c =
    filling_leads c.requires.day.0 _ c.loop-k.invariant.4 refl c.value-begin.ensures
    (omega (arith, c.requires.day.0.some, c.loop-k.invariant.0)) (omega (arith, c.loop-k-test.false))

pub finish-requires-clause-finds_bound : goal.finish-requires-clause-finds_bound
finish-requires-clause-finds_bound g c =
    omega (arith, c.requires.day.0.some, c.loop-k.invariant.0, c.loop-k.invariant.5, c.requires.space.1)

pub shape_of-starts : goal.shape_of-starts
shape_of-starts g c = c.finish.ensures.0.long_s ∙ c.loop-k.invariant.1
    ∙ length-set c.args.starts.now 0 0

pub returns : goal.returns
returns g c = (
  filling_last c.requires.day.0 _ c.loop-k.invariant.4 refl c.value-begin.ensures
      (omega (arith, c.requires.day.0.some, c.loop-k.invariant.0)) (omega (arith, c.loop-k-test.false))
      c.finish.ensures.0,
  omega (arith, c.requires.day.0.some, c.loop-k.invariant.0, c.loop-k.invariant.5, c.finish.ensures.1),
)
