-- `plan_encode::entries::put_point` meets its contract: the entry stands in the list, two fields as one.
use Prim.Native.Nat.{◌<◌}
use native.Mathlib.Omega.{arith}
use Rattle.plan_encode.specs.Places.{point_fits, point_put}
use Rattle.plan_encode.proofs.entries.put_point.Goals as goal

pub put16-requires : goal.put16-requires
put16-requires c = omega
    (arith, point_fits c.requires.plan_room c.requires.q_lt_points)

pub overflow_add-at : goal.overflow_add-at
overflow_add-at c =
    record { fits = omega (arith, point_fits c.requires.plan_room c.requires.q_lt_points) }

pub put32-requires : goal.put32-requires
put32-requires c =
    omega (arith, point_fits c.requires.plan_room c.requires.q_lt_points)

pub returns : goal.returns
returns c =
    let l : c.args.tick < 65536 = omega arith in
    point_put _ _ _ _ c.offset-at.ensures _ _ _ l
    c.put16.ensures c.put32.ensures
