-- `network_steady::closes::point` meets its contract.
use Rattle.std.proofs.Common.{arith}
use Rattle.network_steady.specs.Closes.{point_stands, point_of}
use Rattle.network_steady.proofs.closes.point.Goals as goal

pub overflow_cast-passed : goal.overflow_cast-passed
overflow_cast-passed c = omega (arith, point_stands c.requires.laid _ c.requires.q_lt_points)

pub overflow_mul-at : goal.overflow_mul-at
overflow_mul-at c = omega (arith, point_stands c.requires.laid _ c.requires.q_lt_points)

pub overflow_add-at : goal.overflow_add-at
overflow_add-at c = omega (arith, point_stands c.requires.laid _ c.requires.q_lt_points)

pub overflow_mul-at-2 : goal.overflow_mul-at-2
overflow_mul-at-2 c = omega (arith, point_stands c.requires.laid _ c.requires.q_lt_points)

pub overflow_add-at-2 : goal.overflow_add-at-2
overflow_add-at-2 c = omega (arith, point_stands c.requires.laid _ c.requires.q_lt_points)

pub overflow_add-at-3 : goal.overflow_add-at-3
overflow_add-at-3 c = omega (arith, point_stands c.requires.laid _ c.requires.q_lt_points)

pub point_at-requires : goal.point_at-requires
point_at-requires c = omega (arith, point_stands c.requires.laid _ c.requires.q_lt_points)

pub returns : goal.returns
returns c = search point_of
