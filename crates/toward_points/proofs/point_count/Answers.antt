use mathlib.Core.Path.{◌≡◌}
use Prim.Native.Nat.{◌+◌, ◌-◌}
use native.Mathlib.Omega.{arith}
use lib.ListN.{length}
use Rattle.theory_loops.specs.Count.{count_few}
use Rattle.theory_travel.specs.Turns.{turns}
use Rattle.toward_points.specs.Row.{entry_of, points_before, differ_few}
use Rattle.toward_points.specs.Row.{turned_one, turned_first, turned_last}
use Rattle.toward_points.proofs.point_count.Goals as goal

pub returns-then-last-eq0 : goal.returns-then-last-eq0
returns-then-last-eq0 c =
    turned_one (entry_of c.args.row.now) (length c.args.row.now) (omega (arith, c.requires.some))

pub overflow_add-result : goal.overflow_add-result
overflow_add-result c =
    omega (
      arith,
      c.points_between-middle.ensures,
      turned_first (entry_of c.args.row.now) (length c.args.row.now) c.requires.some,
      count_few (turns (entry_of c.args.row.now) (length c.args.row.now)) (length c.args.row.now - 1),
      c.requires.few,
    )

pub turn-requires : goal.turn-requires
turn-requires c = (
  c.requires.entry _ (omega (arith, c.requires.some)),
  c.requires.entry _ (omega (arith, c.requires.some)),
  c.requires.entry 0 c.requires.some,
)

pub overflow_add-result-2 : goal.overflow_add-result-2
overflow_add-result-2 c =
    omega (
      arith,
      differ_few _ _ _ c.turn.ensures,
      c.points_between-middle.ensures,
      turned_first (entry_of c.args.row.now) (length c.args.row.now) c.requires.some,
      count_few (turns (entry_of c.args.row.now) (length c.args.row.now)) (length c.args.row.now - 1),
      c.requires.few,
    )

pub returns : goal.returns
returns c =
    let e : 1 + c.points_between-middle.result ≡ points_before c.args.row.now (length c.args.row.now -
    1) =
    omega (
      arith,
      c.points_between-middle.ensures,
      turned_first (entry_of c.args.row.now) (length c.args.row.now) c.requires.some,
    ) in
    turned_last (entry_of c.args.row.now) (length c.args.row.now) _ (length c.args.row.now - 1) _ (omega arith) (omega (arith, c.requires.some)) e
    c.turn.ensures
