-- `network_steady::joins::count_joins` meets its contract: `Counting` holds before each block.
use Rattle.std.proofs.Common.{refl, arith, rules}
use Rattle.network.specs.Decode.{laid_small}
use Rattle.network_steady.specs.Joins.{BlockAt, block_at, counting_few, counting_more}
use Rattle.network_steady.specs.Joins.{countings}
use Rattle.network_steady.proofs.joins.count_joins.Goals as goal

pub overflow_cast-period : goal.overflow_cast-period
overflow_cast-period c = omega (arith, laid_small c.requires)

pub blocks-runs-requires : goal.blocks-runs-requires
blocks-runs-requires c = (search rules, omega (arith, laid_small c.requires))

pub loop-j-init : goal.loop-j-init
loop-j-init c = search countings

pub entries_in-m-requires : goal.entries_in-m-requires
entries_in-m-requires c = search countings

pub overflow_sub-m : goal.overflow_sub-m
overflow_sub-m c =
    let here : BlockAt c.args.file.now c.args.l c.loop-j.j
    c.entries_in-m.result =
    block_at c.requires _ _ _ _ c.loop-j.invariant c.loop-j-test.true _
    c.entries_in-m.ensures in
    omega (arith, here)

pub overflow_add-base : goal.overflow_add-base
overflow_add-base c =
    let here : BlockAt c.args.file.now c.args.l c.loop-j.j
    c.entries_in-m.result =
    block_at c.requires _ _ _ _ c.loop-j.invariant c.loop-j-test.true _
    c.entries_in-m.ensures in
    omega (arith, here)

pub overflow_mul-base : goal.overflow_mul-base
overflow_mul-base c =
    let here : BlockAt c.args.file.now c.args.l c.loop-j.j
    c.entries_in-m.result =
    block_at c.requires _ _ _ _ c.loop-j.invariant c.loop-j-test.true _
    c.entries_in-m.ensures in
    omega (arith, here)

pub overflow_add-base-in-loop-j : goal.overflow_add-base-in-loop-j
overflow_add-base-in-loop-j c =
    let here : BlockAt c.args.file.now c.args.l c.loop-j.j
    c.entries_in-m.result =
    block_at c.requires _ _ _ _ c.loop-j.invariant c.loop-j-test.true _
    c.entries_in-m.ensures in
    omega (arith, here)

pub point_at-next-requires : goal.point_at-next-requires
point_at-next-requires c =
    let here : BlockAt c.args.file.now c.args.l c.loop-j.j
    c.entries_in-m.result =
    block_at c.requires _ _ _ _ c.loop-j.invariant c.loop-j-test.true _
    c.entries_in-m.ensures in
    omega (arith, here)

pub joins-count-requires : goal.joins-count-requires
joins-count-requires c = omega (arith, laid_small c.requires)

pub overflow_add-count : goal.overflow_add-count
overflow_add-count c = omega (
  arith,
  counting_few c.requires _ _ _ _ c.loop-j.invariant c.loop-j-test.true _
      c.entries_in-m.ensures _ _ _ c.joins-count.ensures refl,
)

pub joins_beside-count-requires : goal.joins_beside-count-requires
joins_beside-count-requires c =
    let here : BlockAt c.args.file.now c.args.l c.loop-j.j
    c.entries_in-m.result =
    block_at c.requires _ _ _ _ c.loop-j.invariant c.loop-j-test.true _
    c.entries_in-m.ensures in
    let b = here in
    (omega arith, omega arith, omega (arith, laid_small c.requires))

pub overflow_add-count-in-loop-j : goal.overflow_add-count-in-loop-j
overflow_add-count-in-loop-j c = omega (
  arith,
  counting_few c.requires _ _ _ _ c.loop-j.invariant c.loop-j-test.true _
      c.entries_in-m.ensures _ _ _ c.joins-count.ensures
      c.joins_beside-count.ensures,
)

pub overflow_add-base-in-loop-j-2 : goal.overflow_add-base-in-loop-j-2
overflow_add-base-in-loop-j-2 c =
    let here : BlockAt c.args.file.now c.args.l c.loop-j.j
    c.entries_in-m.result =
    block_at c.requires _ _ _ _ c.loop-j.invariant c.loop-j-test.true _
    c.entries_in-m.ensures in
    omega (arith, here)

pub point_at-last-requires : goal.point_at-last-requires
point_at-last-requires c =
    let here : BlockAt c.args.file.now c.args.l c.loop-j.j
    c.entries_in-m.result =
    block_at c.requires _ _ _ _ c.loop-j.invariant c.loop-j-test.true _
    c.entries_in-m.ensures in
    omega (arith, here)

pub loop-j-preserved : goal.loop-j-preserved
loop-j-preserved c = counting_more c.requires _ _ _ _ c.loop-j.invariant c.loop-j-test.true _
    c.entries_in-m.ensures _ _ _ _
    c.point_at-next.ensures c.joins-count.ensures
    c.joins_beside-count.ensures c.point_at-last.ensures

pub returns : goal.returns
returns c = search countings
