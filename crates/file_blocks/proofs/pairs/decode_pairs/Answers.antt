-- `file_blocks::pairs::decode_pairs` meets its contract: block by block, as `decode16` does for one table.
use Rattle.file_blocks.specs.Table.{whole_none, whole_more, whole_end}
use Rattle.file_blocks.specs.Place.{blocks, entries_in, block_starts, block_in, block_fits}
use Rattle.file_blocks.specs.Pairs.{pair_size}
use native.Mathlib.Omega.{arith}
use mathlib.Core.Path.{◌≡◌}
use lib.ListN.{length}
use Prim.Native.Nat.{ℕ, ◌≤◌, ◌<◌, ◌+◌, ◌*◌, zero-le}
use Rattle.file_fields.specs.Block.{block_size, entries_size}
use borrow.Author.Rules.{rules}
use Rattle.file_blocks.proofs.pairs.decode_pairs.Goals as goal

pub blocks-j-end-requires : goal.blocks-j-end-requires
blocks-j-end-requires c = (search rules, omega arith)

pub loop-j-init : goal.loop-j-init
loop-j-init c = (zero-le, search whole_none, search whole_none)

pub entries_in-m-requires : goal.entries_in-m-requires
entries_in-m-requires c =
    let below : c.loop-j.j < blocks c.args.run.kind.per c.args.run.count =
    omega arith in
    let starts : c.args.run.kind.per * c.loop-j.j ≤ c.args.run.count =
    block_starts _ _ _ _ _ c.requires.run_in_file _ below in
    starts

pub overflow_mul-run : goal.overflow_mul-run
overflow_mul-run c =
    let below : c.loop-j.j < blocks c.args.run.kind.per c.args.run.count =
    omega arith in
    let starts : c.args.run.kind.per * c.loop-j.j ≤ c.args.run.count =
    block_starts _ _ _ _ _ c.requires.run_in_file _ below in
    omega (arith, starts)

pub decode_part_pairs-requires : goal.decode_part_pairs-requires
decode_part_pairs-requires c =
    let below : c.loop-j.j < blocks c.args.run.kind.per c.args.run.count =
    omega arith in
    let starts : c.args.run.kind.per * c.loop-j.j ≤ c.args.run.count =
    block_starts _ _ _ _ _ c.requires.run_in_file _ below in
    let inside : block_size * (c.args.run.from + c.loop-j.j) + block_size ≤ length c.args.file.now =
    block_in _ _ _ _ _ c.requires.run_in_file _ below in
    let fits : (m : ℕ)
    → m ≡ entries_in c.args.run.kind.per c.args.run.count c.loop-j.j → pair_size * m ≤ entries_size =
    λ m e. block_fits _ _ _ _ _ c.requires.run_in_file _ below m e in (
      omega (arith, inside, fits c.entries_in-m.result c.entries_in-m.ensures),
      omega (arith, starts, c.loop-j.invariant.1.long),
      omega (arith, starts, c.loop-j.invariant.2.long),
    )

pub loop-j-preserved : goal.loop-j-preserved
loop-j-preserved c =
    let below : c.loop-j.j < blocks c.args.run.kind.per c.args.run.count =
    omega arith in (
      omega (arith, below),
      whole_more _ _ _ _ _ _ c.requires.run_in_file _ _ _ _ _
          c.loop-j.invariant.1 below c.entries_in-m.ensures c.decode_part_pairs.ensures.0,
      whole_more _ _ _ _ _ _ c.requires.run_in_file _ _ _ _ _
          c.loop-j.invariant.2 below c.entries_in-m.ensures c.decode_part_pairs.ensures.1,
    )

pub returns : goal.returns
returns c = (
  whole_end _ _ _ _ _ _ c.requires.run_in_file _ _ _ c.loop-j.invariant.1 (omega arith),
  whole_end _ _ _ _ _ _ c.requires.run_in_file _ _ _ c.loop-j.invariant.2 (omega arith),
)
