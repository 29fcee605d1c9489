-- `file_blocks::place::Run::decode16` meets its contract.
use native.Mathlib.{Nat.mul-le-mul_right, Omega.arith}
use Rattle.file_blocks.specs.Table.{whole_more, whole_end, wholes}
use Rattle.file_blocks.specs.Place.{blocks, entries_in, block_starts, block_in, block_fits}
use mathlib.Core.Path.{◌≡◌}
use lib.ListN.{length}
use Prim.Native.Nat.{ℕ, ◌≤◌, ◌<◌, ◌+◌, ◌*◌, zero-le}
use Rattle.file_fields.specs.Block.{block_size, entries_size}
use Rattle.file_blocks.proofs.place.Run.decode16.Goals as goal

pub blocks-j-end-requires : goal.blocks-j-end-requires
blocks-j-end-requires c =
    let two : 2 ≤ c.args.self.kind.size =
    omega arith in (
      c.requires.run_in_file.pos,
      omega (arith, mul-le-mul_right c.args.self.kind.per two, c.requires.run_in_file.fit),
    )

pub loop-j-init : goal.loop-j-init
loop-j-init c = (zero-le, search wholes)

pub entries_in-m-requires : goal.entries_in-m-requires
entries_in-m-requires c =
    let below : c.loop-j.j < blocks c.args.self.kind.per c.args.self.count =
    omega arith in
    let starts : c.args.self.kind.per * c.loop-j.j ≤ c.args.self.count =
    block_starts _ _ _ _ _ c.requires.run_in_file _ below in
    starts

pub overflow_mul-self : goal.overflow_mul-self
overflow_mul-self c =
    let below : c.loop-j.j < blocks c.args.self.kind.per c.args.self.count =
    omega arith in
    let starts : c.args.self.kind.per * c.loop-j.j ≤ c.args.self.count =
    block_starts _ _ _ _ _ c.requires.run_in_file _ below in
    omega (arith, starts)

pub decode_part16-requires : goal.decode_part16-requires
decode_part16-requires c =
    let below : c.loop-j.j < blocks c.args.self.kind.per c.args.self.count =
    omega arith in
    let starts : c.args.self.kind.per * c.loop-j.j ≤ c.args.self.count =
    block_starts _ _ _ _ _ c.requires.run_in_file _ below in
    let inside : block_size * (c.args.self.from + c.loop-j.j) + block_size ≤ length c.args.file.now =
    block_in _ _ _ _ _ c.requires.run_in_file _ below in
    let fits : (m : ℕ)
    → m ≡ entries_in c.args.self.kind.per c.args.self.count c.loop-j.j
    → c.args.self.kind.size * m ≤ entries_size =
    λ m e. block_fits _ _ _ _ _ c.requires.run_in_file _ below m e in (
      c.requires.at_bound.0,
      omega (
        arith,
        inside,
        fits c.entries_in-m.result c.entries_in-m.ensures,
      ),
      omega (arith, starts, c.loop-j.invariant.1.long),
    )

pub loop-j-preserved : goal.loop-j-preserved
loop-j-preserved c =
    let below : c.loop-j.j < blocks c.args.self.kind.per c.args.self.count =
    omega arith in (
      omega (arith, below),
      whole_more _ _ _ _ _ _ c.requires.run_in_file _ _ _ _ _
          c.loop-j.invariant.1
          below
          c.entries_in-m.ensures c.decode_part16.ensures,
    )

pub returns : goal.returns
returns c = whole_end _ _ _ _ _ _ c.requires.run_in_file _ _ _
    c.loop-j.invariant.1 (omega arith)
