-- `file_blocks::kind::Kind::offset` meets its contract: the parts come to the entry's place, which
-- stands in its block, so no sum or product wraps.
use mathlib.Core.Path.{refl}
use Prim.Native.Nat.{◌+◌, ◌-◌, ◌*◌, ◌/◌, ◌^◌, ◌<◌}
use native.Mathlib.Omega.{arith}
use Rattle.file_fields.specs.Block.{block_size, head_size}
use Rattle.file_blocks.specs.Place.{offset_in, offset_apart}
use Rattle.file_blocks.proofs.kind.Kind.offset.Goals as goal

pub overflow_mul-result-2 : goal.overflow_mul-result-2
overflow_mul-result-2 c =
    let small : block_size * c.args.from + head_size + c.args.self.size * c.args.i
    + (block_size - c.args.self.size * c.args.self.per) * (c.args.i / c.args.self.per) < 2 ^ 64 =
    omega (
      arith,
      offset_apart c.args.from c.args.self.per c.args.self.size c.requires.0 c.requires.1 c.args.i _ refl,
      offset_in c.args.from c.args.self.per c.args.self.size c.requires.0 c.requires.1 c.args.i,
    ) in
    omega (arith, small)

pub overflow_add-result-2 : goal.overflow_add-result-2
overflow_add-result-2 c =
    let small : block_size * c.args.from + head_size + c.args.self.size * c.args.i
    + (block_size - c.args.self.size * c.args.self.per) * (c.args.i / c.args.self.per) < 2 ^ 64 =
    omega (
      arith,
      offset_apart c.args.from c.args.self.per c.args.self.size c.requires.0 c.requires.1 c.args.i _ refl,
      offset_in c.args.from c.args.self.per c.args.self.size c.requires.0 c.requires.1 c.args.i,
    ) in
    omega (arith, small)

pub overflow_mul-result-3 : goal.overflow_mul-result-3
overflow_mul-result-3 c =
    let small : block_size * c.args.from + head_size + c.args.self.size * c.args.i
    + (block_size - c.args.self.size * c.args.self.per) * (c.args.i / c.args.self.per) < 2 ^ 64 =
    omega (
      arith,
      offset_apart c.args.from c.args.self.per c.args.self.size c.requires.0 c.requires.1 c.args.i _ refl,
      offset_in c.args.from c.args.self.per c.args.self.size c.requires.0 c.requires.1 c.args.i,
    ) in
    omega (arith, small)

pub overflow_add-result-3 : goal.overflow_add-result-3
overflow_add-result-3 c =
    let small : block_size * c.args.from + head_size + c.args.self.size * c.args.i
    + (block_size - c.args.self.size * c.args.self.per) * (c.args.i / c.args.self.per) < 2 ^ 64 =
    omega (
      arith,
      offset_apart c.args.from c.args.self.per c.args.self.size c.requires.0 c.requires.1 c.args.i _ refl,
      offset_in c.args.from c.args.self.per c.args.self.size c.requires.0 c.requires.1 c.args.i,
    ) in
    omega (arith, small)

pub returns : goal.returns
returns c =
    offset_apart c.args.from c.args.self.per c.args.self.size c.requires.0 c.requires.1 c.args.i _ refl
