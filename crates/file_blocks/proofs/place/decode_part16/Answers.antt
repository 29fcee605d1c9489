-- `file_blocks::place::decode_part16` meets its contract.
use Prim.Native.Nat.{◌≤◌, ◌+◌, ◌*◌}
use lib.ListN.{length}
use Rattle.file_blocks.specs.Table.{parts}
use native.Mathlib.{Omega.arith, Nat.mul-le-mul_left}
use borrow.Author.Rules.{rules}
use Rattle.file_blocks.proofs.place.decode_part16.Goals as goal

pub loop-e-init : goal.loop-e-init
loop-e-init c = (search rules, search parts)

pub overflow_mul-size : goal.overflow_mul-size
overflow_mul-size c =
    let within : c.args.base + c.args.size * c.loop-e.e
    + c.args.size ≤ length c.args.file.now =
    omega (arith, mul-le-mul_left c.args.size c.loop-e-test.true) in
    omega (arith, within)

pub overflow_add-base : goal.overflow_add-base
overflow_add-base c =
    let within : c.args.base + c.args.size * c.loop-e.e
    + c.args.size ≤ length c.args.file.now =
    omega (arith, mul-le-mul_left c.args.size c.loop-e-test.true) in
    omega (arith, within)

pub overflow_add-base-in-loop-e : goal.overflow_add-base-in-loop-e
overflow_add-base-in-loop-e c =
    let within : c.args.base + c.args.size * c.loop-e.e
    + c.args.size ≤ length c.args.file.now =
    omega (arith, mul-le-mul_left c.args.size c.loop-e-test.true) in
    omega (arith, within)

pub le16-requires : goal.le16-requires
le16-requires c =
    let within : c.args.base + c.args.size * c.loop-e.e
    + c.args.size ≤ length c.args.file.now =
    omega (arith, mul-le-mul_left c.args.size c.loop-e-test.true) in
    omega (arith, within)

pub loop-e-preserved : goal.loop-e-preserved
loop-e-preserved c = (search rules, search parts)

pub returns : goal.returns
returns c = search parts
