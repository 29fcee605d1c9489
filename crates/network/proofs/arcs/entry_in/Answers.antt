-- `network::arcs::entry_in` meets its contract: the entry stands whole in its block, which is in the file.
use Prim.Native.Nat.{◌+◌, ◌*◌, ◌≤◌}
use native.Mathlib.Omega.{arith}
use lib.ListN.{length}
use Rattle.file_fields.specs.Block.{block_size, head_size}
use Rattle.file_blocks.specs.Kind.{arc_size}
use Rattle.network.specs.Arcs.{entry_in, entry_of}
use borrow.Author.Rules.{rules}
use Rattle.network.proofs.arcs.entry_in.Goals as goal

pub overflow_add-at : goal.overflow_add-at
overflow_add-at c =
    let stands : block_size * (c.args.l.arcblock + c.args.j) + head_size + arc_size * c.args.e + arc_size
    ≤ length c.args.file.now =
    entry_in c.requires.laid c.args.j c.args.e c.requires.e_lt_arc_per.0 c.requires.e_lt_arc_per.1 in
    omega (arith, stands)

pub overflow_mul-at : goal.overflow_mul-at
overflow_mul-at c =
    let stands : block_size * (c.args.l.arcblock + c.args.j) + head_size + arc_size * c.args.e + arc_size
    ≤ length c.args.file.now =
    entry_in c.requires.laid c.args.j c.args.e c.requires.e_lt_arc_per.0 c.requires.e_lt_arc_per.1 in
    omega (arith, stands)

pub overflow_add-at-2 : goal.overflow_add-at-2
overflow_add-at-2 c =
    let stands : block_size * (c.args.l.arcblock + c.args.j) + head_size + arc_size * c.args.e + arc_size
    ≤ length c.args.file.now =
    entry_in c.requires.laid c.args.j c.args.e c.requires.e_lt_arc_per.0 c.requires.e_lt_arc_per.1 in
    omega (arith, stands)

pub overflow_add-at-3 : goal.overflow_add-at-3
overflow_add-at-3 c =
    let stands : block_size * (c.args.l.arcblock + c.args.j) + head_size + arc_size * c.args.e + arc_size
    ≤ length c.args.file.now =
    entry_in c.requires.laid c.args.j c.args.e c.requires.e_lt_arc_per.0 c.requires.e_lt_arc_per.1 in
    omega (arith, stands)

pub le16-requires : goal.le16-requires
le16-requires c =
    let stands : block_size * (c.args.l.arcblock + c.args.j) + head_size + arc_size * c.args.e + arc_size
    ≤ length c.args.file.now =
    entry_in c.requires.laid c.args.j c.args.e c.requires.e_lt_arc_per.0 c.requires.e_lt_arc_per.1 in
    omega (arith, stands)

pub overflow_add-at-4 : goal.overflow_add-at-4
overflow_add-at-4 c =
    let stands : block_size * (c.args.l.arcblock + c.args.j) + head_size + arc_size * c.args.e + arc_size
    ≤ length c.args.file.now =
    entry_in c.requires.laid c.args.j c.args.e c.requires.e_lt_arc_per.0 c.requires.e_lt_arc_per.1 in
    omega (arith, stands)

pub le16-requires-2 : goal.le16-requires-2
le16-requires-2 c =
    let stands : block_size * (c.args.l.arcblock + c.args.j) + head_size + arc_size * c.args.e + arc_size
    ≤ length c.args.file.now =
    entry_in c.requires.laid c.args.j c.args.e c.requires.e_lt_arc_per.0 c.requires.e_lt_arc_per.1 in
    omega (arith, stands)

pub overflow_add-at-5 : goal.overflow_add-at-5
overflow_add-at-5 c =
    let stands : block_size * (c.args.l.arcblock + c.args.j) + head_size + arc_size * c.args.e + arc_size
    ≤ length c.args.file.now =
    entry_in c.requires.laid c.args.j c.args.e c.requires.e_lt_arc_per.0 c.requires.e_lt_arc_per.1 in
    omega (arith, stands)

pub le16-requires-3 : goal.le16-requires-3
le16-requires-3 c =
    let stands : block_size * (c.args.l.arcblock + c.args.j) + head_size + arc_size * c.args.e + arc_size
    ≤ length c.args.file.now =
    entry_in c.requires.laid c.args.j c.args.e c.requires.e_lt_arc_per.0 c.requires.e_lt_arc_per.1 in
    omega (arith, stands)

pub returns : goal.returns
returns c = search (entry_of, rules)
