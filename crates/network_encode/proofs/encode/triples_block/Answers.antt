-- `network_encode::encode::triples_block` meets its contract.
use Prim.Native.Nat.{◌*◌, ◌≤◌}
use native.Mathlib.Omega.{arith}
use lib.Dec.{lit<}
use Rattle.network_encode.specs.BlockWritten.{block_written}
use Rattle.file_fields.specs.Block.{entries_size}
use Rattle.file_blocks.specs.Kind.{arc_size, arc_per}
use borrow.Author.Rules.{rules}
use Rattle.network_encode.proofs.encode.triples_block.Goals as goal

pub returns : goal.returns
returns c =
    let fit : arc_size * c.entries_in-m.result ≤ entries_size =
    omega (
      arith,
      c.entries_in-m.ensures,
    ) in
    block_written _ arc_per arc_size _ _ _ _ _ (lit< tt)
    c.entries_in-m.ensures fit _ _ _ _ _ (search rules)
    c.requires.in_run.whole
    c.write_head.ensures
    c.put_triples.ensures
    c.write_zeros.ensures
    c.write_check.ensures
