-- `network_encode::encode::cells_block` meets its contract.
use Prim.Native.Nat.{◌*◌, ◌≤◌}
use native.Mathlib.Omega.{arith}
use lib.Dec.{lit<}
use Rattle.network_encode.specs.BlockWritten.{block_written}
use Rattle.file_fields.specs.Block.{entries_size}
use Rattle.file_blocks.specs.Kind.{cell_kind, cell_size, cell_per}
use Rattle.network_encode.proofs.encode.cells_block.Goals as goal

pub returns : goal.returns
returns c =
    let fit : cell_size * c.entries_in-m.result ≤ entries_size =
    omega (
      arith,
      c.entries_in-m.ensures,
    ) in
    block_written cell_kind cell_per cell_size _ _ 1 _ _ (lit< tt)
    c.entries_in-m.ensures fit _ _ _ _ _ (lit< tt)
    c.requires.in_run.whole
    c.write_head.ensures
    c.put_cells.ensures c.write_zeros.ensures
    c.write_check.ensures
