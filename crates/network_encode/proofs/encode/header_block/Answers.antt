-- `network_encode::encode::header_block` meets its contract.
use mathlib.Core.Path.{refl}
use native.Mathlib.Omega.{arith}
use lib.Dec.{lit<, lit≤}
use Rattle.network_encode.specs.{Encode.header_byte, BlockWritten.block_written, Written.header_entry}
use Rattle.file_blocks.specs.Kind.{network_kind, network_size}
use Rattle.network_encode.proofs.encode.header_block.Goals as goal

pub returns : goal.returns
returns c =
    block_written network_kind 1 network_size 1 (λ _. header_byte c.args.h) 0 0 1 (lit< tt) refl
    (lit≤ tt) _ _ _ _ _ (lit< tt) c.requires.number_bound.1
    c.write_head.ensures
    (header_entry _ _ _ (omega arith) c.put_header.ensures)
    c.write_zeros.ensures
    c.write_check.ensures
