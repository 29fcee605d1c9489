-- `network_encode::encode::encode_network` meets its contract.
use Rattle.network_encode.specs.{Encode.body_by}
use Prim.Native.Nat.{◌*◌, ◌≤◌}
use Rattle.theory_loops.specs.Fill.{Filled}
use Rattle.file_write.specs.Bytes.{file_byte}
use Rattle.network.specs.Tables.{tables_of, network_of}
use Rattle.file_fields.specs.Block.{block_size}
use Rattle.network_encode.proofs.encode.encode_network.Given as goal

abbrev pub invariant-loop-b : goal.invariant-loop-b
invariant-loop-b l =
    (l.b ≤ l.l.blocks) × Filled 0 (block_size * l.b)
    (file_byte (body_by l.h (network_of l.h (tables_of l.tables)))) l.initial.out l.out
