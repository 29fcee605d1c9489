-- `network_encode::encode::put_triples` meets its contract.
use Prim.Native.Nat.{◌+◌, ◌*◌, ◌≤◌}
use Rattle.theory_loops.specs.Fill.{Filled}
use Rattle.network_encode.specs.{Encode.triple_byte}
use Rattle.network_encode.specs.Entries.{part_byte}
use Rattle.network_encode.proofs.encode.put_triples.Given as goal

abbrev pub invariant-loop-e : goal.invariant-loop-e
invariant-loop-e l =
    (l.e ≤ l.m) × Filled l.base (l.base + 6 * l.e) (part_byte 6 (triple_byte l.xs l.ys l.zs) l.base l.first) l.initial.out l.out
