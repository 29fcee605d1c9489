-- `file_fields::sum::sums_of` meets its contract.
use Prim.Native.Nat.{◌≤◌, ◌*◌}
use Rattle.file_fields.specs.Sum.{Columns}
use Rattle.file_fields.proofs.sum.sums_of.Given as goal

abbrev pub invariant-loop-i : goal.invariant-loop-i
invariant-loop-i l =
    (l.i ≤ 63) × Columns l.s l.i l.a0 l.a1 l.a2 l.a3 l.b0 l.b1 l.b2 l.b3
    × (l.a0 ≤ 65535 * l.i) × (l.a1 ≤ 65535 * l.i) × (l.a2 ≤ 65535 * l.i) × (l.a3 ≤ 65535 * l.i)
    × (l.b0 ≤ 4128705 * l.i) × (l.b1 ≤ 4128705 * l.i) × (l.b2 ≤ 4128705 * l.i) × (l.b3 ≤ 4128705 * l.i)
