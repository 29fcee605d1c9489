-- `file_forms::sound::first_bad_before` meets its contract.
use mathlib.Core.{Path.◌≡◌}
use Prim.Native.Nat.{◌≤◌}
use Rattle.theory_loops.specs.First.{first}
use Rattle.file_forms.specs.Read.{bad}
use Rattle.file_forms.proofs.sound.first_bad_before.Given as goal

abbrev pub invariant-loop-b : goal.invariant-loop-b
invariant-loop-b l = (l.b ≤ l.n) × (first l.b (bad l.file) ≡ l.b)
