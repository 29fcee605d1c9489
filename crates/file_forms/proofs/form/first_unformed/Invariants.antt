-- `file_forms::form::first_unformed` meets its contract.
use Rattle.file_forms.specs.Form.{unformed}
use Rattle.theory_loops.specs.First.{first}
use Prim.Native.Nat.{◌≤◌}
use mathlib.Core.Path.{◌≡◌}
use Rattle.file_forms.proofs.form.first_unformed.Given as goal

abbrev pub invariant-loop-j : goal.invariant-loop-j
invariant-loop-j l =
    (l.j ≤ l.m) × (first l.j (unformed l.file l.run.from l.run.kind.number l.run.kind.per l.run.kind.size
    l.run.count) ≡ l.j)
