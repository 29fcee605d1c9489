-- The check of a plan against a graph with cells: the lowest of 20 to 24 that fails anywhere, then its first
-- place. From 21 on the places are the border's number, the node and the tick.
use Rattle.std.specs.Prelude.{ℕ, Result, Ok, Err, ⊤}
use Rattle.theory_loops.specs.{Pick.first_rung, Triple.first_triple_rung}
use Rattle.theory_paths.specs.Partition.{Partition}
use Rattle.file_refusals.specs.Refusal.{refused}
use Rattle.plan.specs.{Border.border_count, Plan.Plan}
use Rattle.file_refusals.specs.declared.Refusal.{Refusal}
use Rattle.plan_tests.specs.Tests.{fails20, fails}

-- a refusal at a border number, a node and a tick
abbrev pub refused_at : ℕ → ℕ → ℕ → ℕ → Result ⊤ Refusal
refused_at number i u x = Err (record { number = number; first = i; second = u; third = x })

-- a rung of the ladder: the test fails at some triple
unfoldable pub triple_rung : ℕ → Partition → Plan → Result ⊤ Refusal → Result ⊤ Refusal
triple_rung number G p next =
    first_triple_rung (refused_at number) (border_count G) G.graph.nodes G.graph.period
    (fails number G p) next

unfoldable pub checked : Partition → Plan → Result ⊤ Refusal
checked G p =
    first_rung (refused 20) G.graph.arcs (fails20 G p)
    (triple_rung 21 G p
    (triple_rung 22 G p
    (triple_rung 23 G p
    (triple_rung 24 G p
    (Ok tt)))))
