-- The ladder of the check, from the first arc at which 20 fails to the tests 21 to 24, and what judging the
-- borders rests on, once the tables are filled.
use mathlib.Core.{Path.◌≡◌, Path.refl, Path.◌∙◌, List.List}
use Rattle.std.specs.Prelude.{ℕ, ◌≤◌, ◌<◌, Result, ⊤}
use Rattle.std.proofs.Common.{arith}
use Rattle.theory_loops.specs.{First.first, Fill.Filled, Pick.first_rung, Pick.at_first, Pick.past_first}
use Rattle.theory_paths.specs.Partition.{Partition}
use Rattle.network.specs.{Network.arcs, Network.start, Decode.decode, Town.partition_of}
use Rattle.file_refusals.specs.Refusal.{refused}
use Rattle.file_refusals.specs.declared.Refusal.{Refusal}
use Rattle.search_chains.specs.Chain.{end_of, Chained}
use Rattle.search_chains.specs.declared.chain.End.TheVariants.{Tail}
use Rattle.plan_tests.specs.declared.tests.Layouts.{Layouts}
use Rattle.plan.specs.{Border.Listed, Plan.Plan, PlanDecode.decode_plan}
use Rattle.plan_tests.specs.{Tests.fails20, Checkable.Checkable}
use Rattle.plan_check.specs.{Check.checked, Verdict.triples_from}
use Rattle.plan_judge.specs.Finding.{Equipped}

-- the whole ladder: v is the first arc at which 20 fails
checked_from : (G : Partition) (p : Plan)
    → first_rung (refused 20) G.graph.arcs (fails20 G p) (triples_from 4 21 G p)
    ≡ checked G p
unfolding checked triples_from
checked_from G p = refl

module _ {network plan : List ℕ} {l : Layouts} (w : Checkable network plan l) where
  pub equipped_of : {old points firsts next list : List ℕ}
      → Filled 0 l.network.arcs (start (decode network)) old points
      → Chained (end_of (decode network) Tail) l.network.nodes l.network.arcs 0 firsts next
      → Listed (partition_of (decode network)) list
      → Equipped network plan l points firsts next list
  equipped_of f c b = record {
    check = w;
    point = λ a h. f.written a (omega arith) h;
    chained = c;
    listed = b;
  }

  module _ {v : ℕ}
      (e : v ≡ first l.network.arcs (fails20 (partition_of (decode network)) (decode_plan plan))) where
    same_arcs : v ≡ first (arcs (decode network)) (fails20 (partition_of (decode network)) (decode_plan plan))
    same_arcs = rw w.town.sizes.arcs at e

    pub checked_unflagged : {r : Result ⊤ Refusal} → v < l.network.arcs → r ≡ refused 20 v
        → r ≡ checked (partition_of (decode network)) (decode_plan plan)
    checked_unflagged h f =
        at_first _ (triples_from 4 21 (partition_of (decode network)) (decode_plan plan))
        (refused 20) (arcs (decode network)) v
        (fails20 (partition_of (decode network)) (decode_plan plan)) same_arcs
        (omega (arith, w.town.sizes.arcs)) f
        ∙ checked_from (partition_of (decode network)) (decode_plan plan)

    pub checked_rest : {r : Result ⊤ Refusal} → l.network.arcs ≤ v
        → r ≡ triples_from 4 21 (partition_of (decode network)) (decode_plan plan)
        → r ≡ checked (partition_of (decode network)) (decode_plan plan)
    checked_rest h f =
        past_first _ (triples_from 4 21 (partition_of (decode network)) (decode_plan plan))
        (refused 20) (arcs (decode network)) v
        (fails20 (partition_of (decode network)) (decode_plan plan)) same_arcs
        (omega (arith, w.town.sizes.arcs)) f
        ∙ checked_from (partition_of (decode network)) (decode_plan plan)

-- for `search checks` at the needs of such code
pub ruleset checks = (equipped_of, checked_unflagged, checked_rest)
