-- The check is exact: it accepts a plan exactly where the profiles are the true least travels and the flags
-- are enough (`check_exact`), whatever the plan. Acceptance is that no test fails anywhere (`accepted_none`),
-- and that is what the theory of profiles and flags asks (`accepted_checked`).
use mathlib.Core.Logic.Iff
use mathlib.Core.{Path.◌≡◌, Path.◌∙◌, Logic.◌↔◌, Bool.false}
use Rattle.std.specs.Prelude.{ℕ, ◌<◌, Result, Ok, Err, ⊤}
use Rattle.theory_loops.specs.Pick.{passed_by_lem, rung_passed, rung_clear}
use Rattle.theory_loops.specs.Triple.{first_triple_rung, triple_clear}
use Rattle.theory_paths.specs.{Graph.Lawful, Partition.Partition}
use Rattle.theory_paths.specs.Flags.{EnoughFlags, TrueProfiles, Checked}
use Rattle.theory_paths.proofs.Flags.{checked_exact}
use Rattle.file_refusals.specs.Apart.{not_both}
use Rattle.file_refusals.specs.Refusal.{refusal}
use Rattle.file_refusals.specs.declared.Refusal.{Refusal}
use Rattle.plan.specs.{Border.border_count, Plan.Plan, Plan.flag, Plan.profile_to}
use Rattle.plan_tests.specs.Tests.{fails20, fails}
use Rattle.plan_check.specs.Check.{triple_rung, checked}
use Rattle.plan_tests.specs.Meaning.{Nowhere, inside_exactly, local_exactly, flags_exactly}

-- no test fails anywhere
pub record NoneFails (G : Partition) (p : Plan) : Type 0 where
  pub inside : (a : ℕ) → a < G.graph.arcs → fails20 G p a ≡ false
  pub home : Nowhere G p 21
  pub no_less : Nowhere G p 22
  pub attained : Nowhere G p 23
  pub flagged : Nowhere G p 24

module _ (G : Partition) (p : Plan) where
  -- THE LADDER: no refusal accepts, so acceptance passed every rung
  pub rung_nowhere : (number : ℕ) (next : Result ⊤ Refusal) → triple_rung number G p next ≡ Ok tt
      → Nowhere G p number × (next ≡ Ok tt)
  unfolding triple_rung first_triple_rung
  rung_nowhere number next e =
      let (c, f) = passed_by_lem _ _ next (Ok tt) (not_both _ tt) e in
      ((triple_clear (fails number G p) (border_count G) G.graph.nodes G.graph.period).0 c, f)

  pub nowhere_rung : (number : ℕ) (next : Result ⊤ Refusal) → Nowhere G p number → triple_rung number G p next ≡ next
  unfolding triple_rung first_triple_rung
  nowhere_rung number next h =
      rw ((triple_clear (fails number G p) (border_count G) G.graph.nodes G.graph.period).1 h)

  accepted_passed : checked G p ≡ Ok tt → NoneFails G p
  unfolding checked
  accepted_passed e =
      let (a, e₁) =
      rung_passed _ G.graph.arcs (fails20 G p) _ (Ok tt) (λ i _. not_both (refusal 20 i) tt) e in
      let (b, e₂) = rung_nowhere 21 _ e₁ in
      let (c, e₃) = rung_nowhere 22 _ e₂ in
      let (d, e₄) = rung_nowhere 23 _ e₃ in
      let (f, _) = rung_nowhere 24 (Ok tt) e₄ in
      record { inside = a; home = b; no_less = c; attained = d; flagged = f }

  passed_accepted : NoneFails G p → checked G p ≡ Ok tt
  unfolding checked
  passed_accepted h =
      rung_clear (λ a. Err (refusal 20 a)) G.graph.arcs (fails20 G p) _ h.inside
      ∙ nowhere_rung 21 _ h.home
      ∙ nowhere_rung 22 _ h.no_less
      ∙ nowhere_rung 23 _ h.attained
      ∙ nowhere_rung 24 (Ok tt) h.flagged

  pub accepted_none : (checked G p ≡ Ok tt) ↔ NoneFails G p
  accepted_none = (accepted_passed, passed_accepted)

  module _ (ok : Lawful G.graph) where
    none_checked : NoneFails G p ↔ Checked G.graph G.cell (flag p) (profile_to G p)
    none_checked = (
      λ h.
          let t = (local_exactly G p ok).0 (h.home, h.no_less, h.attained) in
          record {
            inside = (inside_exactly G p).0 h.inside;
            local = t;
            attained = (flags_exactly G p ok t).0 h.flagged;
          },
      λ c.
          let (f, g, h) = (local_exactly G p ok).1 c.local in
          record {
            inside = (inside_exactly G p).1 c.inside;
            home = f;
            no_less = g;
            attained = h;
            flagged = (flags_exactly G p ok c.local).1 c.attained;
          },
    )

    -- so acceptance is what the theory of profiles and flags asks
    pub accepted_checked : (checked G p ≡ Ok tt) ↔ Checked G.graph G.cell (flag p) (profile_to G p)
    accepted_checked = Iff.trans accepted_none none_checked

-- THE THEOREM
pub check_exact : {G : Partition} (p : Plan) → Lawful G.graph
    → (checked G p ≡ Ok tt)
    ↔ (TrueProfiles G.graph G.cell (profile_to G p) × EnoughFlags G.graph G.cell (flag p))
check_exact {G} p ok =
    Iff.trans (accepted_checked G p ok) (checked_exact ok G.cell (flag p) (profile_to G p))
