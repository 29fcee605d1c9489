-- Refusal 14: a plan's header has the numbers of a network. What the test says, number by number, and that
-- the rules judge by the header as they do by the network.
use mathlib.Core.{Path.◌≡◌, Path.sym, Path.◌∙◌, Path.ap, List.List, List.[], List.◌∷◌, List.◌++◌}
use Rattle.file_refusals.specs.Refusal.{refused}
use Rattle.std.specs.Prelude.{Bool, true, false, ℕ, zero, suc, ◌≤◌, length, Result}
use Rattle.std.proofs.Math.Bool.{and-eq-true_iff}
use Rattle.std.proofs.Common.{arith, length-append}
use borrow.Author.Tests.{eqb-true, leb-true, eq-eqb, le-leb}
use Rattle.theory_loops.specs.Select.{select}
use Rattle.theory_paths.specs.Partition.{Partition}
use Rattle.network.specs.declared.header.Header.{Header}
use Rattle.network.specs.{Limits.WithinLimits, Layout.layout_of, Network.Network, Network.nodes, Network.arcs}
use Rattle.network.specs.{Decode.decode, Decode.laid_sizes, Valid.ValidFile}
use Rattle.network.proofs.Valid.{valid_laid}
use Rattle.network.specs.Town.{partition_of}
use Rattle.plan.specs.declared.header.PlanHeader.{PlanHeader}
use Rattle.plan.specs.{PlanLimits.most_profile_points, Plan.Plan, PlanDecode.decode_plan}
use Rattle.plan.specs.Border.{is_border, borders, border_count}
use Rattle.plan.specs.PlanHeader.{plan_header_at, PlanWithin}
use Rattle.plan.specs.PlanRules.{judged_by, plan_judged}
use Rattle.file_refusals.specs.declared.Refusal.{Refusal}
use Rattle.plan.specs.PlanValidate.{matching, planned_length, planned_header}

-- the header k has the numbers of the network with header h and so many borders
pub record Matches (h : Header) (borders : ℕ) (k : PlanHeader) : Type 0 where
  pub number : k.number ≡ h.number
  pub period : k.period ≡ h.period
  pub nodes : k.nodes ≡ h.nodes
  pub arcs : k.arcs ≡ h.arcs
  pub cells : k.cells ≡ h.cells
  pub borders_are : k.borders ≡ borders
  pub points_most : k.points ≤ most_profile_points

module _ (h : Header) (borders : ℕ) (k : PlanHeader) where
  pub matching_matches : matching h borders k ≡ true → Matches h borders k
  unfolding matching
  matching_matches e =
      let (number, e₁) = (and-eq-true_iff _ _).0 e in
      let (period, e₂) = (and-eq-true_iff _ _).0 e₁ in
      let (nodes, e₃) = (and-eq-true_iff _ _).0 e₂ in
      let (arcs, e₄) = (and-eq-true_iff _ _).0 e₃ in
      let (cells, e₅) = (and-eq-true_iff _ _).0 e₄ in
      let (border, points) = (and-eq-true_iff _ _).0 e₅ in
      record {
        number = eqb-true _ _ number;
        period = eqb-true _ _ period;
        nodes = eqb-true _ _ nodes;
        arcs = eqb-true _ _ arcs;
        cells = eqb-true _ _ cells;
        borders_are = eqb-true _ _ border;
        points_most = leb-true _ _ points;
      }

  pub matches_matching : Matches h borders k → matching h borders k ≡ true
  unfolding matching
  matches_matching m = rw (
    eq-eqb _ _ m.number,
    eq-eqb _ _ m.period,
    eq-eqb _ _ m.nodes,
    eq-eqb _ _ m.arcs,
    eq-eqb _ _ m.cells,
    eq-eqb _ _ m.borders_are,
    le-leb _ _ m.points_most,
  )

  -- so it is within the limits
  pub matches_within : WithinLimits h → borders ≤ h.nodes → Matches h borders k → PlanWithin k
  matches_within w b m = record {
    period_some = omega (arith, m.period, w.period_some);
    period_most = omega (arith, m.period, w.period_most);
    nodes_some = omega (arith, m.nodes, w.nodes_some);
    nodes_most = omega (arith, m.nodes, w.nodes_most);
    arcs_most = omega (arith, m.arcs, w.arcs_most);
    cells_some = omega (arith, m.cells, w.cells_some);
    cells_most = omega (arith, m.cells, w.cells_most);
    borders_most = omega (arith, m.borders_are, w.nodes_most);
    points_most = m.points_most;
  }

-- no more borders than nodes
select_few : (n : ℕ) (p : ℕ → Bool) → length (select n p) ≤ n
unfolding select
select_few zero p = omega arith
select_few (suc n) p = go (p n) (select_few n p)
  where
    go : (t : Bool) → length (select n p) ≤ n
        → length {A = ℕ} (elim t [ true ↦ select n p ++ (n ∷ []) | false ↦ select n p ]) ≤ suc n
    go true h = rw (length-append (select n p) (n ∷ [])) (omega arith)
    go false h = omega arith

pub borders_few : (G : Partition) → border_count G ≤ G.graph.nodes
unfolding borders
borders_few G = select_few G.graph.nodes (is_border G)

-- the network of a valid file has its header's numbers
pub record Headed (h : Header) (n : Network) : Type 0 where
  pub period : h.period ≡ n.period
  pub nodes_are : h.nodes ≡ nodes n
  pub arcs_are : h.arcs ≡ arcs n
  pub cells : h.cells ≡ n.cells

pub valid_headed : {file : List ℕ} {h : Header} → ValidFile file h → Headed h (decode file)
unfolding layout_of
valid_headed v = let z = laid_sizes (valid_laid v) in record {
  period = z.period;
  nodes_are = z.nodes;
  arcs_are = z.arcs;
  cells = z.cells;
}

-- the rules judge by the plan's header as by the network
pub judged_same : {h : Header} {n : Network} {k : PlanHeader} → Headed h n
    → Matches h (border_count (partition_of n)) k → (p : Plan) → judged_by k p ≡ plan_judged n p
judged_same d m p =
    rw
    (m.arcs, m.cells, m.period, m.borders_are, m.nodes, d.arcs_are, d.cells, d.period, d.nodes_are)

-- FOR THE LADDER
module _ {network : List ℕ} {h : Header} (v : ValidFile network h) (file : List ℕ) (k : PlanHeader)
    (e : k ≡ plan_header_at file) (b : ℕ) (f : b ≡ border_count (partition_of (decode network)))
    (t : Bool) (g : t ≡ matching h b k) where
  pub header_taken : (r : Result PlanHeader Refusal) → t ≡ false → r ≡ refused 14 0
      → r ≡ planned_header h (decode network) file
  unfolding planned_header
  header_taken r o q = rw (← e, ← f, ← g, o) q

  module _ (o : t ≡ true) where
    passed : matching h (border_count (partition_of (decode network))) k ≡ true
    passed = rw f at (sym g ∙ o)

    matches : Matches h (border_count (partition_of (decode network))) k
    matches = matching_matches h (border_count (partition_of (decode network))) k passed

    pub header_within : PlanWithin k
    header_within =
        let d = valid_headed v in
        matches_within h (border_count (partition_of (decode network))) k v.within
        (omega (arith, d.nodes_are, borders_few (partition_of (decode network)))) matches

    pub header_passed : (r : Result PlanHeader Refusal) → r ≡ planned_length file k (judged_by k (decode_plan file))
        → r ≡ planned_header h (decode network) file
    unfolding planned_header
    header_passed r q =
        rw (← e, passed)
        (q ∙ ap (planned_length file k) (judged_same (valid_headed v) matches (decode_plan file)))
