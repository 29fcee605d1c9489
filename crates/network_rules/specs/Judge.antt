-- The ladder of the rules 7, 37, 8, 9 and 10 as code climbs it that knows a network's sizes, on a file in
-- place or on tables: each rung is taken, or passed.
use Rattle.file_refusals.specs.Refusal.{refused}
use Rattle.std.specs.Prelude.{◌≡◌, ℕ, ◌≤◌, ◌<◌, Result, Ok, Err, ⊤}
use Rattle.std.proofs.Math.Path.{sym}
use Rattle.std.proofs.Common.{◌∙◌, arith}
use borrow.Author.Tests.{lt-ltb, le-ltb, eq-eqb, ne_eqb}
use Rattle.theory_loops.specs.{First.first, First.first_le, First.clear, Pick.at_first, Pick.past_first}
use Rattle.network.specs.declared.header.Layout.{Layout}
use Rattle.network.specs.Network.{Network, nodes, arcs, points, start}
use Rattle.network.specs.{Decode.Sizes, Rules.judged_hours, Rules.judged, FirstPoint.Counted}
use Rattle.network.proofs.Sound.{arc_sound}
use Rattle.network.specs.Rules.{bad_cell, bad_hours_of, bad_arc, judged_points, judged_sum, judged_arcs}
use Rattle.file_refusals.specs.declared.Refusal.{Refusal}
use Rattle.network_scan.specs.ScanAll.{ScannedAll}

module _ {n : Network} {l : Layout} (s : Sizes n l) where
  -- 7
  module _ (v : ℕ) (r : Result ⊤ Refusal) (e : v ≡ first l.nodes (bad_cell n)) where
    pub cell_taken : v < l.nodes → r ≡ refused 7 v → r ≡ judged n
    unfolding judged
    cell_taken h f =
        let q = s.nodes in
        at_first r _ (refused 7) (nodes n) v (bad_cell n) (rw q at e) (rw q at h) f

    pub cells_passed : l.nodes ≤ v → r ≡ judged_hours n → r ≡ judged n
    unfolding judged
    cells_passed h f =
        let q = s.nodes in
        past_first r _ (refused 7) (nodes n) v (bad_cell n) (rw q at e) (rw q at h) f

  -- 37
  module _ (v : ℕ) (r : Result ⊤ Refusal) (e : v ≡ first l.nodes (bad_hours_of n)) where
    pub hours_taken : v < l.nodes → r ≡ refused 37 v → r ≡ judged_hours n
    unfolding judged_hours
    hours_taken h f =
        let q = s.nodes in
        at_first r _ (refused 37) (nodes n) v (bad_hours_of n) (rw q at e) (rw q at h) f

    pub hours_passed : l.nodes ≤ v → r ≡ judged_arcs n → r ≡ judged_hours n
    unfolding judged_hours
    hours_passed h f =
        let q = s.nodes in
        past_first r _ (refused 37) (nodes n) v (bad_hours_of n) (rw q at e) (rw q at h) f

  -- 8
  module _ (a : ℕ) (r : Result ⊤ Refusal) (e : a ≡ first l.arcs (bad_arc n)) where
    pub arc_taken : a < l.arcs → r ≡ refused 8 a → r ≡ judged_arcs n
    unfolding judged_arcs
    arc_taken h f =
        let q = s.arcs in
        at_first r _ (refused 8) (arcs n) a (bad_arc n) (rw q at e) (rw q at h) f

    pub arcs_passed_lem : l.arcs ≤ a → r ≡ judged_sum n → r ≡ judged_arcs n
    unfolding judged_arcs
    arcs_passed_lem h f =
        let q = s.arcs in
        past_first r _ (refused 8) (arcs n) a (bad_arc n) (rw q at e) (rw q at h) f

  -- 8, the sum
  module _ (k : ℕ) (r : Result ⊤ Refusal) (e : k ≡ start n l.arcs) where
    sum_is : k ≡ start n (arcs n)
    sum_is = rw s.arcs at e

    pub sum_taken : (k ≡ l.points → ⊥) → r ≡ refused 8 l.arcs → r ≡ judged_sum n
    unfolding judged_sum
    sum_taken h f =
        let q = s.points in
        rw (ne_eqb (start n (arcs n)) (points n) (λ z. h (sum_is ∙ z ∙ sym q)), ← s.arcs) f

    pub sum_passed : k ≡ l.points → r ≡ judged_points n → r ≡ judged_sum n
    unfolding judged_sum
    sum_passed h f =
        let q = s.points in
        rw (eq-eqb (start n (arcs n)) (points n) (sym sum_is ∙ h ∙ q)) f

  -- what the scan of the points requires
  pub counted : (a k : ℕ) → a ≡ first l.arcs (bad_arc n) → l.arcs ≤ a
      → k ≡ start n l.arcs → k ≡ l.points → Counted n
  counted a k f g e h =
      let q = s.arcs in
      let c : first (arcs n) (bad_arc n) ≡ arcs n = omega (arith, rw q at f, first_le (bad_arc n) (arcs n)) in
      record {
        some = λ b m. (arc_sound n b (clear (bad_arc n) (arcs n) c b m)).some;
        sum = sym (rw q at e) ∙ h ∙ s.points;
      }

-- 9
pub point_taken : (n : Network) (r : Result ⊤ Refusal) (bad : ℕ) → ScannedAll n (Err bad) → r ≡ refused 9 bad
    → r ≡ judged_points n
unfolding judged_points
point_taken n r bad (inside, is) f = rw (← is, lt-ltb bad (points n) inside) f

-- 10, of Q points: where rule 9 holds everywhere, what is left is rule 10
module _ (n : Network) {Q : ℕ} (q : Q ≡ points n) (r : Result ⊤ Refusal) (late : ℕ)
    (e : ScannedAll n (Ok late)) where
  pub late_taken : late < Q → r ≡ refused 10 late → r ≡ judged_points n
  unfolding judged_points
  late_taken h f =
      rw (
        ← e.0,
        le-ltb (points n) (points n) (omega arith),
        ← e.1,
        lt-ltb late (points n) (rw q at h),
      ) f

  pub points_passed : Q ≤ late → r ≡ Ok tt → r ≡ judged_points n
  unfolding judged_points
  points_passed h f =
      rw (
        ← e.0,
        le-ltb (points n) (points n) (omega arith),
        ← e.1,
        le-ltb late (points n) (rw q at h),
      ) f

-- for `search judgings` where the code answers, with `laid_sizes` where it reads a file
pub ruleset judgings = (
  cell_taken,
  cells_passed,
  hours_taken,
  hours_passed,
  arc_taken,
  arcs_passed_lem,
  sum_taken,
  sum_passed,
)
