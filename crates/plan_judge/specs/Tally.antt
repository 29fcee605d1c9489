-- The finds of the check, counted while it judges node after node (`Row`) and border after border (`Tally`):
-- within what document 02 allows, and no fewer than the points of the profiles while no test fails.
use mathlib.Core.{Path.◌≡◌, Path.refl, Path.sym, Path.◌∙◌, Path.ap, Bool.cond}
use Prim.Native.Nat.{ℕ, zero, suc, ◌+◌, ◌-◌, ◌*◌, ◌≤◌, ◌<◌}
use native.Mathlib.{Decide.ℕ_discrete, Omega.arith}
use Rattle.std.specs.Prelude.{eqb}
use Rattle.std.proofs.Common.{eq-eqb, ne_eqb}
use Rattle.theory_loops.specs.Total.{total, total_none, total_more, total_part, total_most, total_same}
use Rattle.theory_loops.specs.Sums.{total_le, total_rows}
use Rattle.network.specs.{Limits.most_nodes, Network.Network, Network.nodes, Network.arcs, Network.tail}
use Rattle.plan.specs.Plan.{Plan, point_count}
use Rattle.plan_tests.specs.Finds.{node_finds, profile_points, allowed, pass_allowed}
use Rattle.node_verdict.specs.Lowest.{Tallied}

-- the nodes below u are judged towards border number i, and `number` is the lowest test that failed so far
pub record Row (n : Network) (p : Plan) (i u number before after : ℕ) : Type 0 where
  pub up : before ≤ after
  pub no_more : after ≤ before + total u (node_finds n p i)
  pub no_fewer : number ≡ 25 → before + total u (λ v. point_count p (i * nodes n + v)) ≤ after

-- the borders below i are judged
pub record Tally (n : Network) (p : Plan) (i number finds : ℕ) : Type 0 where
  pub each : ℕ → ℕ
  pub sum : finds ≡ total i each
  pub within : (j : ℕ) → j < i → each j ≤ allowed n p j
  pub enough : number ≡ 25 → (j : ℕ) → j < i → profile_points n p j ≤ each j

module _ (n : Network) (p : Plan) where
  -- FOR THE LOOP over the nodes
  module _ (i : ℕ) where
    pub row_none : (number before : ℕ) → Row n p i 0 number before before
    row_none number before = record {
      up = omega arith;
      no_more = omega arith;
      no_fewer = λ _. omega (arith, total_none (λ v. point_count p (i * nodes n + v)));
    }

    -- once a test fails, no points have to be met
    row_idle : (number finds : ℕ) → number < 25 → Row n p i (nodes n) number finds finds
    row_idle number finds h = record {
      up = omega arith;
      no_more = omega arith;
      no_fewer = λ e. absurd (omega arith);
    }

    module _ {u number before mid : ℕ} (r : Row n p i u number before mid) where
      -- there is room to count one node more
      pub row_room : (top : ℕ) → before + total (nodes n) (node_finds n p i) < top → u < nodes n
          → mid + node_finds n p i u < top
      row_room top h l = omega (arith, r.no_more, total_part (node_finds n p i) u (nodes n) l)

      pub row_more : {after own : ℕ} (next : ℕ) → own ≡ point_count p (i * nodes n + u)
          → Tallied number own (node_finds n p i u) mid after → next ≤ number → number ≤ 25
          → Row n p i (u + 1) next before after
      row_more next e t l m = record {
        up = omega (arith, r.up, t.up);
        no_more = omega (
          arith,
          r.no_more,
          t.no_more,
          total_more (node_finds n p i) (total u (node_finds n p i)) (node_finds n p i u) u refl refl,
        );
        no_fewer = λ z.
            let y : number ≡ 25 = omega arith in
            omega (
              arith,
              r.no_fewer y,
              t.no_fewer (omega arith),
              total_more (λ v. point_count p (i * nodes n + v)) (total u (λ v. point_count p (i * nodes n + v)))
                  (point_count p (i * nodes n + u)) u refl refl,
            );
      }

  -- FOR THE LOOP over the borders
  pub tally_none : Tally n p 0 25 0
  tally_none = record {
    each = λ _. 0;
    sum = total_none (λ _. 0);
    within = λ j h. absurd (omega arith);
    enough = λ _ j h. absurd (omega arith);
  }

  module _ (joined : (a : ℕ) → a < arcs n → tail n a < nodes n) {i number before : ℕ}
      (t : Tally n p i number before) where
    -- there is room to count one border more: borders are as few as nodes
    pub tally_room : ((j : ℕ) → j ≤ i → allowed n p j ≤ 3221356542) → i ≤ most_nodes
        → before + total (nodes n) (node_finds n p i) < 18446744073709551616
    tally_room most h =
        omega (
          arith,
          t.sum,
          total_most t.each 3221356542 i (λ j l. omega (arith, t.within j l, most j (omega arith))),
          pass_allowed n p i joined,
          most i (omega arith),
        )

    module _ {after next : ℕ} (r : Row n p i (nodes n) next before after) (l : next ≤ number) (m : number ≤
        25)
      where
        pub tally_more : Tally n p (i + 1) next after
        unfolding profile_points
        tally_more = record {
          each = both;
          sum =
              let z : total i both ≡ before =
              total_same both t.each i
              (λ j o. ap (λ b. cond b (after - before) (t.each j)) (ne_eqb j i (λ e. omega arith)))
              ∙ sym t.sum in
              let y = total_more both before (after - before) i (sym z) (sym at_last) in
              sym (sym y ∙ omega (arith, r.up));
          within = λ j h. elim (ℕ_discrete j i) [
            | yes e ↦ rw (e, at_last) (omega (arith, r.no_more, pass_allowed n p i joined))
            | no e ↦ rw (at_first j e) (t.within j (omega arith))
          ];
          enough = λ z j h.
              let y : number ≡ 25 = omega arith in
              elim (ℕ_discrete j i) [
                | yes e ↦ rw (e, at_last) (omega (arith, r.no_fewer z))
                | no e ↦ rw (at_first j e) (t.enough y j (omega arith))
              ];
        }
          where
            both : ℕ → ℕ
            both j = cond (eqb j i) (after - before) (t.each j)

            at_last : both i ≡ after - before
            at_last = rw (eq-eqb i i refl)

            at_first : (j : ℕ) → (j ≡ i → ⊥) → both j ≡ t.each j
            at_first j e = rw (ne_eqb j i e)

  -- the borders behind one are left out, once a test fails
  module _ (joined : (a : ℕ) → a < arcs n → tail n a < nodes n) where
    tally_rest : (k i number finds : ℕ) → Tally n p i number finds → number < 25
        → Tally n p (i + k) number finds
    tally_rest zero i number finds t h = let e : i + 0 ≡ i = omega arith in rw e t
    tally_rest (suc k) i number finds t h =
        let e : i + suc k ≡ i + 1 + k = omega arith in
        rw e (tally_rest k (i + 1) number finds
        (tally_more joined t (row_idle i number finds h) (omega arith) (omega arith)) h)

    pub tally_least : {i number finds borders : ℕ} → Tally n p i number finds → number < 25 → i ≤ borders
        → Tally n p borders number finds
    tally_least {i} {number} {finds} {borders} t h l =
        let e : i + (borders - i) ≡ borders = omega arith in
        rw e at (tally_rest (borders - i) i number finds t h)

  -- ALL BORDERS are judged, and no test failed
  pub tally_enough : {borders finds : ℕ} → Tally n p borders 25 finds
      → total (borders * nodes n) (point_count p) ≤ finds
  unfolding profile_points
  tally_enough {borders} t =
      omega (
        arith,
        t.sum,
        total_rows (point_count p) borders (nodes n),
        total_le (λ i. total (nodes n) (λ u. point_count p (i * nodes n + u))) t.each borders (t.enough
            refl),
      )
