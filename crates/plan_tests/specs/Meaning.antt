-- What each of the tests 20 to 24 says where it fails nowhere: 20 is rule (a) (`inside_exactly`), 21 to 23
-- that every border's profile is right by what its arcs give (`local_exactly`), and then 24 that flagged arcs
-- give its numbers (`flags_exactly`).
use mathlib.Core.{Path.◌≡◌, Path.refl, Path.sym, Path.◌∙◌, Path.ap, Logic.◌↔◌, Logic.◌≢◌}
use Rattle.std.specs.Prelude.{Bool, true, false, not, ℕ, ◌+◌, ◌%◌, ◌≤◌, ◌<◌}
use Rattle.std.proofs.Math.Bool.{and-eq-true_iff}
use Rattle.std.proofs.Common.{arith}
use borrow.Author.Tests.{ltb-false, eqb-true, eqb-false, not-true, not-false, le-ltb, eq-eqb, ne_eqb}
use Rattle.theory_loops.specs.{First.any_clear, First.any_found, First.yes_any, Pick.and_clear}
use Rattle.theory_paths.specs.Graph.{Graph, Lawful, Permit, all, ArcFrom}
use Rattle.theory_paths.specs.Profiles.{Travel, unreachable, ticks, Profile, AtMost, plus, gives, Attained}
use Rattle.theory_paths.specs.{Profiles.LocalProfile, Flags.Border, Flags.flagged, Flags.FlaggedInside}
use Rattle.theory_paths.specs.Partition.{Partition}
use Rattle.plan.specs.Border.{head_cell, border_count, border_at}
use Rattle.plan.specs.Borders.{at_node, every_border}
use Rattle.plan.specs.Plan.{Plan, flag, profile, profile_to}
use Rattle.plan_tests.specs.Tests.{fails20, giving, given, fails21, fails22, fails23, fails24, fails}
use Rattle.plan_values.specs.Compare.{same, less, is_number}

-- a test of 21 to 24 fails at no border number, node and tick
abbrev pub Nowhere : Partition → Plan → ℕ → Type 0
Nowhere G p number =
    (i u x : ℕ) → i < border_count G → u < G.graph.nodes → x < G.graph.period
    → fails number G p i u x ≡ false

-- the profiles of all borders are right by what arcs give; and their numbers are given by arcs with the flag
-- of the border's cell
abbrev pub LocalProfiles : Partition → Plan → Type 0
LocalProfiles G p = (b : ℕ) → Border G.graph G.cell b → LocalProfile G.graph b (profile_to G p b)

abbrev pub FlaggedProfiles : Partition → Plan → Type 0
FlaggedProfiles G p =
    (b : ℕ) → Border G.graph G.cell b
    → Attained G.graph (flagged (flag p) (G.cell b)) b (profile_to G p b)

-- TRAVELS COMPARED
pub same_true : (s t : Travel) → same s t ≡ true → s ≡ t
same_true unreachable unreachable e = refl
same_true unreachable (ticks d) e = let z : ◌≡◌ {A = ℕ} 0 1 = cc in absurd (omega arith)
same_true (ticks c) unreachable e = let z : ◌≡◌ {A = ℕ} 0 1 = cc in absurd (omega arith)
same_true (ticks c) (ticks d) e = ap ticks (eqb-true c d e)

same_refl : (t : Travel) → same t t ≡ true
same_refl unreachable = refl
same_refl (ticks d) = eq-eqb d d refl

true_same : (s t : Travel) → s ≡ t → same s t ≡ true
true_same s t e = rw e (same_refl t)

-- not less is at most, the other way round
less_exactly : (s t : Travel) → (less s t ≡ false) ↔ AtMost t s
less_exactly unreachable t = (λ e. tt, λ m. refl)
less_exactly (ticks c) unreachable =
    (λ e. let z : ◌≡◌ {A = ℕ} 0 1 = cc in absurd (omega arith), λ m. absurd m)
less_exactly (ticks c) (ticks d) = (λ e. ltb-false c d e, λ m. le-ltb c d m)

number_ticks : (t : Travel) → is_number t ≡ true → (d : ℕ) × (t ≡ ticks d)
number_ticks unreachable e = let z : ◌≡◌ {A = ℕ} 0 1 = cc in absurd (omega arith)
number_ticks (ticks d) e = (d, refl)

ticks_number : (t : Travel) (d : ℕ) → t ≡ ticks d → is_number t ≡ true
ticks_number t d e = rw e

plus_some : (k d : ℕ) (t : Travel) → 1 ≤ k → plus k t ≡ ticks d → 1 ≤ d
plus_some k d unreachable l e = let z : ◌≡◌ {A = ℕ} 0 1 = cc in absurd (omega arith)
plus_some k d (ticks c) l e = let z : k + c ≡ d = cc in omega arith

-- an arc takes a tick or more, so it gives no 0
pub gives_some : {g : Graph} (ok : Lawful g) (D : Profile) {q : Permit} {u : ℕ} (a x d : ℕ) → ArcFrom g q u a
    → x < g.period → gives g D a x ≡ ticks d → 1 ≤ d
gives_some {g} ok D a x d f m e =
    plus_some (g.travel a x) d (D (g.head a) ((x + g.travel a x) % g.period))
    (ok.takes a x f.listed m) e

module _ (G : Partition) (p : Plan) where
  -- AT NO ARC: rule (a)
  pub inside_exactly : ((a : ℕ) → a < G.graph.arcs → fails20 G p a ≡ false)
      ↔ FlaggedInside G.graph G.cell (flag p)
  inside_exactly = (
    λ h a c l t e. rw e at
        (not-false (flag p a (head_cell G a)) ((and_clear _ _).0 (h a l) (eq-eqb _ _ (t ∙ sym e)))),
    λ h a l. (and_clear _ _).1 λ q. ap not (h a (head_cell G a) l (eqb-true _ _ q) refl),
  )

  -- a test fails at no node and no tick
  abbrev Passes : (ℕ → ℕ → Bool) → Type 0
  Passes test = (u x : ℕ) → u < G.graph.nodes → x < G.graph.period → test u x ≡ false

  -- AT BORDER NUMBER i: 21, 22 and 23 one by one
  module _ (i : ℕ) where
    home_exactly : border_at G i < G.graph.nodes
        → Passes (fails21 G p i)
        ↔ ((x : ℕ) → x < G.graph.period → profile G.graph p i (border_at G i) x ≡ ticks 0)
    home_exactly l = (
      λ h x m. same_true _ _
          (not-false _
          ((and_clear _ _).0 (h (border_at G i) x l m) (eq-eqb (border_at G i) (border_at G i) refl))),
      λ h u x k m. (and_clear _ _).1 λ q. ap not
          (true_same (profile G.graph p i u x) (ticks 0) (rw (eqb-true u (border_at G i) q) (h x m))),
    )

    no_less_exactly : Lawful G.graph
        → Passes (fails22 G p i)
        ↔
        ((u a x : ℕ) → ArcFrom G.graph all u a → x < G.graph.period
        → AtMost (profile G.graph p i u x) (giving G p i a x))
    unfolding fails22
    no_less_exactly ok = (
      λ h u a x f m.
          let l : u < G.graph.nodes = rw f.leaves at (ok.tails a f.listed) in
          (less_exactly (giving G p i a x) (profile G.graph p i u x)).0
          ((and_clear _ _).0 ((any_clear _ G.graph.arcs).0 (h u x l m) a f.listed)
          (eq-eqb _ _ f.leaves)),
      λ h u x k m. (any_clear _ G.graph.arcs).1 λ a l. (and_clear _ _).1 λ q.
          (less_exactly (giving G p i a x) (profile G.graph p i u x)).1
          (h u a x (record { listed = l; permitted = refl; leaves = eqb-true _ _ q }) m),
    )

    -- some permitted arc gives the number d
    pub attained_given : (permit : Permit) (u x d : ℕ) → profile G.graph p i u x ≡ ticks d
        → (given G p permit i u x ≡ true)
        ↔ ((a : ℕ) × ArcFrom G.graph permit u a × (giving G p i a x ≡ ticks d))
    unfolding given
    attained_given permit u x d q = (
      λ e.
          let (a, l, t) = any_found _ G.graph.arcs e in
          let (m, f) = (and-eq-true_iff _ _).0 t in
          let (o, v) = (and-eq-true_iff _ _).0 f in
          (a, record { listed = l; permitted = m; leaves = eqb-true _ _ o }, same_true _ _ v ∙ q),
      λ (a, f, v). yes_any _ G.graph.arcs a f.listed
          ((and-eq-true_iff _ _).1
          (f.permitted, (and-eq-true_iff _ _).1 (eq-eqb _ _ f.leaves, true_same _ _ (v ∙ sym q)))),
    )

    attained_exactly : Passes (fails23 G p i)
        ↔ Attained G.graph all (border_at G i) (profile G.graph p i)
    attained_exactly = (
      λ h u x d l m o q.
          let g =
          (and_clear _ _).0 ((and_clear _ _).0 (h u x l m) (ticks_number _ d q)) (ap not (ne_eqb _ _ o)) in
          (attained_given all u x d q).0 (not-false _ g),
      λ h u x l m. (and_clear _ _).1 λ k. (and_clear _ _).1 λ o.
          let (d, q) = number_ticks _ k in
          ap not ((attained_given all u x d q).1 (h u x d l m (eqb-false _ _ (not-true _ o)) q)),
    )

    -- 24 where they hold: at the border itself it cannot fail, since no arc gives 0
    module _ (ok : Lawful G.graph)
        (t : LocalProfile G.graph (border_at G i) (profile G.graph p i)) where
      not_home : (u x d : ℕ) → x < G.graph.period → profile G.graph p i u x ≡ ticks d
          → given G p all i u x ≡ true → u ≢ border_at G i
      not_home u x d m q g e =
          let (a, f, v) = (attained_given all u x d q).0 g in
          let z : ticks d ≡ ticks 0 = sym q ∙ rw e (t.home x m) in
          let w : d ≡ 0 = cc in
          omega (arith, gives_some ok (profile G.graph p i) a x d f m v)

      flagged_exactly : Passes (fails24 G p i)
          ↔ Attained G.graph (flagged (flag p) (G.cell (border_at G i))) (border_at G i)
          (profile G.graph p i)
      flagged_exactly = (
        λ h u x d l m o q.
            let g =
            (and_clear _ _).0 ((and_clear _ _).0 (h u x l m) (ticks_number _ d q))
            ((attained_given all u x d q).1 (t.attained u x d l m o q)) in
            (attained_given (flagged (flag p) (G.cell (border_at G i))) u x d q).0 (not-false _ g),
        λ h u x l m. (and_clear _ _).1 λ k. (and_clear _ _).1 λ g.
            let (d, q) = number_ticks _ k in
            ap not
            ((attained_given (flagged (flag p) (G.cell (border_at G i))) u x d q).1
            (h u x d l m (not_home u x d m q g) q)),
      )

  -- AT EVERY BORDER
  module _ (ok : Lawful G.graph) where
    pub local_exactly : (Nowhere G p 21 × Nowhere G p 22 × Nowhere G p 23) ↔ LocalProfiles G p
    unfolding fails
    local_exactly = (
      λ (f, g, h). (every_border ok
          (λ i b. LocalProfile G.graph b (profile G.graph p i))).0 λ i l. record {
            home = (home_exactly i (at_node G i l)).0 (λ u x. f i u x l);
            no_less = (no_less_exactly i ok).0 (λ u x. g i u x l);
            attained = (attained_exactly i).0 (λ u x. h i u x l);
          },
      λ h.
          let k = (every_border ok (λ i b. LocalProfile G.graph b (profile G.graph p i))).1 h in (
            λ i u x l. (home_exactly i (at_node G i l)).1 (k i l).home u x,
            λ i u x l. (no_less_exactly i ok).1 (k i l).no_less u x,
            λ i u x l. (attained_exactly i).1 (k i l).attained u x,
          ),
    )

    pub flags_exactly : LocalProfiles G p → Nowhere G p 24 ↔ FlaggedProfiles G p
    unfolding fails
    flags_exactly t =
        let k = (every_border ok (λ i b. LocalProfile G.graph b (profile G.graph p i))).1 t in
        let e =
        every_border ok
        (λ i b. Attained G.graph (flagged (flag p) (G.cell b)) b (profile G.graph p i)) in (
          λ h. e.0 (λ i l. (flagged_exactly i ok (k i l)).0 (λ u x. h i u x l)),
          λ h i u x l. (flagged_exactly i ok (k i l)).1 (e.1 h i l) u x,
        )
