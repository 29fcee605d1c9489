-- Only the permitted arcs matter: two graphs that agree on the nodes, the period, which arcs are permitted,
-- and the ends and travel of these, have the same permitted paths, earliest arrivals (`earliest_agree`),
-- labels (`labels_agree`) and chosen path (`chosen_agree`). They may differ in every other arc, and in how
-- many arcs there are.
use mathlib.Core.{Path.◌≡◌, Path.refl, Path.sym, Path.◌∙◌, Path.ap, List.List, List.[], List.◌∷◌}
use Rattle.std.specs.Prelude.{Bool, true, false, cond}
use Rattle.std.proofs.Common.{true≢false}
use Prim.Native.Nat.{ℕ, zero, suc, ◌+◌, ◌%◌, ◌≤◌, ◌<◌}
use native.Mathlib.{Nat.le_refl, Nat.le_antisymm, Nat.mod-lt, Omega.arith, Decide.dec_le, Decide.le_ind}
use Rattle.theory_paths.specs.Graph.{Graph, Lawful, ends, Permit, ArcFrom, IsPath, stop, step, driven, Arrival, EarliestArrival}
use Rattle.theory_paths.specs.{Earliest.Exact}
use Rattle.theory_paths.proofs.Same.{bool_ext, lowest_ext, back_ext}
use Rattle.theory_paths.specs.Labels.{label, lowered, offer, relax, relaxed, rounds, labels}
use Rattle.theory_paths.specs.Hops.{tight, counting, hops, Known, Tight, Last}
use Rattle.theory_paths.proofs.Hops.{is_tight, tight_is}
use Rattle.theory_paths.specs.Chosen.{explains, back, arc_into, traced, chosen}
use Rattle.theory_paths.proofs.Chosen.{lowest_passes, explained, explaining, arc_into_lem, last_tail, chosen_counted}
use Rattle.theory_paths.specs.Agree.{Usable, Agree}

pub agree_sym : {g h : Graph} {p q : Permit} → Agree g h p q → Agree h g q p
agree_sym r = record {
  nodes = sym r.nodes;
  period = sym r.period;
  usable = λ a. ((r.usable a).1, (r.usable a).0);
  tails = λ a c. sym (r.tails a ((r.usable a).1 c));
  heads = λ a c. sym (r.heads a ((r.usable a).1 c));
  travels = λ a x c k. sym (r.travels a x ((r.usable a).1 c) (rw r.period k));
}

-- one graph, with two permissions that agree on its arcs
same_graph : (g : Graph) (p q : Permit) → ((a : ℕ) → a < g.arcs → p a ≡ q a) → Agree g g p q
same_graph g p q h = record {
  nodes = refl;
  period = refl;
  usable = λ a. (λ c. (c.0, sym (h a c.0) ∙ c.1), λ c. (c.0, h a c.0 ∙ c.1));
  tails = λ a c. refl;
  heads = λ a c. refl;
  travels = λ a x c m. refl;
}

module _ {g h : Graph} {p q : Permit} (o : 0 < g.period) (r : Agree g h p q) where
  ends_agree : (a x : ℕ) → Usable g p a → ends g a x ≡ ends h a x
  unfolding ends
  ends_agree a x c = ap (λ z. x + z) (r.travels a (x % g.period) c (mod-lt x o) ∙ rw r.period)

  arc_agree : {u a : ℕ} → ArcFrom g p u a → ArcFrom h q u a
  arc_agree {a = a} f =
      let c : Usable g p a = (f.listed, f.permitted) in
      let d = (r.usable a).0 c in
      record { listed = d.0; permitted = d.1; leaves = sym (r.tails a c) ∙ f.leaves }

  -- the same paths, driven alike
  pub path_agree : {s t : ℕ} {w : List ℕ} → IsPath g p s t w → IsPath h q s t w
  path_agree (stop e) = stop e
  path_agree (step {a = a} f i) = step (arc_agree f)
      (rw (r.heads a (f.listed, f.permitted)) at (path_agree i))

  pub driven_agree : {s t : ℕ} {w : List ℕ} (x : ℕ) → IsPath g p s t w → driven g w x ≡ driven h w x
  driven_agree x (stop e) = refl
  driven_agree {w = a ∷ w} x (step f i) = ap (driven g w) (ends_agree a x (f.listed, f.permitted))
      ∙ driven_agree (ends h a x) i

  pub arrival_agree : {s x t b : ℕ} → Arrival g p s x t b → Arrival h q s x t b
  arrival_agree {x = x} c = record {
    path = c.path;
    leads = path_agree c.leads;
    at = sym (driven_agree x c.leads) ∙ c.at;
  }

  -- the same labels: an arc of both relaxes alike, and an arc of one alone is not permitted
  relax_agree : (L N : List ℕ) (a : ℕ) → a < g.arcs → a < h.arcs → relax g p L a N ≡ relax h q L a N
  relax_agree L N a l m =
      go (p a) refl (q a) (bool_ext (p a) (q a) (λ e. ((r.usable a).0 (l, e)).1)
      (λ e. ((r.usable a).1 (m, e)).1))
    where
      go : (b : Bool) → p a ≡ b → (c : Bool) → p a ≡ c
          → cond b (lowered N (g.head a) (offer g L a)) N ≡ cond c (lowered N (h.head a) (offer h L a)) N
      go true e true f = rw (r.heads a (l, e), r.tails a (l, e), ends_agree a (label L (h.tail a)) (l, e))
      go false e false f = refl
      go true e false f = absurd (true≢false (sym e ∙ f))
      go false e true f = absurd (true≢false (sym f ∙ e))

  relax_past : (L N : List ℕ) (a : ℕ) → g.arcs ≤ a → a < h.arcs → relax h q L a N ≡ N
  relax_past L N a l m = go (q a) refl
    where
      go : (b : Bool) → q a ≡ b → cond b (lowered N (h.head a) (offer h L a)) N ≡ N
      go true e = absurd (omega (arith, ((r.usable a).1 (m, e)).0))
      go false e = refl

  relaxed_agree : (L : List ℕ) (k : ℕ) → k ≤ g.arcs → k ≤ h.arcs → relaxed g p L k ≡ relaxed h q L k
  unfolding relaxed
  relaxed_agree L zero l m = refl
  relaxed_agree L (suc a) l m = rw (relaxed_agree L a (omega arith) (omega arith))
      (relax_agree L (relaxed h q L a) a l m)

  relaxed_past : (L : List ℕ) (k : ℕ) → g.arcs ≤ k → k ≤ h.arcs → relaxed h q L k ≡ relaxed h q L g.arcs
  unfolding relaxed
  relaxed_past L k l = le_ind (λ j. j ≤ h.arcs → relaxed h q L j ≡ relaxed h q L g.arcs) (λ m. refl)
      (λ j n e m. relax_past L (relaxed h q L j) j n m ∙ e (omega arith)) k l

  relaxed_fewer : (L : List ℕ) → g.arcs ≤ h.arcs → relaxed g p L g.arcs ≡ relaxed h q L h.arcs
  relaxed_fewer L l = relaxed_agree L g.arcs (le_refl _) l ∙ sym (relaxed_past L h.arcs l (le_refl _))

module _ {g h : Graph} {p q : Permit} (o : 0 < g.period) (r : Agree g h p q) where
  relaxed_all : (L : List ℕ) → relaxed g p L g.arcs ≡ relaxed h q L h.arcs
  relaxed_all L = elim (dec_le g.arcs h.arcs) [
    | yes l ↦ relaxed_fewer o r L l
    | no l ↦ sym (relaxed_fewer (rw r.period at o) (agree_sym r) L (omega arith))
  ]

  rounds_agree : (s x k : ℕ) → rounds g p s x k ≡ rounds h q s x k
  unfolding rounds
  rounds_agree s x zero = rw r.nodes
  rounds_agree s x (suc k) = ap (λ (L : List ℕ). relaxed g p L g.arcs) (rounds_agree s x k)
      ∙ relaxed_all (rounds h q s x k)

  pub labels_agree : (s x : ℕ) → labels g p s x ≡ labels h q s x
  unfolding labels
  labels_agree s x = rounds_agree s x g.nodes ∙ ap (λ (n : ℕ). rounds h q s x n) r.nodes

  pub earliest_agree : {s x t b : ℕ} → EarliestArrival g p s x t b → EarliestArrival h q s x t b
  earliest_agree {x = x} e = record {
    arrival = arrival_agree o r e.arrival;
    least = λ w i. let j = path_agree (rw r.period at o) (agree_sym r) i in omega
        (arith, e.least w j, driven_agree o r x j);
  }

  -- the same tight arcs, and last arcs
  tight_agree : {L : List ℕ} {a : ℕ} → Tight g p L a → Tight h q L a
  tight_agree {L} {a} k =
      let c : Usable g p a = (k.listed, k.permitted) in
      let d = (r.usable a).0 c in
      record {
        listed = d.0;
        permitted = d.1;
        known = rw (← (r.tails a c)) k.known;
        at = rw (← (r.tails a c), ← (r.heads a c)) (sym (ends_agree o r a (label L (g.tail a)) c) ∙ k.at);
      }

  last_agree : {L : List ℕ} {H : ℕ → ℕ} {v a : ℕ} → Last g p L H v a → Last h q L H v a
  last_agree {a = a} k =
      let c : Usable g p a = (k.tight.listed, k.tight.permitted) in
      record {
        tight = tight_agree k.tight;
        enters = sym (r.heads a c) ∙ k.enters;
        fewer = rw (← (r.tails a c)) k.fewer;
      }

module _ {g h : Graph} {p q : Permit} (o : 0 < g.period) (r : Agree g h p q) where
  back_agrees : 0 < h.period
  back_agrees = rw r.period at o

  -- so the same hops
  counting_agree : (L : List ℕ) → Agree (counting g) (counting h) (tight g p L) (tight h q L)
  counting_agree L = record {
    nodes = r.nodes;
    period = refl;
    usable = λ a. (
      λ c. let k = tight_agree o r (is_tight {g = g} {p = p} {L = L} c.0 c.1) in
          (k.listed, tight_is k),
      λ c. let k = tight_agree back_agrees (agree_sym r) (is_tight {g = h} {p = q} {L = L} c.0 c.1) in
          (k.listed, tight_is k),
    );
    tails = λ a c. r.tails a (c.0, (is_tight {g = g} {p = p} {L = L} c.0 c.1).permitted);
    heads = λ a c. r.heads a (c.0, (is_tight {g = g} {p = p} {L = L} c.0 c.1).permitted);
    travels = λ a x c l. refl;
  }

  pub hops_agree : (s : ℕ) (L : List ℕ) → hops g p s L ≡ hops h q s L
  unfolding hops
  hops_agree s L = labels_agree (omega arith) (counting_agree L) s 0

  -- and the same chosen path, by labels that are exact
  into_agree : (L : List ℕ) (H : ℕ → ℕ) (v : ℕ) → Last g p L H v (arc_into g p L H v)
      → arc_into g p L H v ≡ arc_into h q L H v
  into_agree L H v k =
      let a = arc_into g p L H v in
      let b = arc_into h q L H v in
      let m = last_agree o r k in
      let l = m.tight.listed in
      let (e, i) = lowest_passes (explains h q L H v) h.arcs 0 a (omega arith) (omega arith)
      (explaining h q L H v a m) in
      let d = last_agree back_agrees (agree_sym r) (explained h q L H v b (omega arith) e) in
      let n = d.tight.listed in
      le_antisymm (lowest_passes (explains g p L H v) g.arcs 0 b (omega arith) (omega arith)
      (explaining g p L H v b d)).1 i

  pub chosen_agree : Lawful g → {s x : ℕ} (L : List ℕ) {B : ℕ} → Exact g p s x (label L) B → {t : ℕ}
      → Known g L B t → chosen g p s L t ≡ chosen h q s L t
  unfolding chosen traced
  chosen_agree ok {s} L {B} e {t} c =
      let H = label (hops g p s L) in
      let d = chosen_counted ok L e c in
      back_ext g h p q s L L H H (Known g L B) (λ v k n.
      let m = arc_into_lem ok L H d v n k in
      let a = arc_into g p L H v in
      ((into_agree L H v m, r.tails a (m.tight.listed, m.tight.permitted)), last_tail ok L H d v a k m))
      g.nodes t [] c
      ∙ ap (λ (n : ℕ). back h q s L H n t []) r.nodes
      ∙ ap (λ (K : List ℕ). back h q s L (label K) h.nodes t []) (hops_agree s L)

-- In one graph, permissions that agree on its arcs give the same labels, and the same chosen path by any
-- labels.
module _ (g : Graph) (p q : Permit) (o : 0 < g.period) (h : (a : ℕ) → a < g.arcs → p a ≡ q a) where
  pub labels_permit : (s x : ℕ) → labels g p s x ≡ labels g q s x
  labels_permit = labels_agree o (same_graph g p q h)

  pub chosen_permit : (s : ℕ) (L : List ℕ) (t : ℕ) → chosen g p s L t ≡ chosen g q s L t
  unfolding chosen traced
  chosen_permit s L t =
      let H = label (hops g p s L) in
      back_ext g g p q s L L H H (λ v. Unit {0}) (λ v c n.
      ((lowest_ext g.arcs 0 (λ a l. rw (h a (omega arith))), refl), tt)) g.nodes t [] tt
      ∙ rw (hops_agree o (same_graph g p q h) s L)
