-- The way back by the notes that a search left is the chosen path (`trail_count`, `trail_road`). Going back
-- along the chosen path, arc by arc: where it stands after n arcs, which arc comes next, and when it is at
-- the path's start.
use mathlib.Core.{Path.◌≡◌, Path.refl, Path.sym, Path.◌∙◌, Path.ap, Logic.◌≢◌}
use Rattle.std.specs.Prelude.{Bool, true, false, cond, List, [], ◌∷◌, ◌++◌}
use Rattle.std.proofs.Common.{append_assoc, eq-eqb, ne_eqb}
use Prim.Native.Nat.{ℕ, zero, suc, ◌+◌, ◌-◌, ◌≤◌, ◌<◌}
use native.Mathlib.Omega.{arith}
use lib.{Dec.eqb, ListN.length, ListN.get_or, ListN.length-append, Seq.get_or_at}
use Rattle.theory_paths.specs.{Graph.Graph, Graph.Lawful, Graph.Permit, Earliest.Exact, Labels.label}
use Rattle.theory_paths.specs.{Hops.Known, Hops.Counted}
use Rattle.theory_paths.proofs.Same.{chosen_traced}
use Rattle.theory_paths.specs.Chosen.{arc_into, back, traced, chosen}
use Rattle.theory_paths.proofs.Chosen.{chosen_path, traced_fewest, arc_into_lem, last_tail, hop_few}
use Rattle.network.specs.Limits.{most_nodes}
use Rattle.search_labels.specs.{Notes.hops_in, Reach.Reached}
use Rattle.search_path.specs.Trail.{node_back, arc_back, road_to, Trail}

-- v lies on the chosen path to t, n arcs before its end.
pub record Walk (g : Graph) (p : Permit) (s : ℕ) (L : List ℕ) (H : ℕ → ℕ) (B t v n : ℕ) : Type 0 where
  pub known : Known g L B v
  pub fuel : ℕ
  pub room : H v < fuel
  pub rest : List ℕ
  pub after : length rest ≡ n
  pub whole : chosen g p s L t ≡ back g p s L H fuel v rest

-- Arc a, the arc into v, stands in the chosen path before the n last ones, and its tail lies on the path.
pub record Onward (g : Graph) (p : Permit) (s : ℕ) (L : List ℕ) (H : ℕ → ℕ) (B t n a : ℕ) : Type 0 where
  pub listed : a < g.arcs
  pub more : n + 1 ≤ length (chosen g p s L t)
  pub few : n + 1 < g.nodes
  pub entry : get_or (chosen g p s L t) (length (chosen g p s L t) - (n + 1)) 0 ≡ a
  pub next : Walk g p s L H B t (g.tail a) (n + 1)

back_append : (g : Graph) (p : Permit) (s : ℕ) (L : List ℕ) (H : ℕ → ℕ) (k v : ℕ) (w : List ℕ)
    → back g p s L H k v w ≡ back g p s L H k v [] ++ w
unfolding back
back_append g p s L H zero v w = refl
back_append g p s L H (suc k) v w = go (eqb v s) (back_append g p s L H k (g.tail (arc_into g p L H v)))
  where
    a : ℕ
    a = arc_into g p L H v

    go : (q : Bool) → ((w : List ℕ) → back g p s L H k (g.tail a) w ≡ back g p s L H k (g.tail a) [] ++ w)
        → cond q w (back g p s L H k (g.tail a) (a ∷ w)) ≡ cond q []
        (back g p s L H k (g.tail a) (a ∷ [])) ++ w
    go true ih = refl
    go false ih = rw (ih (a ∷ w), ih (a ∷ []), append_assoc)

module _ {g : Graph} (ok : Lawful g) {p : Permit} {s : ℕ} (L : List ℕ) (H : ℕ → ℕ) {B : ℕ}
    (d : Counted g p s L H B) {t : ℕ} where
  pub walk_start : {x : ℕ} → Exact g p s x (label L) B → Known g L B t → Walk g p s L H B t t 0
  unfolding traced
  walk_start e c = record {
    known = c;
    fuel = g.nodes;
    room = hop_few ok L H d c;
    rest = [];
    after = refl;
    whole = sym (chosen_traced ok L H e d c);
  }

  pub walk_end : {v n : ℕ} → Walk g p s L H B t v n → v ≡ s → length (chosen g p s L t) ≡ n
  unfolding back
  walk_end {v} w e = go w.fuel w.room w.whole ∙ w.after
    where
      go : (k : ℕ) → H v < k → chosen g p s L t ≡ back g p s L H k v w.rest
          → length (chosen g p s L t) ≡ length w.rest
      go zero h q = absurd (omega arith)
      go (suc k) h q = ap length (rw (eq-eqb v s e) at q)

  pub walk_on : {v n : ℕ} → length (chosen g p s L t) < g.nodes → Walk g p s L H B t v n → v ≢ s → (a : ℕ)
      → a ≡ arc_into g p L H v → Onward g p s L H B t n a
  unfolding back
  walk_on {v} {n} c w ne a i = rw i (go w.fuel w.room w.whole)
    where
      a' : ℕ
      a' = arc_into g p L H v

      go : (k : ℕ) → H v < k → chosen g p s L t ≡ back g p s L H k v w.rest → Onward g p s L H B t n a'
      go zero h q = absurd (omega arith)
      go (suc k) h q =
          let r = arc_into_lem ok L H d v ne w.known in
          let z : chosen g p s L t ≡ back g p s L H k (g.tail a') (a' ∷ w.rest) = rw (ne_eqb v s ne) at q in
          let y = z ∙ back_append g p s L H k (g.tail a') (a' ∷ w.rest) in
          let l = simp length-append at (ap length y) in
          record {
            listed = r.tight.listed;
            more = omega (arith, w.after);
            few = omega (arith, w.after);
            entry = rw y (get_or_at (back g p s L H k (g.tail a') []) a' w.rest 0 _
                (simp length-append (omega (arith, w.after))));
            next = record {
              known = last_tail ok L H d v a' w.known r;
              fuel = k;
              room = omega (arith, r.fewer);
              rest = a' ∷ w.rest;
              after = omega (arith, w.after);
              whole = z;
            };
          }

-- BY THE NOTES of a search that reached t
module _ {g : Graph} (ok : Lawful g) (few : g.nodes ≤ most_nodes) {p : Permit} {s t : ℕ} {L K : List ℕ}
    (r : Reached g p s t L K) (k : Known g L (label L t) t) where
  pub trail_count : hops_in K t ≡ length (chosen g p s L t)
  trail_count = sym (traced_fewest ok L (hops_in K) r.counted k).count
      ∙ ap length (chosen_traced ok L (hops_in K) r.exact r.counted k)

  abbrev WalkedBack : ℕ → Type 0
  WalkedBack n = Walk g p s L (hops_in K) (label L t) t (node_back g K t n) n

  onward : (n : ℕ) → n < length (chosen g p s L t) → WalkedBack n
      → Onward g p s L (hops_in K) (label L t) t n (arc_back g K t n)
  onward n l w =
      let v = node_back g K t n in
      let ne : v ≢ s = λ e. omega (arith, walk_end ok L (hops_in K) r.counted w e) in
      let c = chosen_path ok L r.exact k in
      walk_on ok L (hops_in K) r.counted (omega (arith, c.short, k.node)) w ne (arc_back g K t n)
      (r.arcs v ne w.known)

  stands : (n : ℕ) → n ≤ length (chosen g p s L t) → WalkedBack n
  unfolding node_back
  stands zero l = walk_start ok L (hops_in K) r.counted r.exact k
  stands (suc n) l = let z : n + 1 ≡ suc n = omega arith in
      rw z at (onward n l (stands n (omega arith))).next

  pub trail : Trail g K t
  trail = record {
    node = k.node;
    few = omega (arith, hop_few ok L (hops_in K) r.counted k);
    arcs = λ n l. (onward n (omega (arith, trail_count)) (stands n (omega (arith, trail_count)))).listed;
  }

  pub trail_road : (i : ℕ) → i < length (chosen g p s L t) → road_to g K t i ≡ get_or (chosen g p s L t) i 0
  trail_road i l =
      let m = length (chosen g p s L t) in
      let n = m - 1 - i in
      let o = onward n (omega arith) (stands n (omega arith)) in
      let y : m - (n + 1) ≡ i = omega arith in
      ap (λ c. arc_back g K t (c - 1 - i)) trail_count ∙ sym o.entry
      ∙ ap (λ c. get_or (chosen g p s L t) c 0) y
