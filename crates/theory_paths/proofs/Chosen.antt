-- The chosen path: back from the target, at each node by the lowest arc that is tight and comes from a node
-- with one hop less. From exact labels it is the way of document 02 (`IsChosen`, `chosen_is`), of which there
-- is one (`chosen_unique`); driven from x it ends at the target's label, with fewer arcs than there are nodes
-- (`chosen_path`), and it is empty exactly where source and target are the same (`chosen_empty`).
use Rattle.std.specs.Prelude.{◌≡◌, ◌≢◌, ◌⊎◌, ◌↔◌, Bool, true, false, cond}
use Rattle.std.proofs.Math.Path.{refl, sym, ap}
use Rattle.std.proofs.Common.{◌∙◌, inl, inr, true≢false, eqb-true, eq-eqb}
use Rattle.std.proofs.Math.Bool.{and-eq-true_iff}
use mathlib.Core.List.{List, [], ◌∷◌, ◌++◌, append_assoc, append-nil}
use Prim.Native.Nat.{ℕ, zero, suc, ◌+◌, ◌-◌, ◌≤◌, ◌<◌}
use native.Mathlib.{Nat.le_refl, Nat.le_antisymm, Nat.eq-or-lt_of_le, Decide.dec_lt, Omega.arith}
use lib.{Dec.eqb, ListN.length, ListN.length-append}
use Rattle.std.proofs.lemmas.Bool.{eqb-false}
use Rattle.theory_paths.specs.Graph.{Graph, Lawful, ends, Permit, ArcFrom, IsPath, stop, step, EarliestArrival}
use Rattle.theory_paths.proofs.Drive.{path_takes, arc_takes, arc_node}
use Rattle.theory_paths.proofs.Simple.{shorten}
use Rattle.theory_paths.specs.{Earliest.Exact, Labels.label}
use Rattle.theory_paths.proofs.Earliest.{earliest_unique}
use Rattle.theory_paths.specs.Hops.{tight, hops, Known, Tight, Last, Counted}
use Rattle.theory_paths.proofs.Hops.{is_tight, tight_is, tight_arc, tight_path, tight_driven, known_tail, hops_counted}
use Rattle.theory_paths.specs.Chosen.{explains, lowest, arc_into, back, traced, chosen, TightPath, EachLowest, EndsWith, IsChosen, Found, Fewest}

-- the lowest passes, if any does, and none below it does
pub lowest_passes : (test : ℕ → Bool) (k i a : ℕ) → i ≤ a → a < i + k → test a ≡ true
    → (test (lowest test i k) ≡ true) × (lowest test i k ≤ a)
unfolding lowest
lowest_passes test zero i a h l e = absurd (omega arith)
lowest_passes test (suc k) i a h l e = go (test i) refl
    (λ n. lowest_passes test k (suc i) a n (omega arith) e)
  where
    go : (q : Bool) → test i ≡ q
        → (i < a → (test (lowest test (suc i) k) ≡ true) × (lowest test (suc i) k ≤ a))
        → (test (cond q i (lowest test (suc i) k)) ≡ true) × (cond q i (lowest test (suc i) k) ≤ a)
    go true z r = (z, h)
    go false z r = r (low (eq-or-lt_of_le h))
      where
        low : (i ≡ a) ⊎ (i < a) → i < a
        low (inl q) = absurd (true≢false (sym e ∙ rw q at z))
        low (inr n) = n

lowest_least : (test : ℕ → Bool) (k b : ℕ) → lowest test 0 k < k → b < lowest test 0 k → test b ≡ false
lowest_least test k b l h = go (test b) refl
  where
    go : (q : Bool) → test b ≡ q → q ≡ false
    go true e = absurd (omega (arith, (lowest_passes test k 0 b (omega arith) (omega arith) e).1))
    go false e = refl

module _ (g : Graph) (p : Permit) (L : List ℕ) (H : ℕ → ℕ) (v a : ℕ) where
  pub explained : a < g.arcs → explains g p L H v a ≡ true → Last g p L H v a
  explained l e =
      let (q, e₁) = (and-eq-true_iff _ _).0 e in
      let (h, r) = (and-eq-true_iff _ _).0 e₁ in
      record { tight = is_tight l q; enters = eqb-true _ _ h; fewer = eqb-true _ _ r }

  pub explaining : Last g p L H v a → explains g p L H v a ≡ true
  explaining r = rw (tight_is r.tight, eq-eqb _ _ r.enters, eq-eqb _ _ r.fewer)

each_at : (g : Graph) (p : Permit) (L : List ℕ) (H : ℕ → ℕ) (v : List ℕ) (a : ℕ) (w : List ℕ)
    → EachLowest g p L H (v ++ a ∷ w) → (b : ℕ) → b < a → explains g p L H (g.head a) b ≡ false
each_at g p L H [] a w h = h.0
each_at g p L H (b ∷ v) a w h = each_at g p L H v a w h.1

-- a path in two parts; two that end alike start alike
path_split : {g : Graph} {p : Permit} {s t : ℕ} {w : List ℕ} (v : List ℕ) → IsPath g p s t (v ++ w)
    → (u : ℕ) × IsPath g p s u v × IsPath g p u t w
path_split {s = s} [] i = (s, stop refl, i)
path_split (a ∷ v) (step f i) = let (u, j, k) = path_split v i in (u, step f j, k)

same_start : {g : Graph} {p : Permit} {u v t : ℕ} {w : List ℕ} → IsPath g p u t w → IsPath g p v t w → u ≡ v
same_start (stop e) (stop q) = e ∙ sym q
same_start (step f i) (step h j) = sym f.leaves ∙ h.leaves

same_head : {g : Graph} {p : Permit} {u v t a b : ℕ} {w : List ℕ} → IsPath g p u t (a ∷ w)
    → IsPath g p v t (b ∷ w) → g.head a ≡ g.head b
same_head (step f i) (step h j) = same_start i j

source_node : {g : Graph} {p : Permit} {s t : ℕ} {w : List ℕ} → Lawful g → t < g.nodes → IsPath g p s t w
    → s < g.nodes
source_node ok l (stop e) = rw e l
source_node ok l (step f i) = arc_node ok f

module _ {g : Graph} (ok : Lawful g) {p : Permit} {s : ℕ} (L : List ℕ) (H : ℕ → ℕ) {B : ℕ}
    (c : Counted g p s L H B) where
  pub last_tail : (v a : ℕ) → Known g L B v → Last g p L H v a → Known g L B (g.tail a)
  last_tail v a k r = known_tail ok r.tight (rw r.enters k)

  pub arc_into_lem : (v : ℕ) → v ≢ s → Known g L B v → Last g p L H v (arc_into g p L H v)
  arc_into_lem v ne k =
      let (a, r) = c.last v ne k in
      let l = r.tight.listed in
      let (d, m) = lowest_passes (explains g p L H v) g.arcs 0 a (omega arith) (omega arith)
      (explaining g p L H v a r) in
      explained g p L H v (arc_into g p L H v) (omega arith) d

  -- a path over tight arcs to a known node starts at one, and along it the hops rise by one at most
  known_along : {u v : ℕ} {w : List ℕ} → IsPath g (tight g p L) u v w → Known g L B v → Known g L B u
  known_along (stop e) k = rw e k
  known_along (step f i) k =
      rw f.leaves at (known_tail ok (is_tight {g = g} {p = p} {L = L} f.listed f.permitted)
      (known_along i k))

  hop_along : {u v : ℕ} {w : List ℕ} → IsPath g (tight g p L) u v w → Known g L B v → H v ≤ H u + length w
  hop_along (stop e) k = omega (arith, ap H e)
  hop_along (step {a = a} f i) k =
      let l = c.least a (is_tight f.listed f.permitted) (known_along i k) in
      omega (arith, hop_along i k, ap H f.leaves)

  -- where it has no more arcs than its end has hops, it comes to every node by a last arc of fewest
  last_of : {t u b : ℕ} {v w : List ℕ} → Known g L B t → IsPath g (tight g p L) s u v
      → IsPath g (tight g p L) u t (b ∷ w)
      → length v + suc (length w) ≡ H t → Last g p L H (g.head b) b
  last_of {b = b} k i (step f j) l =
      let r : Tight g p L b = is_tight f.listed f.permitted in
      let o = hop_along i (known_along (step f j) k) in
      let m = c.least b r (known_along j k) in
      record { tight = r; enters = refl; fewer = omega (arith, hop_along j k, ap H f.leaves, c.source) }

  -- Going back by more arcs than v has hops leads to s.
  record Back (t v : ℕ) (w r : List ℕ) : Type 0 where
    leads : IsPath g (tight g p L) s t r
    count : length r ≡ H v + length w
    lowest : EachLowest g p L H w → EachLowest g p L H r

  abbrev Leads : ℕ → ℕ → Type 0
  Leads t k = (v : ℕ) (w : List ℕ) → Known g L B v → IsPath g (tight g p L) v t w → H v < k
      → Back t v w (back g p s L H k v w)

  back_step : (t k : ℕ) → Leads t k → Leads t (suc k)
  unfolding back
  back_step t k ih v w d i l = go (eqb v s) refl
    where
      a : ℕ
      a = arc_into g p L H v

      low : (b : ℕ) → a < g.arcs → b < a → explains g p L H v b ≡ false
      low b = lowest_least (explains g p L H v) g.arcs b

      go : (q : Bool) → eqb v s ≡ q → Back t v w (cond q w (back g p s L H k (g.tail a) (a ∷ w)))
      go true q =
          let z : v ≡ s = eqb-true v s q in
          record { leads = rw z at i; count = omega (arith, c.source, ap H z); lowest = λ e. e }
      go false q =
          let r = arc_into_lem v (eqb-false v s q) d in
          let j = ih (g.tail a) (a ∷ w) (last_tail v a d r) (step (tight_arc r.tight) (rw r.enters i))
          (omega (arith, r.fewer)) in
          record {
            leads = j.leads;
            count = omega (arith, j.count, r.fewer);
            lowest = λ e. j.lowest (λ b h. rw r.enters (low b r.tight.listed h), e);
          }

  back_found : (t k : ℕ) → Leads t k
  back_found t zero = λ v w d i l. absurd (omega arith)
  back_found t (suc k) = back_step t k (back_found t k)

  module _ {t : ℕ} (k : Known g L B t) where
    -- fewer hops than there are nodes
    pub hop_few : H t < g.nodes
    hop_few =
        let i = (back_found t (suc (H t)) t [] k (stop refl) (le_refl _)).leads in
        let r = shorten ok 0 (source_node ok k.node i) i in
        omega (arith, r.short, hop_along r.leads k, c.source)

    found : Back t t [] (traced g p s L H t)
    unfolding traced
    found = back_found t g.nodes t [] k (stop refl) hop_few

    pub traced_fewest : Fewest g p L s t (H t) (traced g p s L H t)
    traced_fewest = record {
      leads = found.leads;
      count = omega (arith, found.count);
      least = λ v i. omega (arith, hop_along i k, c.source);
    }

    pub traced_path : Found g p s (label L s) t (label L t) (g.nodes - 1) (traced g p s L H t)
    traced_path = record {
      leads = tight_path g p L found.leads;
      at = tight_driven g p L found.leads;
      short = omega (arith, found.count, hop_few);
    }

    pub traced_lowest : EachLowest g p L H (traced g p s L H t)
    traced_lowest = found.lowest tt

-- From exact labels.
module _ {g : Graph} (ok : Lawful g) {p : Permit} {s x : ℕ} (L : List ℕ) {B : ℕ}
    (e : Exact g p s x (label L) B) {t : ℕ} (k : Known g L B t) where
  pub chosen_counted : Counted g p s L (label (hops g p s L)) B
  chosen_counted =
      hops_counted ok (source_node ok k.node (e.earliest t k.upto k.known).arrival.leads) L e

  pub chosen_path : Found g p s x t (label L t) (g.nodes - 1) (chosen g p s L t)
  unfolding chosen
  chosen_path = rw e.source at (traced_path ok L (label (hops g p s L)) chosen_counted k)

  chosen_few : Fewest g p L s t (label (hops g p s L) t) (chosen g p s L t)
  unfolding chosen
  chosen_few = traced_fewest ok L (label (hops g p s L)) chosen_counted k

  -- from a node to itself no arc is taken, and from a node to another some are
  pub chosen_empty : (chosen g p s L t ≡ []) ↔ (s ≡ t)
  chosen_empty = (
    λ q. ends_there (rw q at chosen_path.leads),
    λ q. none (chosen g p s L t)
        (chosen_few.count ∙ ap (label (hops g p s L)) (sym q) ∙ chosen_counted.source),
  )
    where
      ends_there : IsPath g p s t [] → s ≡ t
      ends_there (stop q) = q

      none : (w : List ℕ) → length w ≡ 0 → w ≡ []
      none [] q = refl
      none (a ∷ w) q = absurd (omega arith)

  -- the paths over tight arcs are the permitted paths that reach each of their nodes at its earliest arrival
  tight_each : {u : ℕ} {w : List ℕ} → IsPath g (tight g p L) u t w → TightPath g p s x u (label L u) w
  tight_each (stop q) = rw q (e.earliest t k.upto k.known)
  tight_each {u} {w = a ∷ w} (step f i) =
      let o = path_takes ok (label L u) (tight_path g p L (step f i)) in
      let z = tight_driven g p L (step f i) in
      let q = rw f.leaves at (is_tight {g = g} {p = p} {L = L} f.listed f.permitted).at in
      (e.earliest u (omega (arith, k.upto)) (omega (arith, k.known)), rw q (tight_each i))

  each_step : {u y a : ℕ} {w : List ℕ} → ArcFrom g p u a → EarliestArrival g p s x u y
      → ends g a y ≡ label L (g.head a) → IsPath g (tight g p L) (g.head a) t w
      → (y ≡ label L u) × IsPath g (tight g p L) u t (a ∷ w)
  each_step {u} {y} {a} f r z j =
      let o = path_takes ok (label L (g.head a)) (tight_path g p L j) in
      let q = tight_driven g p L j in
      let m = arc_takes ok y f in
      let b = r.arrival in
      let l = e.least u b.path b.leads (omega (arith, b.at, k.upto)) in
      let d = earliest_unique r (e.earliest u (omega (arith, b.at, k.upto))
      (omega (arith, b.at, k.known))) in
      let h : Tight g p L a = record {
        listed = f.listed;
        permitted = f.permitted;
        known = rw f.leaves (omega (arith, k.known));
        at = rw (f.leaves, ← d) z;
      } in
      (d, step (rw f.leaves at (tight_arc h)) j)

  each_tight : {u y : ℕ} {w : List ℕ} → IsPath g p u t w → TightPath g p s x u y w
      → (y ≡ label L u) × IsPath g (tight g p L) u t w
  each_tight (stop q) r = (
    earliest_unique (rw q at r) (e.earliest t k.upto k.known)
        ∙ ap (label L) (sym q),
    stop q,
  )
  each_tight (step f i) r = let (z, j) = each_tight i r.1 in each_step f r.0 z j

  chosen_lowest : (v : List ℕ) → IsPath g p s t v → TightPath g p s x s x v
      → length v ≡ length (chosen g p s L t)
      → (a b : ℕ) (w : List ℕ) → EndsWith a w (chosen g p s L t) → EndsWith b w v → a ≤ b
  unfolding chosen
  chosen_lowest v i r l a b w (v₁, q) (v₂, z) =
      let H = label (hops g p s L) in
      let j = path_split v₁ (rw q at chosen_few.leads) in
      let o = path_split v₂ (rw z at (each_tight i r).1) in
      let n : length v₂ + suc (length w) ≡ H t = sym (length-append v₂ (b ∷ w)) ∙ ap length (sym z) ∙ l
      ∙ chosen_few.count in
      let d : Last g p L H (g.head a) b = rw (same_head j.2 o.2)
      (last_of ok L H chosen_counted k o.1 o.2 n) in
      let m = each_at g p L H v₁ a w (rw q at (traced_lowest ok L H chosen_counted k)) in
      elim (dec_lt b a) [
        | yes c ↦ absurd (true≢false (sym (explaining g p L H (g.head a) b d) ∙ m b c))
        | no c ↦ omega arith
      ]

  pub chosen_is : IsChosen g p s x t (chosen g p s L t)
  chosen_is = record {
    leads = chosen_path.leads;
    tight = rw e.source at (tight_each chosen_few.leads);
    fewest = λ w i r. omega (arith, chosen_few.count, chosen_few.least w (each_tight i r).1);
    lowest = chosen_lowest;
  }

-- there is one such path
last_off : (v : List ℕ) (k : ℕ) → length v ≡ suc k
    → (a : ℕ) × (w : List ℕ) × (v ≡ w ++ a ∷ []) × (length w ≡ k)
last_off [] k l = absurd (omega arith)
last_off (a ∷ []) k l = (a, [], refl, omega arith)
last_off (a ∷ b ∷ v) zero l = absurd (omega arith)
last_off (a ∷ b ∷ v) (suc k) l = let (c, w, e, q) =
    last_off (b ∷ v) k (omega arith) in (c, a ∷ w, ap (λ y. a ∷ y) e, omega arith)

pub chosen_unique : {g : Graph} {p : Permit} {s x t : ℕ} {v w : List ℕ} → IsChosen g p s x t v
    → IsChosen g p s x t w → v ≡ w
chosen_unique {v = v} {w = w} c d = go (length v) v w [] refl (sym same) (sym (append-nil v))
    (sym (append-nil w))
  where
    same : length v ≡ length w
    same = le_antisymm (c.fewest w d.leads d.tight) (d.fewest v c.leads c.tight)

    go : (k : ℕ) (v₁ w₁ end : List ℕ) → length v₁ ≡ k → length w₁ ≡ k → v ≡ v₁ ++ end → w ≡ w₁ ++ end → v ≡ w
    go zero [] [] end l m q z = q ∙ sym z
    go zero (a ∷ v₁) w₁ end l m q z = absurd (omega arith)
    go zero [] (b ∷ w₁) end l m q z = absurd (omega arith)
    go (suc k) v₁ w₁ end l m q z =
        let (a, v₂, e, i) = last_off v₁ k l in
        let (b, w₂, f, j) = last_off w₁ k m in
        let y : v ≡ v₂ ++ a ∷ end = q ∙ ap (λ n. n ++ end) e ∙ append_assoc v₂ (a ∷ []) end in
        let o : w ≡ w₂ ++ b ∷ end = z ∙ ap (λ n. n ++ end) f ∙ append_assoc w₂ (b ∷ []) end in
        let h = c.lowest w d.leads d.tight (sym same) a b end (v₂, y) (w₂, o) in
        let n = d.lowest v c.leads c.tight same b a end (w₂, o) (v₂, y) in
        let r : b ≡ a = le_antisymm n h in
        go k v₂ w₂ (a ∷ end) i j y (o ∙ ap (λ u. w₂ ++ u ∷ end) r)
