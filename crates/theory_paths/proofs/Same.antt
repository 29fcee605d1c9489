-- The chosen path does not depend on the labels and hops by which it is found: it is the same by any exact
-- labels as far as both know (`chosen_same`), and by any hops of them (`chosen_traced`), so a search that
-- carries hops comes to it.
use mathlib.Core.{Path.◌≡◌, Path.refl, Path.sym, Path.◌∙◌, Path.ap, Logic.◌≢◌, List.List, List.[], List.◌∷◌}
use Rattle.std.specs.Prelude.{Bool, true, false, cond, eqb}
use Prim.Native.Nat.{ℕ, zero, suc, ◌+◌, ◌≤◌, ◌<◌, min}
use native.Mathlib.{Nat.le_refl, Nat.le_trans, Nat.le_antisymm, Decide.ℕ_discrete, Decide.dec_lt, Omega.arith}
use Rattle.std.proofs.lemmas.Bool.{eqb-false}
use Rattle.theory_paths.specs.{Graph.Graph, Graph.Lawful, Graph.Permit, Labels.label}
use Rattle.theory_paths.specs.Earliest.{Exact}
use Rattle.theory_paths.proofs.Earliest.{exact_same}
use Rattle.theory_paths.specs.Hops.{Known, Tight, Last, Counted}
use Rattle.theory_paths.proofs.Hops.{tight_less, known_tail}
use Rattle.theory_paths.specs.Chosen.{explains, lowest, arc_into, back, traced, chosen}
use Rattle.theory_paths.proofs.Chosen.{explained, explaining, arc_into_lem, chosen_counted}
use Rattle.theory_paths.specs.Same.{SameStep, SameUpto}

pub bool_ext : (a b : Bool) → (a ≡ true → b ≡ true) → (b ≡ true → a ≡ true) → a ≡ b
bool_ext true b h k = sym (h refl)
bool_ext false true h k = k refl
bool_ext false false h k = refl

pub lowest_ext : {t u : ℕ → Bool} (k i : ℕ) → ((a : ℕ) → a < i + k → t a ≡ u a) → lowest t i k ≡ lowest u i k
unfolding lowest
lowest_ext zero i h = refl
lowest_ext {t} {u} (suc k) i h =
    rw (h i (omega arith), lowest_ext {t = t} {u = u} k (suc i) (λ a l. h a (omega arith)))

module _ (g h : Graph) (p q : Permit) (s : ℕ) (L M : List ℕ) (H K : ℕ → ℕ) (Q : ℕ → Type 0)
    (f : (v : ℕ) → Q v → v ≢ s → SameStep g h p q L M H K v × Q (g.tail (arc_into g p L H v))) where
  pub back_ext : (k v : ℕ) (w : List ℕ) → Q v → back g p s L H k v w ≡ back h q s M K k v w
  unfolding back
  back_ext zero v w c = refl
  back_ext (suc k) v w c = go (eqb v s) refl (back_ext k)
    where
      a : ℕ
      a = arc_into g p L H v

      b : ℕ
      b = arc_into h q M K v

      go : (t : Bool) → eqb v s ≡ t → ((v : ℕ) (w : List ℕ) → Q v
          → back g p s L H k v w ≡ back h q s M K k v w)
          → cond t w (back g p s L H k (g.tail a) (a ∷ w)) ≡ cond t w (back h q s M K k (h.tail b) (b ∷ w))
      go true e ih = refl
      go false e ih =
          let r = f v c (eqb-false v s e) in
          rw (← r.0.0, ← r.0.1) (ih (g.tail a) (a ∷ w) r.1)

-- v's label is known, and the same
record Both (g : Graph) (L M : List ℕ) (t v : ℕ) : Type 0 where
  known : Known g L (label L t) v
  same : label L v ≡ label M v

same_sym : {L M : List ℕ} {t : ℕ} → SameUpto L M t → SameUpto M L t
same_sym z = record { at = sym z.at; below = λ u. omega (arith, z.at, z.below u) }

both_sym : {g : Graph} {L M : List ℕ} {t v : ℕ} → SameUpto L M t → Both g L M t v → Both g M L t v
both_sym z b = record {
  known = record {
    node = b.known.node;
    upto = omega (arith, z.at, b.same, b.known.upto);
    known = omega (arith, b.same, b.known.known);
  };
  same = sym b.same;
}

module _ {g : Graph} (ok : Lawful g) {p : Permit} {L M : List ℕ} {t : ℕ} (z : SameUpto L M t) where
  carry : {v a : ℕ} → Both g L M t v → Tight g p L a → g.head a ≡ v
      → Tight g p M a × Both g L M t (g.tail a)
  carry {a = a} b r q =
      let k : Known g L (label L t) (g.tail a) = known_tail ok r (rw q b.known) in
      let d : label L (g.tail a) ≡ label M (g.tail a) =
      omega (arith, z.below (g.tail a), tight_less ok r, ap (label L) q, b.known.upto) in (
        record {
          listed = r.listed;
          permitted = r.permitted;
          known = omega (arith, r.known);
          at = rw (← d) (r.at ∙ rw q b.same);
        },
        record { known = k; same = d },
      )

  hop_le : {s : ℕ} {H K : ℕ → ℕ} → Counted g p s L H (label L t) → Counted g p s M K (label M t) → {v : ℕ}
      → Both g L M t v → v ≢ s
      → ((u : ℕ) → label L u < label L v → Both g L M t u → H u ≡ K u) → K v ≤ H v
  hop_le {K = K} c d {v} b ne ih =
      let (a, r) = c.last v ne b.known in
      let (k, m) = carry b r.tight r.enters in
      let l = d.least a k (rw r.enters (both_sym z b).known) in
      omega (
        arith,
        r.fewer,
        ap K r.enters,
        ih (g.tail a)
            (omega (arith, tight_less ok r.tight, ap (label L) r.enters)) m,
      )

module _ {g : Graph} (ok : Lawful g) {p : Permit} {s : ℕ} {L M : List ℕ} {H K : ℕ → ℕ} {t : ℕ}
    (z : SameUpto L M t) (c : Counted g p s L H (label L t)) (d : Counted g p s M K (label M t)) where
  hop_same : (k v : ℕ) → label L v < k → Both g L M t v → H v ≡ K v
  hop_same zero v l b = absurd (omega arith)
  hop_same (suc k) v l b = go (hop_same k) (ℕ_discrete v s)
    where
      go : ((v : ℕ) → label L v < k → Both g L M t v → H v ≡ K v) → Dec (v ≡ s) → H v ≡ K v
      go ih (yes q) = rw q (c.source ∙ sym d.source)
      go ih (no q) = le_antisymm
          (hop_le ok (same_sym z) d c (both_sym z b) q
          (λ u m r. let o = both_sym (same_sym z) r in sym (ih u (omega (arith, o.same, b.same)) o)))
          (hop_le ok z c d b q (λ u m r. ih u (omega arith) r))

  last_same : {v a : ℕ} → Both g L M t v → Last g p L H v a → Last g p M K v a
  last_same {v} {a} b r =
      let (k, m) = carry ok z b r.tight r.enters in
      record {
        tight = k;
        enters = r.enters;
        fewer = omega (
          arith,
          r.fewer,
          hop_same (suc (label L v)) v (le_refl _) b,
          hop_same
              (suc (label L (g.tail a))) (g.tail a) (le_refl _) m,
        );
      }

module _ {g : Graph} (ok : Lawful g) {p : Permit} {s : ℕ} {L M : List ℕ} {H K : ℕ → ℕ} {t : ℕ}
    (z : SameUpto L M t) (c : Counted g p s L H (label L t)) (d : Counted g p s M K (label M t)) where
  same_arc : {v : ℕ} → Both g L M t v → arc_into g p L H v ≡ arc_into g p M K v
  same_arc {v} b = lowest_ext g.arcs 0 λ a l. bool_ext (explains g p L H v a) (explains g p M K v a)
      (λ y. explaining g p M K v a (last_same ok z c d b (explained g p L H v a (omega arith) y)))
      (λ y. explaining g p L H v a (last_same ok (same_sym z) d c (both_sym z b)
      (explained g p M K v a (omega arith) y)))

  pub traced_same : Known g L (label L t) t → traced g p s L H t ≡ traced g p s M K t
  unfolding traced
  traced_same k = back_ext g g p p s L M H K (Both g L M t) (λ v b n.
      let r = arc_into_lem ok L H c v n b.known in
      ((same_arc b, refl), (carry ok z b r.tight r.enters).1))
      g.nodes t [] (record { known = k; same = z.at })

counted_less : {g : Graph} {p : Permit} {s : ℕ} {L : List ℕ} {H : ℕ → ℕ} {B C : ℕ} → C ≤ B
    → Counted g p s L H B → Counted g p s L H C
counted_less {g} {L = L} {B = B} {C = C} l c = record {
  source = c.source;
  last = λ v ne k. c.last v ne (wider k);
  least = λ a r k. c.least a r (wider k);
}
  where
    wider : {v : ℕ} → Known g L C v → Known g L B v
    wider k = record { node = k.node; upto = le_trans k.upto l; known = k.known }

here : {g : Graph} {L : List ℕ} {B t : ℕ} → Known g L B t → Known g L (label L t) t
here k = record { node = k.node; upto = le_refl _; known = k.known }

-- a search that carries hops H comes to the chosen path
pub chosen_traced : {g : Graph} (ok : Lawful g) {p : Permit} {s x : ℕ} (L : List ℕ) (H : ℕ → ℕ) {B : ℕ}
    → Exact g p s x (label L) B → Counted g p s L H B
    → {t : ℕ} → Known g L B t → traced g p s L H t ≡ chosen g p s L t
unfolding chosen
chosen_traced ok L H e c k =
    traced_same ok (record {
      at = refl;
      below = λ u. refl;
    }) (counted_less k.upto c) (counted_less k.upto (chosen_counted ok L e k)) (here k)

-- any exact labels give the same path, as far as both know
module _ {g : Graph} (ok : Lawful g) {p : Permit} {s x : ℕ} (L M : List ℕ) {B C : ℕ}
    (e : Exact g p s x (label L) B) (f : Exact g p s x (label M) C) where
  same_upto : {t : ℕ} → Known g L B t → label L t < C → SameUpto L M t
  same_upto {t} k h = record {
    at = sym (exact_same e f t k.upto k.known h);
    below = λ u. elim (dec_lt (label L u) (label L t)) [
      | yes l ↦ ap (min (label L t))
          (sym (exact_same e f u (omega (arith, k.upto)) (omega (arith, k.known)) (omega arith)))
      | no l ↦ elim (dec_lt (label M u) (label L t)) [
        | yes q ↦ ap (min (label L t)) (exact_same f e u (omega arith) (omega (arith, k.known))
            (omega (arith, k.upto)))
        | no q ↦ omega arith
      ]
    ];
  }

  pub chosen_same : {t : ℕ} → Known g L B t → label L t < C → chosen g p s L t ≡ chosen g p s M t
  unfolding chosen
  chosen_same {t} k h =
      let z = same_upto k h in
      let m : Known g M C t = record {
        node = k.node;
        upto = omega (arith, z.at);
        known = omega (arith, z.at, k.known);
      } in
      traced_same ok z (counted_less k.upto (chosen_counted ok L e k))
      (counted_less m.upto (chosen_counted ok M f m)) (here k)
