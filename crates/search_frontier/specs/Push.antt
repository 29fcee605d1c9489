-- A label is lowered: a node of the frontier gets another key, and a node without a label gets an entry. The
-- laws are in the shape of the needs of `relax`.
use mathlib.Core.{Path.◌≡◌, Path.refl, Path.sym, Path.◌∙◌, Path.ap, Logic.◌≢◌, Logic.inl, Logic.inr}
use Rattle.std.specs.Prelude.{List, [], ◌∷◌, ℕ, zero, suc, ◌+◌, ◌-◌, ◌≤◌, ◌<◌, length, get_or, set}
use native.Mathlib.{Decide.ℕ_discrete, Decide.dec_lt, Omega.arith}
use Rattle.std.proofs.Common.{length-set, get_or-set_same, get_or-set_other}
use Rattle.std.proofs.lemmas.List.{set-get_or}
use Rattle.theory_paths.specs.{Earliest.never, Labels.label}
use Rattle.theory_paths.proofs.Labels.{label_at}
use Rattle.network.specs.Limits.{most_nodes}
use Rattle.search_frontier.specs.Frontier.{
  key_of,
  node_of,
  node_at,
  Held,
  Frontier,
  Open,
  Grown,
  unknown,
  key_node,
  grown_same,
  apart,
  place_is,
  held_place,
}

unknown_set : (L : List ℕ) (v e : ℕ) → v < length L
    → unknown (set L v e) + (1 - (never - label L v)) ≡ unknown L + (1 - (never - e))
unfolding unknown
unknown_set [] v e l = absurd (omega arith)
unknown_set (d ∷ L) zero e l = omega arith
unknown_set (d ∷ L) (suc v) e l = omega (arith, unknown_set L v e (omega arith))

-- a label is lowered
module _ (L : List ℕ) (v e : ℕ) (l : v < length L) (h : e < label L v) where
  lowered_falls : (w : ℕ) → label (set L v e) w ≤ label L w
  lowered_falls w = elim (ℕ_discrete w v) [
    | yes q ↦ rw q (omega (arith, get_or-set_same L v e never l))
    | no q ↦ omega (arith, get_or-set_other L v w e never q)
  ]

  -- the only one that is
  lowered_other : (w : ℕ) → never ≤ label L w → label (set L v e) w < never → w ≡ v
  lowered_other w m k =
      elim (ℕ_discrete w v) [ yes q ↦ q | no q ↦ absurd (omega (arith, get_or-set_other L v w e never q)) ]

module _ {L Q P : List ℕ} {n : ℕ} (f : Frontier L Q P n) where
  -- a label is lowered of a node in the frontier: it gets another key
  module _ {v e : ℕ} (l : v < length L) (h : e < get_or L v 0) where
    less : e < label L v
    less = omega (arith, label_at L v l)

    inside : v < most_nodes
    inside = omega (arith, f.few)

    module _ (k : get_or L v 0 < never) (o : Held Q n v) where
      abbrev lowered : List ℕ
      lowered = set Q (get_or P v 0) (key_of e v)

      fits : get_or P v 0 < length Q
      fits = omega (arith, held_place f (get_or P v 0) v o refl, f.keys_long)

      here : get_or lowered (get_or P v 0) 0 ≡ key_of e v
      here = get_or-set_same Q (get_or P v 0) (key_of e v) 0 fits

      there : (j : ℕ) → j ≢ get_or P v 0 → get_or lowered j 0 ≡ get_or Q j 0
      there j q = get_or-set_other Q (get_or P v 0) j (key_of e v) 0 q

      own : node_at Q (get_or P v 0) ≡ v
      own = rw (place_is f o) o.is

      same_node : (j : ℕ) → node_at lowered j ≡ node_at Q j
      same_node j = elim (ℕ_discrete j (get_or P v 0)) [
        | yes q ↦ rw q (ap node_of here ∙ key_node e v inside ∙ sym own)
        | no q ↦ ap node_of (there j q)
      ]

      other : (j : ℕ) → j < n → j ≢ get_or P v 0 → node_at Q j ≢ v
      other j a q z = q (apart f j (get_or P v 0) a (omega (arith, place_is f o, o.inside)) (z ∙ sym own))

      lower_grown : Grown L (set L v e) Q lowered n n
      lower_grown = record {
        falls = lowered_falls L v e l less;
        stay = λ w i. record { place = i.place; inside = i.inside; is = same_node i.place ∙ i.is };
        new = λ w m i. let q = lowered_other L v e l less w m i in absurd
            (omega (arith, label_at L v l, rw q at m));
        no_more = λ w i. inl (record {
          place = i.place;
          inside = i.inside;
          is = sym (same_node i.place) ∙ i.is;
        });
        sum = omega (arith, unknown_set L v e l, label_at L v l);
      }

      lower_keyed : (j : ℕ) → j < n
          → get_or lowered j 0 ≡ key_of (label (set L v e) (node_at Q j)) (node_at Q j)
      lower_keyed j a = elim (ℕ_discrete j (get_or P v 0)) [
        | yes q ↦ rw (q, own, get_or-set_same L v e never l) here
        | no q ↦ there j q ∙ f.keyed j a ∙ ap (λ y. key_of y (node_at Q j))
            (sym (get_or-set_other L v (node_at Q j) e never (other j a q)))
      ]

      lower_front : Frontier (set L v e) lowered P n
      lower_front = record {
        keys_long = length-set Q _ _ ∙ f.keys_long;
        places_long = f.places_long;
        few = rw (length-set L v e) f.few;
        keyed = λ j a. rw (same_node j) (lower_keyed j a);
        placed = λ j a. rw (same_node j) (f.placed j a);
        known = λ j a. rw (same_node j)
            (omega (arith, lowered_falls L v e l less (node_at Q j), f.known j a));
        room = omega (arith, unknown_set L v e l, label_at L v l, f.room);
      }

    -- a label is lowered that was not known: its node gets an entry
    module _ (k : never ≤ get_or L v 0) (small : e < never) where
      pub push_room : n < most_nodes
      push_room = omega (arith, unknown_set L v e l, label_at L v l, f.room)

      new_here : get_or (set Q n (key_of e v)) n 0 ≡ key_of e v
      new_here = get_or-set_same Q n (key_of e v) 0 (omega (arith, push_room, f.keys_long))

      new_node : node_at (set Q n (key_of e v)) n ≡ v
      new_node = ap node_of new_here ∙ key_node e v inside

      new_there : (j : ℕ) → j < n → get_or (set Q n (key_of e v)) j 0 ≡ get_or Q j 0
      new_there j i = get_or-set_other Q n j (key_of e v) 0 (omega arith)

      -- v was not held
      absent : (j : ℕ) → j < n → node_at Q j ≢ v
      absent j i q = omega (arith, rw q at (f.known j i), label_at L v l)

      push_grown : Grown L (set L v e) Q (set Q n (key_of e v)) n (n + 1)
      push_grown = record {
        falls = lowered_falls L v e l less;
        stay = λ w i. record {
          place = i.place;
          inside = omega (arith, i.inside);
          is = ap node_of (new_there i.place i.inside) ∙ i.is;
        };
        new = λ w m i. record {
          place = n;
          inside = omega arith;
          is = new_node ∙ sym (lowered_other L v e l less w m i);
        };
        no_more = λ w i. elim (dec_lt i.place n) [
          | yes q ↦ inl (record {
            place = i.place;
            inside = q;
            is = sym (ap node_of (new_there i.place q)) ∙ i.is;
          })
          | no q ↦
              let z : i.place ≡ n = omega (arith, i.inside) in
              let y : w ≡ v = sym i.is ∙ rw z new_node in
              inr (rw y (omega (arith, label_at L v l)))
        ];
        sum = omega (arith, unknown_set L v e l, label_at L v l);
      }

      old_keyed : (j : ℕ) → j < n → get_or Q j 0 ≡ key_of (label (set L v e) (node_at Q j)) (node_at Q j)
      old_keyed j a = f.keyed j a ∙ ap (λ y. key_of y (node_at Q j))
          (sym (get_or-set_other L v (node_at Q j) e never (absent j a)))

      old_placed : (j : ℕ) → j < n → get_or (set P v n) (node_at Q j) 0 ≡ j
      old_placed j a = get_or-set_other P v (node_at Q j) n 0 (absent j a) ∙ f.placed j a

      old_known : (j : ℕ) → j < n → label (set L v e) (node_at Q j) < never
      old_known j a = omega (arith, lowered_falls L v e l less (node_at Q j), f.known j a)

      last : {j : ℕ} → j < n + 1 → (¬ (j < n)) → j ≡ n
      last a b = omega arith

      push_front : Frontier (set L v e) (set Q n (key_of e v)) (set P v n) (n + 1)
      push_front = record {
        keys_long = length-set Q _ _ ∙ f.keys_long;
        places_long = length-set P _ _ ∙ f.places_long;
        few = rw (length-set L v e) f.few;
        keyed = λ j a. elim (dec_lt j n) [
          | yes q ↦ rw (new_there j q) (old_keyed j q)
          | no q ↦ rw (last a q, new_node, get_or-set_same L v e never l) new_here
        ];
        placed = λ j a. elim (dec_lt j n) [
          | yes q ↦ rw (new_there j q) (old_placed j q)
          | no q ↦ rw (last a q, new_node) (get_or-set_same P v n 0 (omega (arith, inside, f.places_long)))
        ];
        known = λ j a. elim (dec_lt j n) [
          | yes q ↦ rw (new_there j q) (old_known j q)
          | no q ↦ rw (last a q, new_node) (omega (arith, get_or-set_same L v e never l))
        ];
        room = omega (arith, unknown_set L v e l, label_at L v l, f.room);
      }

-- FOR `relax`: a node in the frontier gets another key, or a node its first one; R and S are the tables that
-- code has written
module _ {L Q P : List ℕ} {n : ℕ} (f : Frontier L Q P n) {v e : ℕ} (l : v < length L) (h : e < get_or L v 0)
  where
    module _ {y : ℕ} (o : Open L Q n y) (a : y < get_or L v 0) (k : get_or L v 0 < never) where
      still : Held Q n v
      still = let z = label_at L v l in o.held v (omega arith) (omega arith)

      pub known_place : (at : ℕ) → at ≡ get_or P v 0 → at < most_nodes
      known_place at z = held_place f at v still z

      pub grown_known : (R : List ℕ) (m : ℕ) → R ≡ set Q (get_or P v 0) (key_of e v) → m ≡ n
          → Grown L (set L v e) Q R n m
      grown_known R m q z = rw (q, z) (lower_grown f l h k still)

      pub front_known : (R S : List ℕ) (m : ℕ) → R ≡ set Q (get_or P v 0) (key_of e v)
          → S ≡ set P v (get_or P v 0) → m ≡ n → Frontier (set L v e) R S m
      front_known R S m q w z = rw (q, w, z, set-get_or P v 0) (lower_front f l h k still)

    module _ (k : never ≤ get_or L v 0) (small : e < never) where
      pub grown_new : (R : List ℕ) (m : ℕ) → R ≡ set Q n (key_of e v) → m ≡ n + 1
          → Grown L (set L v e) Q R n m
      grown_new R m q z = rw (q, z) (push_grown f l h k small)

      pub front_new : (R S : List ℕ) (m : ℕ) → R ≡ set Q n (key_of e v) → S ≡ set P v n → m ≡ n + 1
          → Frontier (set L v e) R S m
      front_new R S m q w z = rw (q, w, z) (push_front f l h k small)

-- for `search pushes` at the needs of `relax`
pub ruleset pushes = (grown_same, grown_known, grown_new, front_known, front_new, push_room, known_place)
