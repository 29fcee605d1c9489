-- A node is taken out of the frontier: the last entry comes in its place. The laws are in the shape of the
-- needs of `take` and `settle`.
use mathlib.Core.{Path.◌≡◌, Path.refl, Path.sym, Path.◌∙◌, Path.ap, List.List}
use Rattle.std.specs.Prelude.{◌≢◌, ℕ, ◌-◌, ◌<◌}
use Rattle.std.proofs.Common.{inl, inr, ⊎_elim}
use native.Mathlib.{Decide.ℕ_discrete, Omega.arith}
use lib.{ListN.length, ListN.get_or, ListN.set, ListN.length-set, Seq.get_or-set_same, Seq.get_or-set_other}
use Rattle.theory_paths.specs.Labels.{label}
use Rattle.search_frontier.specs.Settle.{Moved}
use Rattle.search_frontier.specs.Frontier.{
  node_of,
  node_at,
  Held,
  Frontier,
  Open,
  Grown,
  entry_in,
  apart,
  place_is,
}

module _ {L Q P : List ℕ} {n : ℕ} (f : Frontier L Q P n) where
  -- FOR `settle`: the last entry in the place of u's
  module _ {u : ℕ} (o : Held Q n u) where
    abbrev i : ℕ
    i = get_or P u 0

    abbrev rest : List ℕ
    rest = set Q i (get_or Q (n - 1) 0)

    l : i < n
    l = omega (arith, place_is f o, o.inside)

    is_own : node_at Q i ≡ u
    is_own = rw (place_is f o) o.is

    -- where the entries of the rest stood
    from : ℕ → ℕ
    from j = elim (ℕ_discrete j i) [ yes q ↦ n - 1 | no q ↦ j ]

    room_for : i < length Q
    room_for = omega (arith, l, f.keys_long, f.room)

    was : (j : ℕ) → get_or rest j 0 ≡ get_or Q (from j) 0
    unfolding from
    was j = go (ℕ_discrete j i)
      where
        go : (d : Dec (j ≡ i)) → get_or rest j 0 ≡ get_or Q (elim d [ yes q ↦ n - 1 | no q ↦ j ]) 0
        go (yes q) = rw q (get_or-set_same Q i (get_or Q (n - 1) 0) 0 room_for)
        go (no q) = get_or-set_other Q i j (get_or Q (n - 1) 0) 0 q

    from_in : (j : ℕ) → j < n - 1 → (from j < n) × (from j ≢ i)
    unfolding from
    from_in j m = go (ℕ_discrete j i)
      where
        go : (d : Dec (j ≡ i))
            → (elim d [ yes q ↦ n - 1 | no q ↦ j ] < n) × (elim d [ yes q ↦ n - 1 | no q ↦ j ] ≢ i)
        go (yes q) = (omega arith, λ z. omega arith)
        go (no q) = (omega arith, q)

    out_placed : (j : ℕ) → j < n - 1 → get_or (set P (node_at Q (n - 1)) i) (node_at rest j) 0 ≡ j
    out_placed j m = elim (ℕ_discrete j i) [
      | yes q ↦
          let z : node_at rest j ≡ node_at Q (n - 1) =
          rw q (ap node_of (get_or-set_same Q i (get_or Q (n - 1) 0) 0 room_for)) in
          let y : node_at Q (n - 1) < length P = omega
          (arith, entry_in f (n - 1) _ (omega arith) refl, f.few, f.places_long) in
          rw z (get_or-set_same P (node_at Q (n - 1)) i 0 y ∙ sym q)
      | no q ↦
          let z : node_at rest j ≡ node_at Q j = ap node_of (get_or-set_other Q i j (get_or Q (n - 1) 0) 0 q) in
          let y : node_at Q j ≢ node_at Q (n - 1) = λ e. omega
          (arith, apart f j (n - 1) (omega arith) (omega arith) e) in
          rw z (get_or-set_other P (node_at Q (n - 1)) (node_at Q j) i 0 y ∙ f.placed j (omega arith))
    ]

    out_front : Frontier L rest (set P (node_at Q (n - 1)) i) (n - 1)
    out_front = record {
      keys_long = length-set Q _ _ ∙ f.keys_long;
      places_long = length-set P _ _ ∙ f.places_long;
      few = f.few;
      keyed = λ j a. rw (was j) (f.keyed (from j) (from_in j a).0);
      placed = out_placed;
      known = λ j a. rw (was j) (f.known (from j) (from_in j a).0);
      room = omega (arith, f.room);
    }

    out_stay : (v : ℕ) → Held Q n v → v ≢ u → Held rest (n - 1) v
    out_stay v h ne = elim (ℕ_discrete h.place (n - 1)) [
      | yes q ↦ record {
        place = i;
        inside = omega (arith, l, other);
        is = ap node_of (get_or-set_same Q i _ 0 room_for) ∙ rw (← q) h.is;
      }
      | no q ↦ record {
        place = h.place;
        inside = omega (arith, h.inside);
        is = ap node_of (get_or-set_other Q i h.place _ 0 other) ∙ h.is;
      }
    ]
      where
        other : h.place ≢ i
        other q = ne (sym h.is ∙ rw q is_own)

    out_no_more : (v : ℕ) → Held rest (n - 1) v → Held Q n v × (v ≢ u)
    out_no_more v h = (
      record {
        place = from h.place;
        inside = (from_in h.place h.inside).0;
        is = ap node_of (sym (was h.place)) ∙ h.is;
      },
      λ q. (from_in h.place h.inside).1
          (apart f (from h.place) i (from_in h.place h.inside).0 l
          (ap node_of (sym (was h.place)) ∙ h.is ∙ q ∙ sym is_own)),
    )

    out_moved : {M R : List ℕ} {m : ℕ} → Grown L M rest R (n - 1) m → Moved L M (Held Q n) (Held R m) u
    out_moved g = record {
      stay = λ v h ne. g.stay v (out_stay v h ne);
      new = g.new;
      no_more = λ v h. ⊎_elim (λ w. inl (out_no_more v w)) (λ w. inr w) (g.no_more v h);
    }

    out_open : {y : ℕ} → y ≡ label L u → Open L Q n y → Open L rest (n - 1) y
    out_open e p = record { held = λ v a b. out_stay v (p.held v a b) (λ q. omega (arith, ap (label L) q)) }

-- FOR `settle`: u is taken out
pub record Taken (Q P : List ℕ) (n u : ℕ) (R S : List ℕ) : Type 0 where
  pub keys : R ≡ set Q (get_or P u 0) (get_or Q (n - 1) 0)
  pub places : S ≡ set P (node_at Q (n - 1)) (get_or P u 0)

pub taken : (Q P R S : List ℕ) (n u at i v : ℕ) → at ≡ get_or P u 0 → i ≡ at → v ≡ node_at Q (n - 1)
    → R ≡ set Q i (get_or Q (n - 1) 0) → S ≡ set P v at → Taken Q P n u R S
taken Q P R S n u at i v e d q z w = record { keys = z ∙ rw (d, e); places = w ∙ rw (q, e) }

module _ {L Q P R S : List ℕ} {n u : ℕ} (f : Frontier L Q P n) (o : Held Q n u) (w : Taken Q P n u R S) where
  pub taken_front : Frontier L R S (n - 1)
  taken_front = rw (w.keys, w.places) (out_front f o)

  pub taken_open : {y : ℕ} → y ≡ label L u → Open L Q n y → Open L R (n - 1) y
  taken_open e p = rw w.keys (out_open f o e p)

  pub taken_moved : {M G : List ℕ} {m : ℕ} → Grown L M R G (n - 1) m → Moved L M (Held Q n) (Held G m) u
  taken_moved g = out_moved f o (rw w.keys at g)
