-- Relaxing the permitted arcs out of a node, taken at a tick: what one arc makes of the labels, what all of
-- them below a number have made of them, and the walk from each such arc to the next.
use mathlib.Core.{Path.◌≡◌, Path.refl, Path.sym, Path.◌∙◌, Path.ap, List.List}
use Rattle.std.specs.Prelude.{◌≢◌, ◌⊎◌, Bool, true, false, cond, ℕ, suc, ◌+◌, ◌≤◌, ◌<◌, min, length, get_or, set}
use Rattle.std.proofs.Common.{inl, inr, true≢false, length-set, get_or-set_same, get_or-set_other}
use native.Mathlib.{Nat.le_refl, Numerals.add-one, Omega.arith, Decide.ℕ_discrete, Decide.dec_le}
use Rattle.std.proofs.lemmas.List.{set-get_or}
use Rattle.theory_paths.specs.{Graph.Graph, Graph.ends, Graph.Permit, Graph.ArcFrom, Earliest.never}
use Rattle.theory_paths.specs.Labels.{label, lowered}
use Rattle.theory_paths.proofs.Labels.{label_at}
use Rattle.search_chains.specs.Chain.{NextArc}

-- Arc a, taken at tick y, lowers its head's label in N, if it is permitted.
abbrev pub relax_at : Graph → Permit → ℕ → ℕ → List ℕ → List ℕ
relax_at g p y a N = cond (p a) (lowered N (g.head a) (ends g a y)) N

-- v's label m is where a permitted arc out of u, taken at tick y, ends.
pub record ByArc (g : Graph) (p : Permit) (u y v m : ℕ) : Type 0 where
  pub arc : ℕ
  pub from : ArcFrom g p u arc
  pub enters : g.head arc ≡ v
  pub at : m ≡ ends g arc y

-- What relaxing the permitted arcs out of u below number k, taken at tick y, made of the labels L: none rose,
-- each of these arcs is obeyed, and a label that changed came about by an arc out of u.
pub record Relaxed (g : Graph) (p : Permit) (u y k : ℕ) (L M : List ℕ) : Type 0 where
  pub size : length M ≡ length L
  pub less : (v : ℕ) → label M v ≤ label L v
  pub least : (a : ℕ) → ArcFrom g p u a → a < k → label M (g.head a) ≤ ends g a y
  pub from : (v : ℕ) → (label M v ≡ label L v) ⊎ ByArc g p u y v (label M v)

-- how code comes to `relax_at`: v is the arc's head, and e the tick at which it ends
module _ (g : Graph) (p : Permit) (y a : ℕ) (N : List ℕ) where
  pub relax_less : (M : List ℕ) (v e : ℕ) → M ≡ set N v e → p a ≡ true → v ≡ g.head a → e ≡ ends g a y
      → v < length N → e < get_or N v 0 → M ≡ relax_at g p y a N
  relax_less M v e i h c q l m =
      let z : min (label N v) e ≡ e = omega (arith, label_at N v l) in
      i ∙ rw (h, ← c, ← q, z)

  pub relax_same : (v e : ℕ) → p a ≡ true → v ≡ g.head a → e ≡ ends g a y → v < length N → get_or N v 0 ≤ e
      → N ≡ relax_at g p y a N
  relax_same v e h c q l m =
      let z : min (label N v) e ≡ label N v = omega (arith, label_at N v l) in
      rw (h, ← c, ← q, z) (sym (set-get_or N v never))

  pub relax_late : (v : ℕ) → p a ≡ true → v ≡ g.head a → v < length N → get_or N v 0 ≤ y
      → N ≡ relax_at g p y a N
  unfolding ends
  relax_late v h c l m = relax_same v (ends g a y) h c (λ i. ends g a y) l (omega arith)

  pub relax_not : p a ≡ false → N ≡ relax_at g p y a N
  relax_not h = rw h

-- No permitted arc out of u is numbered from i up to j.
abbrev pub NoArc : Graph → Permit → ℕ → ℕ → ℕ → Type 0
NoArc g p u i j = (a : ℕ) → ArcFrom g p u a → i ≤ a → a < j → ⊥

pub no_arc : {g : Graph} {p : Permit} {u : ℕ} (i j : ℕ) → NextArc g.tail g.arcs u i j → NoArc g p u i j
no_arc i j n a f l m = n.none a l m f.listed f.leaves

-- what holds of the arcs out of u below i holds of those below j, if there is none between
pub extended : {g : Graph} {p : Permit} {u : ℕ} (Q : ℕ → Type 0) (i j : ℕ)
    → ((a : ℕ) → ArcFrom g p u a → a < i → Q a) → NoArc g p u i j
    → (a : ℕ) → ArcFrom g p u a → a < j → Q a
extended Q i j h n a f l = elim (dec_le i a) [ yes m ↦ absurd (n a f m l) | no m ↦ h a f (omega arith) ]

module _ {g : Graph} {p : Permit} {u y : ℕ} {L : List ℕ} where
  -- an arc that is not permitted, and no more up to j
  skip : {M : List ℕ} (k j : ℕ) → Relaxed g p u y k L M → p k ≡ false → NoArc g p u (suc k) j
      → Relaxed g p u y j L M
  skip {M} k j r e n = record {
    size = r.size;
    less = r.less;
    least =
        extended (λ a. label M (g.head a) ≤ ends g a y) k j r.least (λ a f l m. elim (ℕ_discrete a k) [
          | yes q ↦ true≢false (sym f.permitted ∙ ap p q ∙ e)
          | no q ↦ n a f (omega arith) m
        ]);
    from = r.from;
  }

  lower : {M : List ℕ} (k j : ℕ) → Relaxed g p u y k L M → ArcFrom g p u k → g.head k < length M
      → NoArc g p u (suc k) j
      → Relaxed g p u y j L (lowered M (g.head k) (ends g k y))
  lower {M} k j r f h n = record {
    size = length-set M t m ∙ r.size;
    less = λ v. omega (arith, r.less v, fell v);
    least =
        extended (λ a. label N (g.head a) ≤ ends g a y) (suc k) j
        (λ a (d : ArcFrom g p u a) l. elim (ℕ_discrete a k) [
          | yes q ↦ rw q (omega (arith, here))
          | no q ↦ omega (arith, fell (g.head a), r.least a d (omega arith))
        ]) n;
    from = λ v. elim (ℕ_discrete v t) [ yes q ↦ at v q | no q ↦ rw (other v q) (r.from v) ];
  }
    where
      t : ℕ
      t = g.head k

      m : ℕ
      m = min (label M t) (ends g k y)

      N : List ℕ
      N = set M t m

      here : label N t ≡ m
      here = get_or-set_same M t m never h

      other : (v : ℕ) → v ≢ t → label N v ≡ label M v
      other v q = get_or-set_other M t v m never q

      fell : (v : ℕ) → label N v ≤ label M v
      fell v = elim (ℕ_discrete v t) [ yes q ↦ rw q (omega (arith, here)) | no q ↦ omega (arith, other v q) ]

      at : (v : ℕ) → v ≡ t → (label N v ≡ label L v) ⊎ ByArc g p u y v (label N v)
      at v q = elim (dec_le (label M t) (ends g k y)) [
        | yes l ↦ let e : label N v ≡ label M v = rw q (omega (arith, here)) in rw e (r.from v)
        | no l ↦ inr (record { arc = k; from = f; enters = sym q; at = rw q (omega (arith, here)) })
      ]

  -- one arc out of u more, and no other up to j
  relaxed_more : (k j : ℕ) {M : List ℕ} → Relaxed g p u y k L M → k < g.arcs → g.tail k ≡ u
      → g.head k < length M → NoArc g p u (suc k) j
      → Relaxed g p u y j L (relax_at g p y k M)
  relaxed_more k j {M} r l e h n = go (p k) refl
    where
      go : (q : Bool) → p k ≡ q → Relaxed g p u y j L (cond q (lowered M (g.head k) (ends g k y)) M)
      go true z = lower k j r (record { listed = l; permitted = z; leaves = e }) h n
      go false z = skip k j r z n

-- The walk stands at arc k out of u, or past the last; the arcs before are relaxed.
pub record Walked (g : Graph) (p : Permit) (u y k : ℕ) (L M : List ℕ) : Type 0 where
  pub done : Relaxed g p u y k L M
  pub here : k < g.arcs → g.tail k ≡ u

module _ {g : Graph} {p : Permit} {u y : ℕ} {L : List ℕ} where
  pub walk_first : (k : ℕ) → NextArc g.tail g.arcs u 0 k → Walked g p u y k L L
  walk_first k n = record {
    done = record {
      size = refl;
      less = λ v. le_refl _;
      least = λ a f l. absurd (no_arc 0 k n a f (omega arith) l);
      from = λ v. inl refl;
    };
    here = n.meets;
  }

  pub walk_next : (k j : ℕ) {M N : List ℕ} → Walked g p u y k L M → k < g.arcs → g.head k < length M
      → NextArc g.tail g.arcs u (k + 1) j
      → N ≡ relax_at g p y k M → Walked g p u y j L N
  walk_next k j w l h n e =
      let q : NextArc g.tail g.arcs u (suc k) j = rw add-one at n in
      rw e (record
      { done = relaxed_more k j w.done l (w.here l) h (no_arc (suc k) j q); here = n.meets })

  pub walk_last : (k z : ℕ) {M : List ℕ} → Walked g p u y k L M → y ≡ z → g.arcs ≤ k
      → Relaxed g p u z g.arcs L M
  walk_last k z w e l =
      let r = w.done in
      rw (← e) (record
      { size = r.size; less = r.less; least = λ a f m. r.least a f (omega arith); from = r.from })
