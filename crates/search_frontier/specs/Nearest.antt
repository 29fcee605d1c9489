-- The nearest node of the frontier: that of the least key, found by one pass over the keys. The invariant of
-- the pass is what it has found (`Least`) at the keys passed. Of nodes that are equally near, any will do.
use mathlib.Core.{Path.◌≡◌, Path.refl, Path.sym, Path.◌∙◌, List.List}
use Rattle.std.specs.Prelude.{ℕ, ◌+◌, ◌*◌, ◌^◌, ◌≤◌, ◌<◌, get_or}
use native.Mathlib.{Nat.le_refl, Nat.le_trans, Nat.le_of_lt, Decide.ℕ_discrete, Omega.arith}
use Rattle.theory_paths.specs.Labels.{label}
use Rattle.network.specs.Limits.{most_nodes}
use Rattle.search_frontier.specs.Settle.{Nearest}
use Rattle.search_frontier.specs.Frontier.{node_of, node_at, Held, Frontier}

-- The first n keys are in the same order as signed numbers.
pub record Small (Q : List ℕ) (n : ℕ) : Type 0 where
  pub below : (k : ℕ) → k < n → get_or Q k 0 < 2 ^ 31

-- r is the least of the first k keys.
pub record Least (Q : List ℕ) (k r : ℕ) : Type 0 where
  pub place : ℕ
  pub inside : place < k
  pub is : r ≡ get_or Q place 0
  pub least : (j : ℕ) → j < k → r ≤ get_or Q j 0

pub least_one : (Q : List ℕ) → Least Q 1 (get_or Q 0 0)
least_one Q = record {
  place = 0;
  inside = omega arith;
  is = refl;
  least = λ j m. let z : j ≡ 0 = omega arith in rw z (le_refl _);
}

-- the next key is less, or not
pub least_less : (Q : List ℕ) (k r x : ℕ) → Least Q k r → x ≡ get_or Q k 0 → x < r → Least Q (k + 1) x
least_less Q k r x h e l = record {
  place = k;
  inside = omega arith;
  is = e;
  least = λ j m. elim (ℕ_discrete j k) [
    | yes q ↦ rw (q, e) (le_refl _)
    | no q ↦ le_trans (le_of_lt l)
        (h.least j (omega arith))
  ];
}

pub least_more : (Q : List ℕ) (k r x : ℕ) → Least Q k r → x ≡ get_or Q k 0 → r ≤ x → Least Q (k + 1) r
least_more Q k r x h e l = record {
  place = h.place;
  inside = omega (arith, h.inside);
  is = h.is;
  least = λ j m. elim (ℕ_discrete j k) [ yes q ↦ rw (q, ← e) l | no q ↦ h.least j (omega arith) ];
}

-- and it is small, as they are
pub least_small : {Q : List ℕ} {n k r : ℕ} → Small Q n → Least Q k r → k ≤ n → r < 2 ^ 31
least_small s h l = rw h.is (s.below h.place (omega (arith, h.inside)))

pub least_end : (Q : List ℕ) (k n r : ℕ) → Least Q k r → k ≤ n → n ≤ k → Least Q n r
least_end Q k n r h a b = let e : k ≡ n = omega arith in rw e at h

-- its node is in the frontier, and none is nearer
module _ {L Q P : List ℕ} {n r u : ℕ} (f : Frontier L Q P n) (h : Least Q n r) (e : u ≡ node_of r) where
  own : node_at Q h.place ≡ u
  own = rw (← h.is) (sym e)

  pub least_held : Held Q n u
  least_held = record { place = h.place; inside = h.inside; is = own }

  pub least_nearest : Nearest L (Held Q n) u
  least_nearest v w =
      let a : r ≡ label L u * most_nodes + u = h.is ∙ rw own at (f.keyed h.place h.inside) in
      let b = rw w.is at (f.keyed w.place w.inside) in
      let m = h.least w.place w.inside in
      let c : v < most_nodes = omega (arith, w.is) in
      omega arith
