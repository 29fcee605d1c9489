-- How the borders are found in one pass over the arcs: after k arcs a node is marked where one of them enters
-- it from another cell. The laws of the loop that marks, of the one that lists what is marked, and of the
-- marks counted.
use mathlib.Core.{Path.◌≡◌, Path.refl, Path.sym, Path.◌∙◌, Path.ap, List.List}
use Rattle.std.specs.Prelude.{Bool, not, ◌&&◌, ℕ, zero, suc, ◌+◌, ◌≤◌, ◌<◌, length, get_or, set}
use Rattle.std.specs.Prelude.{take, replicate, count_by}
use Rattle.std.proofs.lemmas.List.Sums.{count_by_more_yes, count_by_more_no}
use Rattle.std.proofs.Math.Bool.{true, false, cond}
use native.Mathlib.{Numerals.add-one, Omega.arith, Decide.ℕ_discrete}
use Rattle.std.proofs.Common.{length-set, length-append, eq-eqb, ne_eqb, le-ltb, lt-ltb}
use Rattle.std.proofs.lemmas.List.{length-replicate, get_or-replicate}
use lib.{Seq.get_or-set_same, Seq.get_or-set_other, Dec.eqb, Dec.ltb}
use Rattle.theory_loops.specs.First.{first, any, first_le, yes_any, none_yet, first_more}
use Rattle.theory_loops.specs.{Fill.overwritten, Select.select, Select.Chosen}
use Rattle.theory_paths.specs.Partition.{Partition}
use Rattle.network.specs.Network.{Network, nodes, arcs, cell, tail, head}
use Rattle.network.specs.{Decode.decode, Decode.Laid, Decode.laid_sizes, Sound.SoundNetwork}
use Rattle.network.specs.Limits.{most_nodes}
use Rattle.network.specs.declared.header.Layout.{Layout}
use Rattle.network.specs.Town.{partition_of}
use Rattle.plan.specs.Border.{is_border, borders, border_count}

-- arc a enters node v from another cell
abbrev pub enters : Network → ℕ → ℕ → Bool
enters n v a = eqb (head n a) v && not (eqb (cell n (tail n a)) (cell n v))

-- the mark of node v after k arcs
abbrev pub mark : Network → ℕ → ℕ → ℕ
mark n k v = cond (any k (enters n v)) 1 0

pub record Marked (n : Network) (k : ℕ) (marks : List ℕ) : Type 0 where
  pub long : length marks ≡ most_nodes
  pub marked : (v : ℕ) → v < most_nodes → get_or marks v 0 ≡ mark n k v

-- one index more at which a test fails changes nothing
any_skip : (p : ℕ → Bool) (k : ℕ) → p k ≡ false → any (k + 1) p ≡ any k p
any_skip p k e = rw (add-one, first_more k p, e) (go (ltb (first k p) k) refl)
  where
    go : (t : Bool) → ltb (first k p) k ≡ t → ltb (cond t (first k p) (suc k)) (suc k) ≡ t
    go true h = lt-ltb (first k p) (suc k) (omega (arith, first_le p k))
    go false h = le-ltb (suc k) (suc k) (omega arith)

-- THE LOOP THAT MARKS
module _ (n : Network) where
  pub mark_none : Marked n 0 (replicate most_nodes 0)
  mark_none = record {
    long = length-replicate {A = ℕ} most_nodes 0;
    marked = λ v l. get_or-replicate most_nodes v 0 0 l ∙ rw (none_yet (enters n v));
  }

  -- arc a leads from t in cell x to h in cell y
  module _ (a : ℕ) (marks : List ℕ) (m : Marked n a marks) (h t x y : ℕ) (eh : h ≡ head n a)
      (et : t ≡ tail n a) (ex : x ≡ cell n t) (ey : y ≡ cell n h) where
    pub mark_set : (x ≡ y → ⊥) → h < most_nodes → Marked n (a + 1) (set marks h 1)
    mark_set d l = record {
      long = length-set marks h 1 ∙ m.long;
      marked = λ v k. elim (ℕ_discrete v h) [
        | yes q ↦
            rw q
            (get_or-set_same marks h 1 0 (omega (arith, m.long))
            ∙ sym (ap (λ (b : Bool). cond b 1 0) (yes_any (enters n h) (a + 1) a (omega arith) entered)))
        | no q ↦
            get_or-set_other marks h v 1 0 q
            ∙ (m.marked v k ∙ ap (λ (b : Bool). cond b 1 0) (sym (any_skip (enters n v) a (elsewhere v q))))
      ];
    }
      where
        entered : enters n h a ≡ true
        entered =
            rw (eq-eqb (head n a) h (sym eh), ← et, ne_eqb (cell n t) (cell n h) (λ z. d (ex ∙ z ∙ sym ey)))

        elsewhere : (v : ℕ) → (v ≡ h → ⊥) → enters n v a ≡ false
        elsewhere v q = rw (ne_eqb (head n a) v (λ z. q (sym z ∙ sym eh)))

    pub mark_skip : x ≡ y → Marked n (a + 1) marks
    mark_skip d = record {
      long = m.long;
      marked =
          λ v k. m.marked v k ∙ ap (λ (b : Bool). cond b 1 0) (sym (any_skip (enters n v) a (within v)));
    }
      where
        within : (v : ℕ) → enters n v a ≡ false
        within v = elim (ℕ_discrete v h) [
          | yes q ↦ rw (q, eq-eqb (head n a) h (sym eh), ← et, eq-eqb (cell n t) (cell n h) (sym ex ∙ d ∙ ey))
          | no q ↦ rw (ne_eqb (head n a) v (λ z. q (sym z ∙ sym eh)))
        ]

  pub mark_end : (k m : ℕ) (marks : List ℕ) → Marked n k marks → k ≤ m → m ≤ k → m ≡ arcs n
      → Marked n (arcs n) marks
  mark_end k m marks h a b e = let q : k ≡ arcs n = omega arith in rw q at h

-- the ends of an arc of a sound network are nodes
module _ {file : List ℕ} {l : Layout} (s : Laid file l) (f : SoundNetwork (decode file)) {a : ℕ}
    (h : a < l.arcs) where
  pub head_below : {r : ℕ} → r ≡ head (decode file) a → r < l.nodes
  head_below e = omega (arith, e, laid_sizes s, f.arc a (omega (arith, laid_sizes s)))

  pub tail_below : {r : ℕ} → r ≡ tail (decode file) a → r < l.nodes
  tail_below e = omega (arith, e, laid_sizes s, f.arc a (omega (arith, laid_sizes s)))

-- for `search markings` at the needs of that loop
pub ruleset markings = (mark_none, mark_set, mark_skip, mark_end, head_below, tail_below)

-- THE LOOP THAT LISTS
module _ (n : Network) (marks : List ℕ) (m : Marked n (arcs n) marks) where
  pub border_yes : (v : ℕ) → v < most_nodes → (get_or marks v 0 ≡ 0 → ⊥) → is_border (partition_of n) v ≡ true
  unfolding is_border
  border_yes v l h = go (any (arcs n) (enters n v)) refl
    where
      go : (t : Bool) → any (arcs n) (enters n v) ≡ t → any (arcs n) (enters n v) ≡ true
      go true e = e
      go false e = absurd (h (m.marked v l ∙ ap (λ (b : Bool). cond b 1 0) e))

  pub border_no : (v : ℕ) → v < most_nodes → get_or marks v 0 ≡ 0 → is_border (partition_of n) v ≡ false
  unfolding is_border
  border_no v l h = go (any (arcs n) (enters n v)) refl
    where
      go : (t : Bool) → any (arcs n) (enters n v) ≡ t → any (arcs n) (enters n v) ≡ false
      go true e = absurd (omega (arith, sym h ∙ m.marked v l ∙ ap (λ (b : Bool). cond b 1 0) e))
      go false e = e

pub borders_listed : (G : Partition) (c : ℕ) (old new : List ℕ)
    → Chosen G.graph.nodes (is_border G) c old new
    → (c ≡ border_count G) × (new ≡ overwritten (borders G) old)
unfolding borders
borders_listed G c old new h = (h.count, h.list)

-- THE COUNT of the marks
module _ (n : Network) (marks : List ℕ) (m : Marked n (arcs n) marks) where
  abbrev is_one : ℕ → Bool
  is_one mark = not (eqb mark 0)

  abbrev border : ℕ → Bool
  border = is_border (partition_of n)

  is_marked : (v : ℕ) → v < most_nodes → is_one (get_or marks v 0) ≡ border v
  unfolding is_border
  is_marked v l = rw (m.marked v l) (go (any (arcs n) (enters n v)))
    where
      go : (t : Bool) → not (eqb (cond t 1 0) 0) ≡ t
      go true = refl
      go false = refl

  marks_counted : (v : ℕ) → v ≤ most_nodes → count_by is_one (take v marks) ≡ length (select v border)
  unfolding select
  marks_counted zero l = refl
  marks_counted (suc v) l = go (marks_counted v (omega arith)) (border v) refl
    where
      within : v < length marks
      within = omega (arith, m.long)

      go : count_by is_one (take v marks) ≡ length (select v border) → (t : Bool) → border v ≡ t
          → count_by is_one (take (suc v) marks) ≡ length (select (suc v) border)
      go before true e =
          let a : count_by is_one (take (suc v) marks) ≡ count_by is_one (take v marks) + 1 =
          rw (← add-one v) (count_by_more_yes is_one marks v 0 within (is_marked v (omega arith) ∙ e)) in
          rw (e, select, length-append) (omega (arith, a, before))
      go before false e =
          let a : count_by is_one (take (suc v) marks) ≡ count_by is_one (take v marks) =
          rw (← add-one v) (count_by_more_no is_one marks v 0 within (is_marked v (omega arith) ∙ e)) in
          rw (e, select) (a ∙ before)

  pub borders_counted : {k c : ℕ} → c ≡ count_by is_one (take k marks) → k ≡ nodes n → k ≤ most_nodes
      → c ≡ border_count (partition_of n)
  unfolding borders
  borders_counted {k} {c} e q l = e ∙ marks_counted k l ∙ ap (λ (j : ℕ). length (select j border)) q
