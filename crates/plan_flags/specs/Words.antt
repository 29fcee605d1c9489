-- The flag words that a planner gives, by the borders below a number (`Flags`): at first an arc has the flag
-- of a cell in which both its ends lie, and each border then adds the flag of its cell to the arcs that start
-- a least path to it. The laws of the loops over the arcs.
use mathlib.Core.{Path.◌≡◌, Path.refl, Path.sym, Path.◌∙◌, Logic.◌≢◌, List.List}
use Rattle.std.specs.Prelude.{Bool, true, false, cond, ◌&&◌, ◌||◌, ℕ, ◌+◌, ◌^◌, ◌≤◌, ◌<◌}
use Rattle.std.proofs.Math.Bool.{or-false}
use native.Mathlib.{Omega.arith, Decide.ℕ_discrete}
use lib.{ListN.length, ListN.get_or, Dec.eqb}
use Rattle.std.proofs.Common.{eq-eqb, ne_eqb}
use Rattle.theory_loops.specs.Fill.{Filled}
use Rattle.theory_paths.specs.Least.{least_ticks}
use Rattle.theory_paths.specs.Planned.{starts, planned}
use Rattle.theory_paths.proofs.Planned.{planned_none, planned_more}
use Rattle.network.specs.declared.header.Layout.{Layout}
use Rattle.network.specs.{Limits.most_cells, Decode.decode, Town.graph_of, Town.partition_of}
use Rattle.network.specs.Network.{Network, arcs, cell, tail, head}
use Rattle.search_chains.specs.Town.{Town, tail_node}
use Rattle.plan.specs.{Border.border_at, Plan.bit}
use Rattle.plan.specs.Word.{word_of, word_bit, word_same, word_none, word_set, word_room}

-- arc a's flag word by the borders below number i
abbrev pub planned_word : Network → ℕ → ℕ → ℕ
planned_word n i a = word_of n.cells (planned (graph_of n) (cell n) i (border_at (partition_of n)) a)

-- The words of all arcs are these.
pub record Flags (n : Network) (i : ℕ) (words : List ℕ) : Type 0 where
  pub long : arcs n ≤ length words
  pub word : (a : ℕ) → a < arcs n → get_or words a 0 ≡ planned_word n i a

-- What one border more, node b, makes of them.
pub record FlagsAfter (n : Network) (b : ℕ) (old new : List ℕ) : Type 0 where
  pub more : (i : ℕ) → border_at (partition_of n) i ≡ b → Flags n i old → Flags n (i + 1) new

-- a word with the flag of cell c, where t says so
unfoldable pub with_flag : ℕ → ℕ → Bool → ℕ
with_flag w c t = cond (bit w c) w (cond t (w + 2 ^ c) w)

-- arc a's word once border b is counted
unfoldable pub word_after : Network → ℕ → List ℕ → ℕ → ℕ
word_after n b words a =
    with_flag (get_or words a 0) (cell n b) (starts (graph_of n) (least_ticks (graph_of n) b) a)

-- FOR CODE that sets a flag: s is whether it stands, and r whether it is earned
module _ (w c : ℕ) {s : Bool} (here : s ≡ bit w c) where
  pub flag_stands : (t : Bool) → s ≡ true → w ≡ with_flag w c t
  unfolding with_flag
  flag_stands t e = rw (sym here ∙ e)

  pub flag_room : w < 2 ^ 64 → c < 64 → s ≡ false → w + 2 ^ c < 2 ^ 64
  flag_room h l e = word_room 64 w c h l (sym here ∙ e)

  module _ {r t : Bool} (earned : r ≡ t) (e : s ≡ false) where
    pub flag_left : r ≡ false → w ≡ with_flag w c t
    unfolding with_flag
    flag_left f = rw (sym here ∙ e, sym earned ∙ f)

    pub flag_set : {v : ℕ} → v ≡ 2 ^ c → r ≡ true → w + v ≡ with_flag w c t
    unfolding with_flag
    flag_set q f = rw (sym here ∙ e, sym earned ∙ f, q)

-- one flag more, or none
module _ (k : ℕ) (p q : ℕ → Bool) (c : ℕ) (l : c < k) (other : (d : ℕ) → d < k → d ≢ c → q d ≡ p d) where
  word_with : (t : Bool) → q c ≡ p c || t → with_flag (word_of k p) c t ≡ word_of k q
  unfolding with_flag
  word_with t e = rw (word_bit k p c l) (go (p c) t refl e)
    where
      same : p c ≡ q c → word_of k p ≡ word_of k q
      same e = word_same k p q
          (λ d m. elim (ℕ_discrete d c) [ yes z ↦ rw z e | no z ↦ sym (other d m z) ])

      go : (s t : Bool) → p c ≡ s → q c ≡ s || t
          → cond s (word_of k p) (cond t (word_of k p + 2 ^ c) (word_of k p)) ≡ word_of k q
      go true t x y = same (x ∙ sym y)
      go false false x y = same (x ∙ sym y)
      go false true x y = sym (word_set k p q c l x y other)

-- FOR CODE that has read the cell of node v
module _ {file : List ℕ} {l : Layout} (t : Town file l) {v c : ℕ} (h : v < l.nodes)
    (e : c ≡ cell (decode file) v) where
  pub cell_below : c < (decode file).cells
  cell_below = omega (arith, t.sound.cells_below v (omega (arith, t.sizes.nodes)))

  pub cell_few : c < most_cells
  cell_few = omega (arith, cell_below, t.sizes.cells, t.small.cells_most)

-- NO BORDER YET: arc a leads from node u in cell x to node v in cell y
module _ {file : List ℕ} {l : Layout} (t : Town file l) {a u v x y : ℕ} (h : a < l.arcs)
    (eu : u ≡ tail (decode file) a) (ev : v ≡ head (decode file) a) (ex : x ≡ cell (decode file) u)
    (ey : y ≡ cell (decode file) v) where
  abbrev n : Network
  n = decode file

  abbrev first : ℕ → Bool
  first = planned (graph_of n) (cell n) 0 (border_at (partition_of n)) a

  in_both : (c : ℕ) → first c ≡ eqb x c && eqb y c
  in_both c = rw (ex, ey, eu, ev) (planned_none (graph_of n) (cell n) (border_at (partition_of n)) a c)

  pub word_apart : x ≢ y → 0 ≡ planned_word n 0 a
  word_apart d =
      sym (word_same n.cells first (λ _. false) (λ c _. in_both c ∙ elsewhere c) ∙ word_none n.cells)
    where
      elsewhere : (c : ℕ) → eqb x c && eqb y c ≡ false
      elsewhere c = elim (ℕ_discrete x c) [
        | yes z ↦ rw (eq-eqb x c z, ne_eqb y c (λ w. d (z ∙ sym w)))
        | no z ↦ rw (ne_eqb x c z)
      ]

  pub word_inside : x ≡ y → 2 ^ x ≡ planned_word n 0 a
  word_inside e =
      omega (
        arith,
        word_none n.cells,
        word_set n.cells (λ _. false) first x (cell_below t (tail_node t a u h eu) ex) refl
            (in_both x ∙ rw (eq-eqb x x refl, eq-eqb y x (sym e)))
            (λ d _ ne. in_both d ∙ rw (ne_eqb x d (λ z. ne (sym z)))),
      )

pub flags_inside : {n : Network} {m : ℕ} {old new : List ℕ} → m ≡ arcs n → m ≤ length old
    → Filled 0 m (planned_word n 0) old new → Flags n 0 new
flags_inside e l f = record {
  long = omega (arith, f.long);
  word = λ a h. f.written a (omega arith) (omega arith);
}

-- ONE BORDER MORE, node b in cell c: the loop has come to arc a, whose word is still the old one
pub word_next : (n : Network) (b c a r : ℕ) (old new : List ℕ) → Filled 0 a (word_after n b old) old new
    → c ≡ cell n b → r ≡ with_flag (get_or new a 0) c (starts (graph_of n) (least_ticks (graph_of n) b) a)
    → r ≡ word_after n b old a
unfolding word_after
word_next n b c a r old new f e q = q ∙ rw (e, f.after a (omega arith))

pub flags_more : (n : Network) (b m : ℕ) (old new : List ℕ) → m ≡ arcs n → cell n b < n.cells
    → Filled 0 m (word_after n b old) old new → FlagsAfter n b old new
unfolding word_after
flags_more n b m old new e l f = record {
  more = λ i at s. record {
    long = omega (arith, f.long, s.long);
    word = λ a h. f.written a (omega arith) (omega arith) ∙ rw (s.word a h) (step i at a);
  };
}
  where
    step : (i : ℕ) → border_at (partition_of n) i ≡ b → (a : ℕ)
        → with_flag (planned_word n i a) (cell n b) (starts (graph_of n) (least_ticks (graph_of n) b) a)
        ≡ planned_word n (i + 1) a
    step i at a =
        let p = planned_more (graph_of n) (cell n) (border_at (partition_of n)) a in
        word_with n.cells _ _ (cell n b) l
        (λ d _ ne. p d i ∙ rw (at, ne_eqb (cell n b) d (λ z. ne (sym z))) (or-false _))
        (starts (graph_of n) (least_ticks (graph_of n) b) a)
        (p (cell n b) i ∙ rw (at, eq-eqb (cell n b) (cell n b) refl))
