-- Numbers in one list, row by row: node u's number at tick x stands at place u × period + x. What an arc
-- lowered into the row of its tail makes of the list.
use mathlib.Core.{Path.◌≡◌, Path.refl, Path.sym, Path.◌∙◌, Path.ap, Bool.Bool, Bool.false, Logic.◌≢◌}
use Rattle.std.specs.Prelude.{List, ◌++◌, ℕ, ◌+◌, ◌-◌, ◌*◌, ◌%◌, ◌≤◌, ◌<◌, min, length, get_or, take, drop}
use native.Mathlib.{Nat.mod-lt, Nat.mul-le-mul_right, Omega.arith, Decide.dec_lt}
use Rattle.std.proofs.Common.{length-append, length-take, length-drop, ext_get_or, get_or-append-add, get_or-take, length-take-le}
use Rattle.std.proofs.Math.ListN.{get_or-append}
use Rattle.std.proofs.Math.Seq.{get_or-drop}
use Rattle.theory_loops.specs.Grid.{grid_at}
use Rattle.theory_paths.specs.{Graph.Graph, Least.Travels, Least.least_ticks, Settled.gives_ticks}
use Rattle.toward_row.specs.{Cut.Cut, Lower.entries, Lower.offer, Lower.lowest, Lower.lowered, Lower.Known}
use Rattle.theory_paths.specs.Queue.{Lowering}

abbrev pub rows_of : ℕ → List ℕ → Travels
rows_of wide W u x = grid_at wide W u x

-- The list holds the least travels to b.
pub record Worked (g : Graph) (b : ℕ) (W : List ℕ) : Type 0 where
  pub at : (u x : ℕ) → u < g.nodes → x < g.period → grid_at g.period W u x ≡ least_ticks g b u x

-- The row of node u holds them.
pub record WorkedRow (g : Graph) (b u : ℕ) (W : List ℕ) : Type 0 where
  pub at : (x : ℕ) → x < g.period → grid_at g.period W u x ≡ least_ticks g b u x

-- The row of node `goal` does, or every row, where there is no such node.
pub record WorkedFor (g : Graph) (b goal : ℕ) (W : List ℕ) : Type 0 where
  pub at : (u x : ℕ) → u < g.nodes → (goal < g.nodes → u ≡ goal) → x < g.period
      → grid_at g.period W u x ≡ least_ticks g b u x

pub worked_all : {g : Graph} {b goal : ℕ} {W : List ℕ} → g.nodes ≤ goal → WorkedFor g b goal W → Worked g b W
worked_all l w = record { at = λ u x n h. w.at u x n (λ k. absurd (omega arith)) h }

pub worked_one : {g : Graph} {b goal : ℕ} {W : List ℕ} → goal < g.nodes → WorkedFor g b goal W
    → WorkedRow g b goal W
worked_one {goal = goal} l w = record { at = λ x h. w.at goal x l (λ _. refl) h }

-- A row that starts at place p, lowered by an arc with travel w, where h has its head's numbers.
unfoldable pub row_lowered : Bool → (ℕ → ℕ) → (ℕ → ℕ) → ℕ → ℕ → List ℕ → ℕ → ℕ
row_lowered first w h wide p W k = lowest first (get_or W k 0) (offer w h wide (k - p))

pub row_lower : (w h : ℕ → ℕ) (wide p : ℕ) (W : List ℕ) (k : ℕ)
    → row_lowered false w h wide p W k ≤ get_or W k 0
unfolding row_lowered lowest
row_lower w h wide p W k = omega arith

-- THE ROW OF NODE u, lent as a part of the list from place p up to place e
module _ (wide : ℕ) (W : List ℕ) (u p e : ℕ) (at : p ≡ u * wide) (to : e ≡ p + wide) (fits : e ≤ length W)
  where
    pub row_long : length (take (e - p) (drop p W)) ≡ wide
    row_long = simp (length-take, length-drop) (omega arith)

    pub row_entry : (x : ℕ) → x < wide → get_or (take (e - p) (drop p W)) x 0 ≡ grid_at wide W u x
    unfolding grid_at
    row_entry x l =
        let h : x < e - p = omega arith in
        rw (← at) (get_or-take (e - p) (drop p W) x 0 h ∙ get_or-drop p W x 0)

-- A PART of a list from p up to e that was lent and is back as ys
module _ (W ys : List ℕ) (p e : ℕ) (l : p ≤ e) (m : e ≤ length W) (s : length ys ≡ e - p) where
  front : length (take p W) ≡ p
  front = length-take-le p W (omega arith)

  back_front : (k : ℕ) → k < p → get_or (take p W ++ (ys ++ drop (e - p) (drop p W))) k 0 ≡ get_or W k 0
  back_front k h =
      get_or-append (take p W) (ys ++ drop (e - p) (drop p W)) 0 k (omega (arith, front))
      ∙ get_or-take p W k 0 h

  past : (k : ℕ) → p ≤ k
      → get_or (take p W ++ (ys ++ drop (e - p) (drop p W))) k 0
      ≡ get_or (ys ++ drop (e - p) (drop p W)) (k - p) 0
  past k h =
      let q : length (take p W) + (k - p) ≡ k = omega (arith, front) in
      ap (λ (i : ℕ). get_or (take p W ++ (ys ++ drop (e - p) (drop p W))) i 0) (sym q)
      ∙ get_or-append-add (take p W) (ys ++ drop (e - p) (drop p W)) (k - p) 0

  back_part : (k : ℕ) → p ≤ k → k < e
      → get_or (take p W ++ (ys ++ drop (e - p) (drop p W))) k 0 ≡ get_or ys (k - p) 0
  back_part k h i = past k h ∙ get_or-append ys (drop (e - p) (drop p W)) 0 (k - p) (omega (arith, s))

  back_after : (k : ℕ) → e ≤ k → get_or (take p W ++ (ys ++ drop (e - p) (drop p W))) k 0 ≡ get_or W k 0
  back_after k h =
      let q : length ys + (k - e) ≡ k - p = omega (arith, s) in
      let z : p + (e - p + (k - e)) ≡ k = omega arith in
      past k (omega arith)
      ∙ ap (λ (i : ℕ). get_or (ys ++ drop (e - p) (drop p W)) i 0) (sym q)
      ∙ get_or-append-add ys (drop (e - p) (drop p W)) (k - e) 0
      ∙ get_or-drop (e - p) (drop p W) (k - e) 0
      ∙ get_or-drop p W (e - p + (k - e)) 0
      ∙ ap (λ (i : ℕ). get_or W i 0) z

  back_long : length (take p W ++ (ys ++ drop (e - p) (drop p W))) ≡ length W
  back_long = simp (length-append, length-drop) (omega (arith, s, front))

-- the part as it was lent
part_was : (W : List ℕ) (p e k : ℕ) → p ≤ k → k < e → get_or (take (e - p) (drop p W)) (k - p) 0 ≡ get_or W k 0
part_was W p e k h i =
    let q : p + (k - p) ≡ k = omega arith in
    get_or-take (e - p) (drop p W) (k - p) 0 (omega arith) ∙ get_or-drop p W (k - p) 0
    ∙ ap (λ (j : ℕ). get_or W j 0) q

pub row_back : {first : Bool} (w h : ℕ → ℕ) (W ys : List ℕ) (p e n r : ℕ) → p ≤ e → e ≤ length W
    → n ≡ e - p → Cut first 0 n (lowered first w h n (take (e - p) (drop p W))) (take (e - p) (drop p W)) ys r
    → Cut first p e (row_lowered first w h n p W) W (take p W ++ (ys ++ drop (e - p) (drop p W))) r
unfolding row_lowered lowered
row_back w h W ys p e n r l m z c = record {
  filled = record {
    long = back_long W ys p e l m size;
    written = λ k lo hi.
        back_part W ys p e l m size k lo hi ∙ c.filled.written (k - p) (omega arith) (omega arith)
        ∙ rw (part_was W p e k lo hi);
    before = λ k lo. back_front W ys p e l m size k lo;
    after = λ k lo. back_after W ys p e l m size k lo;
  };
  few = omega (arith, c.few);
  all = λ t. omega (arith, c.all t);
  none = λ t q k lo hi. back_part W ys p e l m size k lo hi ∙ c.none t q (k - p) (omega arith) (omega arith)
      ∙ part_was W p e k lo hi;
  some = λ t q.
      let f = c.some t q in
      let to : f.at < n = f.to in
      let b : f.at + p - p ≡ f.at = omega arith in
      let less : get_or ys (f.at + p - p) 0 < get_or (take (e - p) (drop p W)) (f.at + p - p) 0 =
      rw b f.less in
      record {
        at = f.at + p;
        from = omega arith;
        to = omega arith;
        less = omega (
          arith,
          less,
          back_part W ys p e l m size (f.at + p) (omega arith) (omega arith),
          part_was W p e (f.at + p) (omega arith) (omega arith),
        );
      };
}
  where
    size : length ys ≡ e - p
    size =
        let d : length (drop p W) ≡ length W - p = length-drop p W in
        c.filled.long ∙ length-take-le (e - p) (drop p W) (omega arith)

-- FOR CODE that has lent the row at place p, which is s
pub row_lent : {first : Bool} (w h : ℕ → ℕ) (W ys : List ℕ) (p s n r : ℕ) → p ≡ s → s + n ≤ length W
    → Cut first 0 n (lowered first w h n (take (p + n - p) (drop p W))) (take (p + n - p) (drop p W)) ys r
    → Cut first s (s + n) (row_lowered first w h n s W) W (take p W ++ (ys ++ drop (p + n - p) (drop p W))) r
row_lent w h W ys p s n r e l c =
    rw (← e) (row_back w h W ys p (p + n) n r (omega arith) (omega arith) (omega arith) c)

pub known_lent : {first : Bool} {W : List ℕ} {p s n : ℕ} → p ≡ s → Known first W s (s + n)
    → Known first (take (p + n - p) (drop p W)) 0 n
known_lent {W = W} {p = p} {n = n} e f = record {
  numbers = λ t. record {
    entry = λ x _ h. omega (arith, was x h, (f.numbers t).entry (p + x) (omega arith) (omega arith));
  };
}
  where
    was : (x : ℕ) → x < n → get_or (take (p + n - p) (drop p W)) x 0 ≡ get_or W (p + x) 0
    was x h =
        let q : p + x - p ≡ x = omega arith in
        rw q at (part_was W p (p + n) (p + x) (omega arith) (omega arith))

-- nothing fell: the list is as it was
pub row_same : {p e r : ℕ} {f : ℕ → ℕ} {W M : List ℕ} → Cut false p e f W M r → r ≡ 0 → M ≡ W
row_same {p} {e} {W = W} {M = M} c z = ext_get_or 0 M W c.filled.long (λ k _. elim (dec_lt k p) [
  | yes h ↦ c.filled.before k h
  | no h ↦ elim (dec_lt k e) [
    | yes i ↦ c.none refl z k (omega arith) i
    | no i ↦ c.filled.after k (omega arith)
  ]
])

-- THE ROW OF AN ARC'S TAIL, lowered; hs is its head's row
module _ (g : Graph) (a wide p e r : ℕ) (hs W M : List ℕ) (w : wide ≡ g.period) (some : 0 < wide)
    (q : p ≡ g.tail a * wide) (o : e ≡ p + wide)
    (held : (y : ℕ) → y < wide → get_or hs y 0 ≡ grid_at wide W (g.head a) y)
    (c : Cut false p e (row_lowered false (g.travel a) (entries hs) wide p W) W M r) where
  offered : (x : ℕ) → x < wide → offer (g.travel a) (entries hs) wide x ≡ gives_ticks g (rows_of wide W) a x
  unfolding offer entries gives_ticks
  offered x h = rw (held ((x + g.travel a x) % wide) (mod-lt (x + g.travel a x) some), w) (omega arith)

  row_at : (x : ℕ) → x < wide
      → grid_at wide M (g.tail a) x ≡ min (grid_at wide W (g.tail a) x) (gives_ticks g (rows_of wide W) a x)
  unfolding grid_at row_lowered lowest
  row_at x h =
      let z : g.tail a * wide + x - p ≡ x = omega arith in
      c.filled.written (g.tail a * wide + x) (omega arith) (omega arith) ∙ rw (z, offered x h)

  row_other : (u x : ℕ) → x < wide → u ≢ g.tail a → grid_at wide M u x ≡ grid_at wide W u x
  unfolding grid_at
  row_other u x h ne = elim (dec_lt u (g.tail a)) [
    | yes l ↦ c.filled.before (u * wide + x) (omega (arith, mul-le-mul_right wide l))
    | no l ↦ let m : g.tail a < u = omega arith in
        c.filled.after (u * wide + x) (omega (arith, mul-le-mul_right wide m))
  ]

  pub row_lowering : Lowering g a (rows_of wide W) (rows_of wide M)
  row_lowering = record {
    at = λ x h. row_at x (omega arith);
    other = λ u x n h ne. row_other u x (omega arith) ne;
  }

  -- where nothing fell it gives no less
  pub row_quiet : r ≡ 0 → (x : ℕ) → x < g.period
      → grid_at wide W (g.tail a) x ≤ gives_ticks g (rows_of wide W) a x
  row_quiet z x h =
      let s : grid_at wide M (g.tail a) x ≡ grid_at wide W (g.tail a) x =
      ap (λ (l : List ℕ). grid_at wide l (g.tail a) x) (row_same c z) in
      omega (arith, row_at x (omega arith))

  -- the head's row has stayed
  pub row_held : g.tail a ≢ g.head a → (y : ℕ) → y < wide → get_or hs y 0 ≡ grid_at wide M (g.head a) y
  row_held ne y h = held y h ∙ sym (row_other (g.head a) y h (λ z. ne (sym z)))
