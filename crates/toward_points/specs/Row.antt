-- A row of travels, a number for each tick of a day, and the laws of the loop that counts its points.
use mathlib.Core.{Path.◌≡◌, Path.refl, Path.◌∙◌, Bool.Bool, Bool.true, Bool.false, Bool.cond, Bool.not}
use Rattle.std.specs.Prelude.{List, ℕ, ◌+◌, ◌-◌, ◌≤◌, ◌<◌, ◌^◌}
use Rattle.std.proofs.Common.{arith, ne_eqb}
use mir.{Val.bool_byte}
use lib.{ListN.length, ListN.get_or, Dec.eqb}
use Rattle.theory_loops.specs.Count.{count, count_none, count_yes, count_no, count_few}
use Rattle.theory_travel.specs.{Day.closed_in, Day.closed_end, Turns.turns, Turns.straight, Turns.turn_count}

abbrev pub entry_of : List ℕ → ℕ → ℕ
entry_of row x = get_or row x 0

-- a row of some ticks, whose entries are small enough that two of them add up in 32 bits
pub record Low (row : List ℕ) : Type 0 where
  pub some : 0 < length row
  pub few : length row ≤ 65536
  pub entry : (x : ℕ) → x < length row → get_or row x 0 < 2 ^ 31

-- 1 where two numbers differ
unfoldable pub differ : ℕ → ℕ → ℕ
differ a b = cond (eqb a b) 0 1

-- how many points a row has before tick x
abbrev pub points_before : List ℕ → ℕ → ℕ
points_before row x = count x (turns (entry_of row) (length row))

-- FOR CODE that tells whether a tick is a point
pub differ_told : (a b r : ℕ) → r ≡ bool_byte (not (eqb a b)) → r ≡ differ a b
unfolding differ
differ_told a b r e = e ∙ go (eqb a b)
  where
    go : (t : Bool) → bool_byte (not t) ≡ cond t 0 1
    go true = refl
    go false = refl

pub differ_few : (a b r : ℕ) → r ≡ differ a b → r ≤ 1
unfolding differ
differ_few a b r e = rw e (go (eqb a b))
  where
    go : (t : Bool) → cond t 0 1 ≤ 1
    go true = omega arith
    go false = omega arith

-- FOR THE LOOP over the ticks
module _ (f : ℕ → ℕ) (period : ℕ) where
  pub turned_first : 0 < period → 1 ≡ count 1 (turns f period)
  unfolding turns
  turned_first some = count_yes (turns f period) 0 0 (count_none (turns f period)) refl

  one_more : (t : Bool) (c x : ℕ) → c ≡ count x (turns f period) → turns f period x ≡ not t
      → c + cond t 0 1 ≡ count (x + 1) (turns f period)
  one_more true c x e q =
      let z : c + 0 ≡ c = omega arith in
      rw z (count_no (turns f period) c x e q)
  one_more false c x e q = count_yes (turns f period) c x e q

  turned : (c x after r : ℕ) → 1 ≤ x → x < period → c ≡ count x (turns f period)
      → straight f period x ≡ eqb (f (x - 1) + after) (f x + f x)
      → r ≡ differ (f (x - 1) + after) (f x + f x) → c + r ≡ count (x + 1) (turns f period)
  unfolding turns differ
  turned c x after r l h e s q =
      let z : turns f period x ≡ not (eqb (f (x - 1) + after) (f x + f x)) =
      rw (ne_eqb x 0 (omega arith), s) in
      rw q (one_more (eqb (f (x - 1) + after) (f x + f x)) c x e z)

  -- a tick before the last, and the last
  pub turned_next : (c x r : ℕ) → 1 ≤ x → x + 1 < period → c ≡ count x (turns f period)
      → r ≡ differ (f (x - 1) + f (x + 1)) (f x + f x) → c + r ≡ count (x + 1) (turns f period)
  turned_next c x r l h e q =
      turned c x (f (x + 1)) r l (omega arith) e
      (rw (closed_in period f (f 0) (x - 1) (omega arith), closed_in period f (f 0) (x + 1) h)) q

  -- s points stand before the part of which c are counted
  pub turned_more : (s c x r : ℕ) → 1 ≤ x → x + 1 < period → s + c ≡ count x (turns f period)
      → r ≡ differ (f (x - 1) + f (x + 1)) (f x + f x) → s + (c + r) ≡ count (x + 1) (turns f period)
  turned_more s c x r l h e q = omega (arith, turned_next (s + c) x r l h e q)

  pub turned_last : (c x r : ℕ) → 1 ≤ x → x + 1 ≡ period → c ≡ count x (turns f period)
      → r ≡ differ (f (x - 1) + f 0) (f x + f x) → c + r ≡ turn_count f period
  unfolding turn_count
  turned_last c x r l h e q =
      let g = turned c x (f 0) r l (omega arith) e
      (rw (closed_in period f (f 0) (x - 1) (omega arith), closed_end period f (f 0) (x + 1) (omega arith)))
      q in
      rw h at g

  pub turned_one : period ≡ 1 → 1 ≡ turn_count f period
  unfolding turn_count
  turned_one e = rw e (rw e at (turned_first (omega arith)))

  pub turned_few : (c x : ℕ) → c ≡ count x (turns f period) → c ≤ x
  turned_few c x e = omega (arith, count_few (turns f period) x)
