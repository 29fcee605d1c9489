-- A day piece by piece: the line from a point to the next, and after the last point to the next day's first,
-- is the day's value there. The laws know the points as functions, so that whoever reads them, from lists or
-- in place from a file, has them.
use Rattle.std.specs.Prelude.{◌≡◌, ℕ, ◌+◌, ◌≤◌, ◌<◌}
use Rattle.std.proofs.Math.Path.{refl}
use Rattle.std.proofs.Common.{sym}
use native.Mathlib.{Numerals.add-one, Omega.arith}
use Rattle.theory_travel.specs.{Line.line, Search.Last, Search.between_end}
use Rattle.theory_travel.specs.Day.{Day, day_value, day_sorted, to_next, to_first}

-- the line from (a, v) to (b, w) as a function of the tick
unfoldable pub line_at : ℕ → ℕ → ℕ → ℕ → ℕ → ℕ
line_at a v b w x = line x a v b w

module _ {t : ℕ → ℕ} {n period : ℕ} (d : Day t n period) where
  -- the segment of a tick between two points
  pub here : (k x : ℕ) → k < n → t k ≤ x → (k + 1 < n → x < t (k + 1)) → Last t n x k
  here k x l h m =
      between_end t n x k (k + 1)
      (record { sorted = day_sorted d x; apart = omega arith; within = omega arith; at = h; next = m })
      (omega arith)

  -- ticks as they were read: the first is 0, the next one is later, all are before the period
  pub tick_first : 0 ≡ t 0
  tick_first = sym d.start

  module _ (k a : ℕ) (f : a ≡ t k) where
    pub tick_below : k < n → a < period
    tick_below l = omega (arith, d.below k l)

    pub tick_rises : (b : ℕ) → b ≡ t (k + 1) → k + 1 < n → a < b
    tick_rises b h l = let m = d.rise k (omega arith) in let e = rw (← add-one k) at m in omega arith

  module _ (v : ℕ → ℕ) where
    -- the line between two points gives the day's values there
    pub piece_next : (k a p b q : ℕ) → a ≡ t k → p ≡ v k → b ≡ t (k + 1) → q ≡ v (k + 1) → k + 1 < n
        → (x : ℕ) → a ≤ x → x < b → line_at a p b q x ≡ day_value t v n period x
    unfolding line_at
    piece_next k a p b q f g h i l x lo hi =
        to_next t v n period x k _ a p b q (here k x (omega arith) (omega arith) (λ _. omega arith)) refl f g
        l h i

    -- and after the last point the line to the next day's first
    pub piece_last : (k a p b q : ℕ) → a ≡ t k → p ≡ v k → b ≡ period → q ≡ v 0 → k < n → n ≤ k + 1
        → (x : ℕ) → a ≤ x → x < b → line_at a p b q x ≡ day_value t v n period x
    unfolding line_at
    piece_last k a p b q f g h i m l x lo hi =
        to_first t v n period x k _ a p b q (here k x m (omega arith) (λ o. absurd (omega arith))) refl f g l
        h i
