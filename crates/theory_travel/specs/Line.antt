-- The straight line from one point to the next, in whole ticks, rounded up. Owns all that rounding touches:
-- the definition, that it is the published line, that it stays between its ends' values, and that who starts
-- later on it ends no earlier. The other files know the line by these laws alone.
use Rattle.std.specs.Prelude.{◌≡◌}
use Rattle.std.proofs.Math.Path.{sym, ap}
use Rattle.std.proofs.Common.{◌∙◌, le-div_iff_mul-le, div-lt_iff_lt-mul, mul-zero, le_trans}
use Prim.Native.Nat.{ℕ, ◌+◌, ◌-◌, ◌*◌, ◌/◌, ◌≤◌, ◌<◌}
use Rattle.std.proofs.Math.Nat.{div-mul-le_self, lt-div-mul-add, div-eq_of_lt-le, mul-add-div_right, mul-le-mul_right, sub_self}
use native.Mathlib.Omega.{arith}

-- from (a, v) to (b, w), read at a tick x with a ≤ x < b: each end's value counts by the ticks to the other
-- end, so no number is negative; with b - a - 1 more the division, which drops what is left over, rounds up
unfoldable pub line : ℕ → ℕ → ℕ → ℕ → ℕ → ℕ
line x a v b w = (v * (b - x) + w * (x - a) + (b - a - 1)) / (b - a)

-- THE SAME BY PARTS: s ticks are gone, r are left
cut : ℕ → ℕ → ℕ → ℕ → ℕ
cut s r v w = (v * r + w * s + (s + r - 1)) / (s + r)

line_cut : (x a v b w : ℕ) → a ≤ x → x < b → line x a v b w ≡ cut (x - a) (b - x) v w
unfolding line cut
line_cut x a v b w l m = let e : b - a ≡ (x - a) + (b - x) = omega arith in rw e

module _ (s r : ℕ) (some : 0 < s + r) where
  cut_ceiling : (v w : ℕ)
      → (v * r + w * s ≤ cut s r v w * (s + r)) × (cut s r v w * (s + r) < v * r + w * s + (s + r))
  unfolding cut
  cut_ceiling v w =
      let n : ℕ = v * r + w * s + (s + r - 1) in
      let h : n / (s + r) * (s + r) ≤ n = div-mul-le_self n (s + r) in
      let k : n < n / (s + r) * (s + r) + (s + r) = lt-div-mul-add some in
      (omega arith, omega arith)

  cut_rising : (v d : ℕ) → cut s r v (v + d) ≡ v + (s * d + (s + r - 1)) / (s + r)
  unfolding cut
  cut_rising v d =
      ap (λ (n : ℕ). n / (s + r)) (omega arith) ∙ mul-add-div_right some v (s * d + (s + r - 1))

  -- of v = w + d the drop c is taken, and g is left
  cut_drop : (w d c g : ℕ) → g + c ≡ w + d → c * (s + r) ≤ s * d → s * d < c * (s + r) + (s + r)
      → cut s r (w + d) w ≡ g
  unfolding cut
  cut_drop w d c g e h k =
      let f : (g + c) * (s + r) ≡ (w + d) * (s + r) = ap (λ (n : ℕ). n * (s + r)) e in
      div-eq_of_lt-le (s + r) (omega arith) (omega arith)

  cut_falling : (w d : ℕ) → cut s r (w + d) w ≡ w + d - s * d / (s + r)
  cut_falling w d =
      let h : s * d / (s + r) * (s + r) ≤ s * d = div-mul-le_self (s * d) (s + r) in
      let k : s * d < s * d / (s + r) * (s + r) + (s + r) = lt-div-mul-add some in
      let l : s * d / (s + r) < d + 1 = (div-lt_iff_lt-mul some).1 (omega arith) in
      cut_drop w d (s * d / (s + r)) (w + d - s * d / (s + r)) (omega arith) h k

  -- at least the lesser of both ends, and at most the greater
  cut_least : (v w m : ℕ) → m ≤ v → m ≤ w → m ≤ cut s r v w
  unfolding cut
  cut_least v w m h k = (le-div_iff_mul-le some).1 (omega (arith, mul-le-mul_right r h, mul-le-mul_right s k))

  cut_most : (v w m : ℕ) → v ≤ m → w ≤ m → cut s r v w ≤ m
  unfolding cut
  cut_most v w m h k =
      let l : cut s r v w < m + 1 =
      (div-lt_iff_lt-mul some).1 (omega (arith, mul-le-mul_right r h, mul-le-mul_right s k)) in
      omega arith

  -- the tick at which the travel ends is itself on a line, the one between the ticks at which the ends'
  -- travels end
  cut_ends : (a v w : ℕ) → a + s + cut s r v w ≡ cut s r (a + v) (a + s + r + w)
  unfolding cut
  cut_ends a v w =
      sym (mul-add-div_right some (a + s) (v * r + w * s + (s + r - 1)))
      ∙ ap (λ (n : ℕ). n / (s + r)) (omega arith)

-- d ticks further along a line whose ends rise
cut_rises : (s r d p q : ℕ) → 0 < s + (r + d) → p ≤ q → cut s (r + d) p q ≤ cut (s + d) r p q
unfolding cut
cut_rises s r d p q some h =
    let e : s + d + r ≡ s + (r + d) = omega arith in
    rw e
    ((le-div_iff_mul-le some).1
    (le_trans (div-mul-le_self (p * (r + d) + q * s + (s + (r + d) - 1)) (s + (r + d)))
    (omega (arith, mul-le-mul_right d h))))

-- where both ends' values, each by the ticks to the other end, come to a whole number of times the width,
-- nothing is rounded
pub line_exact : (x a v b w y : ℕ) → a < b → v * (b - x) + w * (x - a) ≡ y * (b - a) → line x a v b w ≡ y
unfolding line
line_exact x a v b w y h e = div-eq_of_lt-le (b - a) (omega arith) (omega arith)

-- at its first end the line has that end's value
pub line_first : (a v b w : ℕ) → a < b → line a a v b w ≡ v
line_first a v b w h = line_exact a a v b w v h (rw (sub_self a, mul-zero w) (omega arith))

-- The published line is v + (x − a)·(w − v)/(b − a), rounded up.
module _ (x a v b w : ℕ) (from : a ≤ x) (to : x < b) where
  -- the least whole number that is at least the published line: both sides are taken b − a times, and (x −
  -- a)·v stands on the other side, so that one statement holds of rising and falling lines
  pub line_ceiling :
      (v * (b - a) + (x - a) * w ≤ line x a v b w * (b - a) + (x - a) * v)
      × (line x a v b w * (b - a) + (x - a) * v < v * (b - a) + (x - a) * w + (b - a))
  line_ceiling =
      let e : b - a ≡ (x - a) + (b - x) = omega arith in
      rw (line_cut x a v b w from to, e) (
        omega (arith, (cut_ceiling (x - a) (b - x) (omega arith) v w).0),
        omega (arith, (cut_ceiling (x - a) (b - x) (omega arith) v w).1),
      )

  -- a rising line is v and the rise so far, rounded up
  pub line_rising : v ≤ w → line x a v b w ≡ v + ((x - a) * (w - v) + (b - a - 1)) / (b - a)
  line_rising h =
      let e : b - a ≡ (x - a) + (b - x) = omega arith in
      let f : v + (w - v) ≡ w = omega arith in
      rw (line_cut x a v b w from to, e) (rw f at (cut_rising (x - a) (b - x) (omega arith) v (w - v)))

  -- a falling line is v less the drop so far, and the drop is rounded DOWN: to round it up is to go towards
  -- the later point
  pub line_falling : w ≤ v → line x a v b w ≡ v - (x - a) * (v - w) / (b - a)
  line_falling h =
      let e : b - a ≡ (x - a) + (b - x) = omega arith in
      let f : w + (v - w) ≡ v = omega arith in
      rw (line_cut x a v b w from to, e) (rw f at (cut_falling (x - a) (b - x) (omega arith) w (v - w)))

  -- it stays between its ends' values
  pub line_least : (m : ℕ) → m ≤ v → m ≤ w → m ≤ line x a v b w
  line_least m p q = rw (line_cut x a v b w from to) (cut_least (x - a) (b - x) (omega arith) v w m p q)

  pub line_most : (m : ℕ) → v ≤ m → w ≤ m → line x a v b w ≤ m
  line_most m p q = rw (line_cut x a v b w from to) (cut_most (x - a) (b - x) (omega arith) v w m p q)

  ends : x + line x a v b w ≡ cut (x - a) (b - x) (a + v) (b + w)
  ends =
      let e : a + (x - a) ≡ x = omega arith in
      let f : x + (b - x) ≡ b = omega arith in
      rw (line_cut x a v b w from to) (rw (e, f) at (cut_ends (x - a) (b - x) (omega arith) a v w))

  -- a travel begun at x ends no earlier than the one begun at a, and no later than the one begun at b, where
  -- those two keep that order
  pub ends_least : a + v ≤ b + w → a + v ≤ x + line x a v b w
  ends_least p = rw ends (cut_least (x - a) (b - x) (omega arith) (a + v) (b + w) (a + v) (omega arith) p)

  pub ends_most : a + v ≤ b + w → x + line x a v b w ≤ b + w
  ends_most p = rw ends (cut_most (x - a) (b - x) (omega arith) (a + v) (b + w) (b + w) p (omega arith))

-- and of two travels begun on one line the later ends no earlier
pub ends_rise : (x y a v b w : ℕ) → a ≤ x → x ≤ y → y < b → a + v ≤ b + w
    → x + line x a v b w ≤ y + line y a v b w
ends_rise x y a v b w l m h p =
    let e : b - y + (y - x) ≡ b - x = omega arith in
    let f : x - a + (y - x) ≡ y - a = omega arith in
    rw (ends x a v b w l (omega arith), ends y a v b w (omega arith) h)
    (rw (e, f) at (cut_rises (x - a) (b - y) (y - x) (a + v) (b + w) (omega arith) p))
