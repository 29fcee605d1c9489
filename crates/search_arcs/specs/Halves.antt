-- The binary search for the segment of a tick, by the first of the points that are left and their number: a
-- step keeps the upper part or the lower one, and as many points of either. The invariant is `Between` of
-- `theory_travel`, whose second end follows from the two.
use Rattle.std.specs.Prelude.{◌≡◌, refl, ℕ, suc, ◌+◌, ◌-◌, ◌/◌, ◌≤◌, ◌<◌}
use native.Mathlib.{Decide.dec_lt, Nat.mod-eq_of_lt, Omega.arith}
use Rattle.std.specs.Int.Bits.{bit_and, and_shifted}
use Rattle.std.proofs.lemmas.Nat.{and_comm, and_mask}
use Rattle.theory_travel.specs.Search.{Sorted, Last, Between, between_start, between_end}

-- what a step adds to the first point: h where tick u is at or before x, else nothing
pub record Step (h u x g : ℕ) : Type 0 where
  pub high : u ≤ x → g ≡ h
  pub low : x < u → g ≡ 0
  pub most : g ≤ h

-- by a mask of 16 bits
module _ (h u x : ℕ) (j : h < 65536) (k : u < 65536) (m : x < 65536) where
  step_by : (y : ℕ) → y ≡ (4294967295 - x + u) / 65536 → Step h u x (bit_and h y)
  step_by y e = elim (dec_lt x u) [
    | yes o ↦
        let z : y ≡ 65536 = omega arith in
        rw (z, and_comm h 65536, and_shifted 1 16 h j)
        (record { high = λ q. absurd (omega arith); low = λ q. omega arith; most = omega arith })
    | no o ↦
        let z : y ≡ 65535 = omega arith in
        rw (z, and_mask h 16, mod-eq_of_lt j)
        (record { high = λ q. omega arith; low = λ q. absurd (omega arith); most = omega arith })
  ]

  pub step_is : Step h u x (bit_and h ((4294967295 - x + u) / 65536))
  step_is = step_by _ refl

module _ (t : ℕ → ℕ) (n x : ℕ) where
  pub left_start : Sorted t n x → Between t n x 0 (0 + n)
  left_start s = let e : 0 + n ≡ n = omega arith in rw e (between_start t n x s)

  -- u is the tick of the middle point, h is half of the s points from a on, and g is what the step adds
  module _ (a s h u : ℕ) (b : Between t n x a (a + s)) (l : 1 < s) (p : h ≡ s / 2) (e : u ≡ t (a + h)) where
    left_up : u ≤ x → Between t n x (a + h) (a + h + (s - h))
    left_up o =
        let z : a + h + (s - h) ≡ a + s = omega arith in
        rw z (record {
          sorted = b.sorted;
          apart = omega arith;
          within = b.within;
          at = omega arith;
          next = b.next;
        })

    -- with an odd number of points the lower part ends behind the middle one
    after : x < u → a + (s - h) < n → x < t (a + (s - h))
    after o k = elim (dec_lt (a + h) (a + (s - h))) [
      | yes c ↦
          let z : a + (s - h) ≡ suc (a + h) = omega arith in
          rw z (omega (arith, b.sorted.rise (a + h) (omega arith)))
      | no c ↦ let z : a + (s - h) ≡ a + h = omega arith in rw z (omega arith)
    ]

    left_down : x < u → Between t n x a (a + (s - h))
    left_down o = record {
      sorted = b.sorted;
      apart = omega arith;
      within = omega (arith, b.within);
      at = b.at;
      next = after o;
    }

    pub left_step : (g : ℕ) → Step h u x g → Between t n x (a + g) (a + g + (s - h))
    left_step g c = elim (dec_lt x u) [
      | yes o ↦ let z : a + g ≡ a = omega (arith, c.low o) in rw z (left_down o)
      | no o ↦ let z : g ≡ h = c.high (omega arith) in rw z (left_up (omega arith))
    ]

  pub left_end : (a s : ℕ) → Between t n x a (a + s) → s ≤ 1 → Last t n x a
  left_end a s b l = between_end t n x a (a + s) b (omega arith)

-- for `search halving` at the needs of the loop
pub ruleset halving = (left_start, left_step, left_end)
