-- When a node is open: from its open tick up to, and without, its close tick, every day. The first tick at or
-- after another at which it is open, as a formula that computes, and what that is (`first_open`): no tick
-- before it will do, over days laid end to end.
use mathlib.Core.{Path.◌≡◌, Path.◌∙◌, Bool.cond, List.List}
use Rattle.std.specs.Prelude.{ℕ, ◌+◌, ◌-◌, ◌*◌, ◌/◌, ◌%◌, ◌≤◌, ◌<◌, ltb}
use native.Mathlib.{Decide.dec_lt, Omega.arith}
use Rattle.std.proofs.Common.{div-add-mod', mod-lt, mod-eq_of_lt, mul-le-mul_right}
use Rattle.std.proofs.Math.Nat.{mul-add-mod_self_right}
use borrow.Author.Tests.{lt-ltb, le-ltb}
use Rattle.network.specs.declared.header.Layout.{Layout}
use Rattle.network.specs.{Network.Network, Network.opens_at, Network.closes_at, Sound.SoundHours}
use Rattle.network.specs.Decode.{decode, Laid, laid_sizes}

-- node v is open at tick x
pub record IsOpen (n : Network) (v x : ℕ) : Type 0 where
  pub opened : opens_at n v ≤ x % n.period
  pub unclosed : x % n.period < closes_at n v

-- y is the first tick at or after x at which it is
pub record FirstOpen (n : Network) (v x y : ℕ) : Type 0 where
  pub later : x ≤ y
  pub there : IsOpen n v y
  pub first : (z : ℕ) → x ≤ z → IsOpen n v z → y ≤ z

-- that tick: the opening later this day, x itself, or the next day's opening
unfoldable pub open_from : ℕ → ℕ → ℕ → ℕ → ℕ
open_from period opens closes x =
    cond (ltb (x % period) opens) (x + (opens - x % period))
    (cond (ltb (x % period) closes) x
    (x + (period - x % period) + opens))

abbrev pub open_after : Network → ℕ → ℕ → ℕ
open_after n v x = open_from n.period (opens_at n v) (closes_at n v) x

-- FOR CODE that has read a node's hours
pub open_told : {file : List ℕ} {l : Layout} → Laid file l → (v x : ℕ) {o c r : ℕ}
    → o ≡ opens_at (decode file) v → c ≡ closes_at (decode file) v → r ≡ open_from l.period o c x
    → r ≡ open_after (decode file) v x
open_told s v x e f g = rw ((laid_sizes s).period, e, f) at g

-- WHAT THAT TICK IS, for a node whose hours are sound: ticks by their days and by what is left of them
module _ (n : Network) (v x : ℕ) (some : 1 ≤ n.period) (s : SoundHours n v) where
  abbrev P : ℕ
  P = n.period

  abbrev day : ℕ → ℕ
  day k = k / n.period

  left : (k : ℕ) → (day k * P + k % P ≡ k) × (k % P < P)
  left k = (div-add-mod' k P, mod-lt k some)

  open_on : (d u y : ℕ) → u < P → y ≡ d * P + u → opens_at n v ≤ u → u < closes_at n v → IsOpen n v y
  open_on d u y l e a b =
      let q : y % P ≡ u = rw e (mul-add-mod_self_right d P u ∙ mod-eq_of_lt l) in
      record { opened = rw q a; unclosed = rw q b }

  -- a later tick is of the same day or of a later one
  same_or_later : (z : ℕ) → x ≤ z → day x * P ≤ day z * P
  same_or_later z h = elim (dec_lt (day z) (day x)) [
    | yes l ↦ absurd (omega (arith, left x, left z, mul-le-mul_right P l))
    | no l ↦ mul-le-mul_right P (omega arith)
  ]

  -- the opening later this day
  this_day : x % P < opens_at n v → FirstOpen n v x (x + (opens_at n v - x % P))
  this_day l = record {
    later = omega arith;
    there = open_on (day x) (opens_at n v) _ (omega (arith, s)) (omega (arith, left x)) (omega arith)
        s.some;
    first = λ z h i. omega (arith, left x, left z, same_or_later z h, i.opened);
  }

  -- the next day's opening
  next_day : closes_at n v ≤ x % P → FirstOpen n v x (x + (P - x % P) + opens_at n v)
  next_day l = record {
    later = omega arith;
    there = open_on (day x + 1) (opens_at n v) _ (omega (arith, s)) (omega (arith, left x)) (omega arith)
        s.some;
    first = λ z h i. elim (dec_lt (day x) (day z)) [
      | yes k ↦ omega (arith, left x, left z, mul-le-mul_right P k, i.opened)
      | no k ↦
          let m : day z ≤ day x = omega arith in
          absurd (omega (arith, left x, left z, mul-le-mul_right P m, i.unclosed))
    ];
  }

  pub first_open : FirstOpen n v x (open_after n v x)
  unfolding open_from
  first_open = elim (dec_lt (x % P) (opens_at n v)) [
    | yes l ↦ rw (lt-ltb (x % P) (opens_at n v) l) (this_day l)
    | no l ↦ elim (dec_lt (x % P) (closes_at n v)) [
      | yes m ↦ rw (le-ltb (x % P) (opens_at n v) (omega arith), lt-ltb (x % P) (closes_at n v) m)
          (record {
            later = omega arith;
            there = record { opened = omega arith; unclosed = m };
            first = λ z h i. h;
          })
      | no m ↦ rw (le-ltb (x % P) (opens_at n v) (omega arith), le-ltb (x % P) (closes_at n v) (omega arith))
          (next_day (omega arith))
    ]
  ]
