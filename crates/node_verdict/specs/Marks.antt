-- The lowest test by the bytes of a node's ticks. A byte is 6 where no test fails; the bits in which it is
-- not are told for all ticks at once, by `||`.
use mathlib.Core.{Path.◌≡◌, Path.refl, Path.sym, Path.◌∙◌, Path.ap, Logic.◌≢◌, List.List}
use Rattle.std.specs.Prelude.{Bool, ◌&&◌, ◌||◌, ℕ, zero, suc, ◌+◌, ◌-◌, ◌/◌, ◌%◌, ◌≤◌, ◌<◌, min, max}
use Rattle.std.proofs.Math.Bool.{true, false, not}
use native.Mathlib.{Numerals.add-one, Decide.ℕ_discrete, Omega.arith}
use lib.{Arith.bin_ind, ListN.get_or, Dec.eqb, Dec.ltb}
use Rattle.std.specs.Int.Bits.{bit_and, bit_or, bit_xor, and_step, or_step, or_add_and}
use Rattle.std.proofs.lemmas.Nat.{and_le_l, and_le_r}
use borrow.Author.Tests.{eq-eqb, ne_eqb, eqb-true}
use Rattle.theory_loops.specs.First.{any, any_none, any_more, any_clear, first_same}
use Rattle.theory_paths.specs.{Graph.all, Partition.Partition, Profiles.ticks}
use Rattle.plan.specs.{Border.border_at, Plan.Plan, Plan.towards, Plan.profile}
use Rattle.plan_tests.specs.Tests.{given, fails}
use Rattle.node_runs.specs.{Bytes.byte_of, Bytes.digit, Judged.Judged}
use Rattle.node_verdict.specs.Lowest.{bit_of, tells, Lowest, each_test}

-- the bits in which any of the first n bytes is not as 6
unfoldable pub offs : List ℕ → ℕ → ℕ
offs marks zero = 0
offs marks (suc n) = bit_or (offs marks n) (bit_xor (get_or marks n 0) 6)

pub offs_none : (marks : List ℕ) → 0 ≡ offs marks 0
unfolding offs
offs_none marks = refl

pub offs_more : (marks : List ℕ) (n : ℕ) {o b : ℕ} → o ≡ offs marks n → b ≡ get_or marks n 0
    → bit_or o (bit_xor b 6) ≡ offs marks (n + 1)
unfolding offs
offs_more marks n e f = rw (add-one, e, f)

-- A BIT of two numbers put together is that of one or of the other
half_or : (a b : ℕ) → (bit_or a b / 2 ≡ bit_or (a / 2) (b / 2)) × (bit_or a b % 2 ≡ max (a % 2) (b % 2))
half_or a b = (omega (arith, or_step a b), omega (arith, or_step a b))

half_and : (a b : ℕ) → (bit_and a b / 2 ≡ bit_and (a / 2) (b / 2)) × (bit_and a b % 2 ≡ min (a % 2) (b % 2))
half_and a b = (omega (arith, and_step a b), omega (arith, and_step a b))

and_or : (a b c : ℕ) → bit_and (bit_or a b) c ≡ bit_or (bit_and a c) (bit_and b c)
and_or a =
    bin_ind (λ (n : ℕ). (b c : ℕ) → bit_and (bit_or n b) c ≡ bit_or (bit_and n c) (bit_and b c)) (λ b c. refl)
    (λ n ih b c.
    let l = rw (half_or n b).0 at (and_step (bit_or n b) c) in
    let r = rw ((half_and n c).0, (half_and b c).0) at (or_step (bit_and n c) (bit_and b c)) in
    omega (arith, l, r, ih (b / 2) (c / 2), (half_or n b).1, (half_and n c).1, (half_and b c).1)) a

or_zero : (a b : ℕ) → bit_or a b ≡ 0 → (a ≡ 0) × (b ≡ 0)
or_zero a b e =
    (omega (arith, or_add_and a b, and_le_r a b, e), omega (arith, or_add_and a b, and_le_l a b, e))

not_zero : (a : ℕ) → eqb a 0 ≡ false → a ≢ 0
not_zero a f h = let g = rw (eq-eqb a 0 h) at f in let z : ◌≡◌ {A = ℕ} 0 1 = cc in omega arith

or_some : (a b : ℕ) → not (eqb (bit_or a b) 0) ≡ not (eqb a 0) || not (eqb b 0)
or_some a b = go (eqb a 0) (eqb b 0) refl refl
  where
    go : (s t : Bool) → eqb a 0 ≡ s → eqb b 0 ≡ t → not (eqb (bit_or a b) 0) ≡ not s || not t
    go true true e f = rw (eqb-true a 0 e, eqb-true b 0 f)
    go true false e f = ap not (ne_eqb (bit_or a b) 0 (λ h. not_zero b f (or_zero a b h).1))
    go false t e f = ap not (ne_eqb (bit_or a b) 0 (λ h. not_zero a e (or_zero a b h).0))

-- so those of all ticks tell of any
any_tells : (marks : List ℕ) (number n : ℕ)
    → any n (tells marks number) ≡ not (eqb (bit_and (offs marks n) (bit_of number)) 0)
unfolding offs tells
any_tells marks number zero = any_none (tells marks number)
any_tells marks number (suc n) =
    let a : any (suc n) (tells marks number) ≡ any n (tells marks number) || tells marks number n =
    rw (← add-one n) (any_more n (tells marks number)) in
    let m = bit_xor (get_or marks n 0) 6 in
    let b : any n (tells marks number) || tells marks number n
    ≡ not (eqb (bit_and (bit_or (offs marks n) m) (bit_of number)) 0) =
    rw (any_tells marks number n, and_or (offs marks n) m (bit_of number))
    (sym (or_some (bit_and (offs marks n) (bit_of number)) (bit_and m (bit_of number)))) in
    a ∙ b

-- THE RESULT, by the bytes alone
pub record Marked (marks : List ℕ) (period number : ℕ) : Type 0 where
  pub low : 21 ≤ number
  pub passed : (m : ℕ) → 21 ≤ m → m < 25 → m < number → any period (tells marks m) ≡ false
  pub some : number < 25 → any period (tells marks number) ≡ true

-- FOR THE CODE that tests the bits one after the other
module _ (marks : List ℕ) (period : ℕ) {o : ℕ} (e : o ≡ offs marks period) where
  set : (number : ℕ) → bit_and o (bit_of number) ≢ 0 → any period (tells marks number) ≡ true
  set number h =
      rw (any_tells marks number period, ← e, ne_eqb (bit_and o (bit_of number)) 0 h)

  unset : (number : ℕ) → bit_and o (bit_of number) ≡ 0 → any period (tells marks number) ≡ false
  unset number h =
      rw (any_tells marks number period, ← e, eq-eqb (bit_and o (bit_of number)) 0 h)

  pub marked_21 : bit_and o 8 ≢ 0 → Marked marks period 21
  marked_21 h = record { low = omega arith; passed = λ m lo hi k. absurd (omega arith); some = λ _. set 21 h }

  module _ (c1 : bit_and o 8 ≡ 0) where
    pub marked_22 : bit_and o 1 ≢ 0 → Marked marks period 22
    marked_22 h = record {
      low = omega arith;
      passed = λ m lo hi k. let z : m ≡ 21 = omega arith in rw z (unset 21 c1);
      some = λ _. set 22 h;
    }

    module _ (c2 : bit_and o 1 ≡ 0) where
      pub marked_23 : bit_and o 2 ≢ 0 → Marked marks period 23
      marked_23 h = record {
        low = omega arith;
        passed = λ m lo hi k.
            each_test (λ n. n < 23 → any period (tells marks n) ≡ false) m lo hi (λ _. unset 21 c1)
            (λ _. unset 22 c2) (λ l. absurd (omega arith)) (λ l. absurd (omega arith)) k;
        some = λ _. set 23 h;
      }

      module _ (c3 : bit_and o 2 ≡ 0) where
        pub marked_24 : bit_and o 4 ≢ 0 → Marked marks period 24
        marked_24 h = record {
          low = omega arith;
          passed = λ m lo hi k.
              each_test (λ n. n < 24 → any period (tells marks n) ≡ false) m lo hi (λ _. unset 21 c1)
              (λ _. unset 22 c2) (λ _. unset 23 c3) (λ l. absurd (omega arith)) k;
          some = λ _. set 24 h;
        }

        pub marked_25 : bit_and o 4 ≡ 0 → Marked marks period 25
        marked_25 c4 = record {
          low = omega arith;
          passed = λ m lo hi k.
              each_test (λ n. any period (tells marks n) ≡ false) m lo hi (unset 21 c1) (unset 22 c2)
              (unset 23 c3) (unset 24 c4);
          some = λ l. absurd (omega arith);
        }

-- WHAT THE BYTES TELL: each bit of its test, where no lower test fails at any tick
pub record Telling (G : Partition) (p : Plan) (i u period : ℕ) (marks : List ℕ) : Type 0 where
  pub is : (number x : ℕ) → 21 ≤ number → number < 25 → x < period
      → ((m y : ℕ) → 21 ≤ m → m < number → y < period → fails m G p i u y ≡ false)
      → tells marks number x ≡ fails number G p i u x

module _ {G : Partition} {p : Plan} {i u period number : ℕ} {marks : List ℕ}
    (t : Telling G p i u period marks) (w : Marked marks period number) where
  -- so the tests that no byte tells of fail nowhere, one after the other
  passed_below : (d m x : ℕ) → 21 + d ≤ number → 21 + d ≤ 25 → 21 ≤ m → m < 21 + d → x < period
      → fails m G p i u x ≡ false
  passed_below zero m x l h lo hi k = absurd (omega arith)
  passed_below (suc d) m x l h lo hi k = elim (ℕ_discrete m (21 + d)) [
    | yes e ↦
        sym (t.is m x lo (omega arith) k
        (λ n y a b o. passed_below d n y (omega arith) (omega arith) a (omega arith) o))
        ∙ (any_clear (tells marks m) period).0 (w.passed m lo (omega arith) (omega arith)) x k
    | no e ↦ passed_below d m x (omega arith) (omega arith) lo (omega (arith, e)) k
  ]

  told : number < 25 → (x : ℕ) → x < period → tells marks number x ≡ fails number G p i u x
  told o x k =
      t.is number x w.low o k
      (λ m y lo hi l. passed_below (number - 21) m y (omega (arith, w.low)) (omega (arith, w.low)) lo
      (omega (arith, w.low)) l)

  pub marked_lowest : Lowest G p i u period 25 number marks
  marked_lowest = record {
    low = w.low;
    passed = λ m x lo hi o k. passed_below (m - 20) m x (omega arith) (omega arith) lo (omega arith) k;
    some = λ o.
        ap (λ (k : ℕ). below k) (first_same (fails number G p i u) (tells marks number) period (λ x k. sym
        (told o x k)))
        ∙ w.some o;
    told = told;
  }
    where
      below : ℕ → Bool
      below k = ltb k period

-- A NODE whose bytes were judged: it is not the border, and its profile is a number at each tick
bits : (l s f : Bool)
    → (not (eqb (bit_and (bit_xor (byte_of l s f) 6) 8) 0) ≡ false)
    × (not (eqb (bit_and (bit_xor (byte_of l s f) 6) 1) 0) ≡ l)
    × (not (eqb (bit_and (bit_xor (byte_of l s f) 6) 2) 0) ≡ not s)
    × (not (eqb (bit_and (bit_xor (byte_of l s f) 6) 4) 0) ≡ not f)
unfolding byte_of digit
bits true true true = (refl, refl, refl, refl)
bits true true false = (refl, refl, refl, refl)
bits true false true = (refl, refl, refl, refl)
bits true false false = (refl, refl, refl, refl)
bits false true true = (refl, refl, refl, refl)
bits false true false = (refl, refl, refl, refl)
bits false false true = (refl, refl, refl, refl)
bits false false false = (refl, refl, refl, refl)

module _ {G : Partition} {p : Plan} {i u period : ℕ} {marks : List ℕ} (j : Judged G p i u period marks)
    (away : u ≢ border_at G i) (number : ℕ → ℕ)
    (own : (x : ℕ) → profile G.graph p i u x ≡ ticks (number x)) where
  module _ (x : ℕ) (k : x < period) where
    tells_21 : tells marks 21 x ≡ fails 21 G p i u x
    unfolding tells fails
    tells_21 = rw (j.at x k, ne_eqb u (border_at G i) away) (bits _ _ _).0

    tells_22 : tells marks 22 x ≡ fails 22 G p i u x
    unfolding tells fails
    tells_22 = rw (j.at x k) (bits _ _ _).1

    tells_23 : tells marks 23 x ≡ fails 23 G p i u x
    unfolding tells fails
    tells_23 = rw (j.at x k, own x, ne_eqb u (border_at G i) away) (bits _ _ _).2

    is_23 : fails 23 G p i u x ≡ not (given G p all i u x)
    unfolding fails
    is_23 = rw (own x, ne_eqb u (border_at G i) away)

    -- where 23 does not fail, some arc gives the number
    tells_24 : fails 23 G p i u x ≡ false → tells marks 24 x ≡ fails 24 G p i u x
    unfolding tells fails
    tells_24 e =
        rw (j.at x k, own x)
        ((bits _ _ _).3 ∙ go (given G p all i u x) (not (given G p (towards G p (border_at G i)) i u x))
        (sym is_23 ∙ e))
      where
        go : (b c : Bool) → not b ≡ false → c ≡ (b && c)
        go true c f = refl
        go false c f = let y : ◌≡◌ {A = ℕ} 0 1 = cc in absurd (omega arith)

  pub judged_telling : Telling G p i u period marks
  judged_telling = record {
    is = λ n x lo hi k before.
        each_test
        (λ n. ((m y : ℕ) → 21 ≤ m → m < n → y < period → fails m G p i u y ≡ false)
        → tells marks n x ≡ fails n G p i u x)
        n lo hi (λ _. tells_21 x k) (λ _. tells_22 x k) (λ _. tells_23 x k)
        (λ b. tells_24 x k (b 23 x (omega arith) (omega arith) k)) before;
  }
