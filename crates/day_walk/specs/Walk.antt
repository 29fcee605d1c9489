-- Where a walk over runs stands, and on which ticks nothing changes.
use mathlib.Core.{Path.◌≡◌, Path.sym, Path.◌∙◌, Path.ap, List.List}
use Rattle.std.specs.Prelude.{ℕ, ◌+◌, ◌-◌, ◌%◌, ◌≤◌, ◌<◌}
use native.Mathlib.{Nat.mod-eq_of_lt, Nat.mod-eq-sub-mod, Nat.mod-add-mod, Decide.ℕ_discrete, Decide.dec_lt}
use Rattle.std.proofs.Common.{arith, le-leb}
use lib.{ListN.length, ListN.get_or, Dec.leb}
use mir.Val.{bool_byte}
use Rattle.std.proofs.lemmas.Bool.{lt-leb}
use Rattle.day_slopes.specs.Runs.{Grid, starts_within}

-- run i holds tick x
pub record At (starts : List ℕ) (n i x : ℕ) : Type 0 where
  pub below : i < n
  pub from : get_or starts i 0 ≤ x
  pub to : x < get_or starts (i + 1) 0

-- a list of n runs that can be read, with the period after the last
pub record Listed (starts : List ℕ) (n period : ℕ) : Type 0 where
  pub grid : Grid starts n period
  pub long : n < length starts

-- from tick t up to `to` nothing changes: not the node's run i nor the arc's travel, which is the same up to
-- `stop`, and not the head's run j, in which the arc ends at tick e
pub record Span (so : List ℕ) (i : ℕ) (sh : List ℕ) (j t e stop to period : ℕ) : Type 0 where
  pub some : t < to
  pub own : to ≤ get_or so (i + 1) 0
  pub arc : to ≤ stop
  pub head : to ≤ t + (get_or sh (j + 1) 0 - e)
  pub within : to ≤ period

-- the first run holds the first tick
pub at_first : (starts : List ℕ) (n period : ℕ) → Grid starts n period → 0 < period → At starts n 0 0
at_first starts n period g l = elim (ℕ_discrete n 0) [
  | yes q ↦ absurd (let e = rw q at g.ended in omega (arith, g.begun))
  | no q ↦ record {
    below = omega arith;
    from = omega (arith, g.begun);
    to = omega
        (arith, g.rise 0 (omega arith));
  }
]

module _ {starts : List ℕ} {n period : ℕ} (g : Grid starts n period) where
  -- a run ends within the day
  pub at_end : (i x : ℕ) → At starts n i x → get_or starts (i + 1) 0 ≤ period
  at_end i x p = starts_within g (i + 1) (omega (arith, p.below))

  -- the run after it
  pub at_next : (i x y : ℕ) → At starts n i x → y ≡ get_or starts (i + 1) 0 → y < period → At starts n (i + 1) y
  at_next i x y p e l = elim (ℕ_discrete (i + 1) n) [
    | yes q ↦ absurd (let z = rw (← q) at g.ended in omega arith)
    | no q ↦
        let m : i + 1 < n = omega (arith, p.below) in
        record { below = m; from = omega arith; to = omega (arith, g.rise (i + 1) m) }
  ]

  -- the same run, further on
  pub at_still : (i x y : ℕ) → At starts n i x → x ≤ y → y < get_or starts (i + 1) 0 → At starts n i y
  at_still i x y p l m = record { below = p.below; from = omega (arith, p.from); to = m }

  -- a run that begins within the day is one of the n
  pub begun_below : (i e : ℕ) → i ≤ n → get_or starts i 0 ≤ e → e < period → i < n
  begun_below i e l m h = elim (ℕ_discrete i n) [
    | yes q ↦ absurd (let z = rw (← q) at g.ended in omega arith)
    | no q ↦ omega arith
  ]

  -- FOR CODE that looks on from run i for the one that holds e
  pub on_more : (i e : ℕ) → i < n → get_or starts (i + 1) 0 ≤ e → e < period → i + 1 < n
  on_more i e l m h = elim (ℕ_discrete (i + 1) n) [
    | yes q ↦ absurd (let z = rw (← q) at g.ended in omega arith)
    | no q ↦ omega arith
  ]

-- one step without a jump: r is 1 where a is at most b, else 0
pub record Reached (a b r : ℕ) : Type 0 where
  pub yes : a ≤ b → r ≡ 1
  pub no : b < a → r ≡ 0

pub reached_is : (a b : ℕ) → Reached a b (bool_byte (leb a b))
reached_is a b = record { yes = λ h. rw (le-leb a b h); no = λ h. rw (lt-leb a b h) }

-- it is never more
pub reached_most : {a b r : ℕ} → Reached a b r → r ≤ 1
reached_most {a} {b} h = elim (dec_lt b a) [
  | yes q ↦ omega (arith, h.no q)
  | no q ↦ omega (arith, h.yes (omega arith))
]

module _ {starts : List ℕ} {n period : ℕ} (g : Grid starts n period) where
  -- the run of tick `to`, where run i goes on at least up to it
  pub step_next : (i t to a r : ℕ) → At starts n i t → t ≤ to → to ≤ get_or starts (i + 1) 0
      → a ≡ get_or starts (i + 1) 0
      → Reached a to r → to < period → At starts n (i + r) to
  step_next i t to a r p l m e h o = elim (dec_lt to (get_or starts (i + 1) 0)) [
    | yes q ↦
        let z : i + r ≡ i = omega (arith, h.no (omega arith)) in
        rw z (at_still g i t to p l q)
    | no q ↦
        let z : i + r ≡ i + 1 = omega (arith, h.yes (omega arith)) in
        rw z (at_next g i t to p (omega arith) o)
  ]

  -- one step on the way from run i to the one that holds e
  pub step_on : (i e a r : ℕ) → i < n → get_or starts i 0 ≤ e → e < period → a ≡ get_or starts (i + 1) 0
      → Reached a e r → (i + r < n) × (get_or starts (i + r) 0 ≤ e)
  step_on i e a r l m o q h = elim (dec_lt e (get_or starts (i + 1) 0)) [
    | yes u ↦ let z : i + r ≡ i = omega (arith, h.no (omega arith)) in rw z (l, m)
    | no u ↦
        let z : i + r ≡ i + 1 = omega (arith, h.yes (omega arith)) in
        let k : get_or starts (i + 1) 0 ≤ e = omega arith in
        rw z (on_more g i e l k o, k)
  ]

-- the tick of the day at which a travel of at most a period ends
pub turned : (t w period e : ℕ) → t < period → w ≤ period → (t + w < period → e ≡ t + w)
    → (period ≤ t + w → e ≡ t + w - period) → e ≡ (t + w) % period
turned t w period e l m f h = elim (dec_lt (t + w) period) [
  | yes q ↦ f q ∙ sym (mod-eq_of_lt q)
  | no q ↦
      let d : period ≤ t + w = omega arith in
      let g : t + w - period < period = omega arith in
      h d ∙ sym (mod-eq-sub-mod d ∙ mod-eq_of_lt g)
]

-- ticks later it ends as much later, while that is within the day
pub later : (t w period e x : ℕ) → 0 < period → e ≡ (t + w) % period → t ≤ x → e + (x - t) < period
    → (x + w) % period ≡ e + (x - t)
later t w period e x some q l m =
    let a : x + w ≡ (t + w) + (x - t) = omega arith in
    ap (λ (i : ℕ). i % period) a
    ∙ sym (mod-add-mod (t + w) period (x - t))
    ∙ ap (λ (i : ℕ). (i + (x - t)) % period) (sym q)
    ∙ mod-eq_of_lt m
