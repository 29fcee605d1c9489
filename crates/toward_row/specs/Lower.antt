-- What an arc gives at every tick, lowered into a row. An entry of a row is a travel to one node; a row that
-- has none yet is written for the first time, whatever its entries are.
use mathlib.Core.{Path.◌≡◌, Path.refl, Path.◌∙◌, Bool.Bool, Bool.true, Bool.false, Bool.true≢false, List.List}
use Rattle.std.specs.Prelude.{ℕ, ◌+◌, ◌-◌, ◌%◌, ◌^◌, ◌≤◌, ◌<◌, min, length, get_or, set}
use native.Mathlib.{Nat.mod-eq_of_lt, Nat.mod-eq-sub-mod, Nat.le_of_lt, Omega.arith}
use Rattle.theory_loops.specs.Fill.{Filled, fill_up, fill_end}
use Rattle.toward_row.specs.Cut.{Cut, Fell, cut_none, cut_up, cut_end, cut_as, cut_join}
use Rattle.network.specs.Limits.{most_period}

-- the entries of a row, and one value at every tick
unfoldable pub entries : List ℕ → ℕ → ℕ
entries row x = get_or row x 0

unfoldable pub always : ℕ → ℕ → ℕ
always c x = c

-- what an arc with travel w gives at tick x, where h has its head's travels
unfoldable pub offer : (ℕ → ℕ) → (ℕ → ℕ) → ℕ → ℕ → ℕ
offer w h period x = h ((x + w x) % period) + w x

-- what an entry becomes: the lesser of what it was and what is given, or that alone, where it is the first
unfoldable pub lowest : Bool → ℕ → ℕ → ℕ
lowest true old given = given
lowest false old given = min old given

-- the row's entry, lowered by it
unfoldable pub lowered : Bool → (ℕ → ℕ) → (ℕ → ℕ) → ℕ → List ℕ → ℕ → ℕ
lowered first w h period old x = lowest first (get_or old x 0) (offer w h period x)

-- the same where the entry of the head's row at tick x of a run is known: the run starts at tick a, and there
-- at entry `from`
unfoldable pub shifted : Bool → List ℕ → ℕ → ℕ → ℕ → List ℕ → ℕ → ℕ
shifted first hs from a more old x = lowest first (get_or old x 0) (get_or hs (from + (x - a)) 0 + more)

-- the first n entries of a head's row are there and leave room for a travel: what an arc gives there is a
-- number, and one that compares as a signed number
pub record Capped (hs : List ℕ) (n : ℕ) : Type 0 where
  pub long : n ≤ length hs
  pub entry : (y : ℕ) → y < n → get_or hs y 0 + most_period < 2 ^ 31

-- the entries of a row from tick a up to tick b are such numbers
pub record Numbers (row : List ℕ) (a b : ℕ) : Type 0 where
  pub entry : (x : ℕ) → a ≤ x → x < b → get_or row x 0 < 2 ^ 31

-- a row that is not written for the first time has them from tick a up to tick b
pub record Known (first : Bool) (row : List ℕ) (a b : ℕ) : Type 0 where
  pub numbers : first ≡ false → Numbers row a b

-- what the code that lowers a piece from (a, v) to (b, w) by a head's row rests on
pub record Ready (first : Bool) (hs row : List ℕ) (period a v b w : ℕ) : Type 0 where
  pub apart : a < b
  pub within : b ≤ period
  pub short : period ≤ most_period
  pub long : period ≤ length row
  pub first_most : v ≤ period
  pub last_most : w ≤ period
  pub capped : Capped hs period
  pub known : Known first row a b

-- where a part has been lowered, the row is still known behind it
pub known_on : {first : Bool} {f : ℕ → ℕ} {old new : List ℕ} {a b x e : ℕ} → Known first old a b
    → Filled a x f old new → a ≤ x → e ≤ b → Known first new x e
known_on h w l m = record {
  numbers = λ t. record {
    entry = λ y lo hi. omega (arith, w.after y lo, (h.numbers t).entry y (omega arith) (omega arith));
  };
}

pub known_part : {first : Bool} {row : List ℕ} {a b e : ℕ} → Known first row a b → e ≤ b → Known first row a e
known_part h m = record {
  numbers = λ t. record { entry = λ x lo hi. (h.numbers t).entry x lo (omega arith) };
}

pub capped_part : {hs : List ℕ} {n m : ℕ} → Capped hs n → m ≤ n → Capped hs m
capped_part c l = record { long = omega (arith, c.long); entry = λ y h. c.entry y (omega arith) }

-- the lesser of two numbers, once it is known which that is
pub least_left : (x y : ℕ) → x ≤ y → x ≡ min x y
least_left x y l = omega arith

pub least_right : (x y : ℕ) → y < x → y ≡ min x y
least_right x y l = omega arith

-- FOR THE LOOP of a run that is written for the first time
pub copy_more : (hs : List ℕ) (from a more : ℕ) (old mid : List ℕ) (x v b : ℕ)
    → Filled a x (shifted true hs from a more old) old mid → a ≤ x → x < b → b ≤ length old
    → v ≡ get_or hs (from + (x - a)) 0 + more
    → Filled a (x + 1) (shifted true hs from a more old) old (set mid x v)
unfolding shifted lowest
copy_more hs from a more old mid x v b w l m n e = fill_up _ old a x v mid w l (omega arith) e

pub copy_end : (hs : List ℕ) (from a more : ℕ) (old new : List ℕ) (i n : ℕ)
    → Filled a i (shifted true hs from a more old) old new → i ≤ n → n ≤ i
    → Filled a n (shifted true hs from a more old) old new
copy_end hs from a more old new i n w l m = fill_end _ old a i n new w l m

pub ruleset copies = (copy_more, copy_end)

-- every entry of it counts
pub run_copied : {old new : List ℕ} {first : Bool} (hs : List ℕ) (from more a b : ℕ) → first ≡ true
    → Filled a b (shifted true hs from a more old) old new
    → Cut first a b (shifted first hs from a more old) old new (b - a)
run_copied hs from more a b t w = rw t (record {
  filled = w;
  few = omega arith;
  all = λ _. refl;
  none = λ f. absurd (true≢false f);
  some = λ f. absurd (true≢false f);
})

module _ (h : ℕ → ℕ) (period : ℕ) where
  -- it looks at the travel and the row at that tick alone
  pub lowered_same : (first : Bool) (w u : ℕ → ℕ) (old mid : List ℕ) (x : ℕ) → w x ≡ u x
      → get_or mid x 0 ≡ get_or old x 0 → lowered first w h period mid x ≡ lowered first u h period old x
  unfolding lowered offer
  lowered_same first w u old mid x e f = rw (e, f)

  -- two parts, lowered one after the other
  pub lower_join : {first : Bool} (w u : ℕ → ℕ) (old mid new : List ℕ) (a b c r s : ℕ)
      → Cut first a b (lowered first w h period old) old mid r
      → Cut first b c (lowered first u h period mid) mid new s
      → a ≤ b → b ≤ c → ((x : ℕ) → b ≤ x → x < c → u x ≡ w x)
      → Cut first a c (lowered first w h period old) old new (r + s)
  lower_join {first} w u old mid new a b c r s p q l m e =
      cut_join _ _ old mid new a b c r s p q l m
      (λ x lo hi. lowered_same first u w old mid x (e x lo hi) (p.filled.after x lo))

  -- a part with the travel said another way
  pub lower_as : {first : Bool} (w u : ℕ → ℕ) (old new : List ℕ) (a b r : ℕ)
      → ((x : ℕ) → a ≤ x → x < b → u x ≡ w x) → Cut first a b (lowered first u h period old) old new r
      → Cut first a b (lowered first w h period old) old new r
  lower_as {first} w u old new a b r e p =
      cut_as _ _ old new a b r (λ x lo hi. lowered_same first u w old old x (e x lo hi) refl) p

-- FOR THE LOOP of a run: the entry v that it writes, and s, whether it is less
pub run_none : (hs : List ℕ) (from a more : ℕ) (old : List ℕ)
    → Cut false a a (shifted false hs from a more old) old old 0
run_none hs from a more old = cut_none (shifted false hs from a more old) old a

pub run_more : (hs : List ℕ) (from a more : ℕ) (old mid : List ℕ) (x v s r b : ℕ)
    → Cut false a x (shifted false hs from a more old) old mid r → a ≤ x → x < b → b ≤ length old
    → v ≡ min (get_or mid x 0) (get_or hs (from + (x - a)) 0 + more) → Fell (get_or mid x 0) v s
    → Cut false a (x + 1) (shifted false hs from a more old) old (set mid x v) (r + s)
unfolding shifted lowest
run_more hs from a more old mid x v s r b c l m n e k =
    cut_up _ old mid a x v s r c l (omega arith) (e ∙ rw (c.filled.after x (omega arith))) (omega arith) k

pub run_end : (hs : List ℕ) (from a more : ℕ) (old new : List ℕ) (i n r : ℕ)
    → Cut false a i (shifted false hs from a more old) old new r → i ≤ n → n ≤ i
    → Cut false a n (shifted false hs from a more old) old new r
run_end hs from a more old new i n r = cut_end (shifted false hs from a more old) old new a i n r

-- for `search runs`
pub ruleset runs = (run_none, run_more, run_end)

-- A RUN with travel c: the head's row is read from a + c on, and from the next day's tick on
module _ (hs : List ℕ) (period c : ℕ) (most : c ≤ period) where
  module _ {first : Bool} (old new : List ℕ) (a b r : ℕ) where
    pub run_today : b ≤ period - c → Cut first a b (shifted first hs (a + c) a c old) old new r
        → Cut first a b (lowered first (always c) (entries hs) period old) old new r
    unfolding shifted lowered offer always entries
    run_today l p = cut_as _ _ old new a b r (λ x lo hi.
        let e : (x + c) % period ≡ x + c = mod-eq_of_lt (omega arith) in
        let f : a + c + (x - a) ≡ x + c = omega arith in
        rw (e, f)) p

    pub run_tomorrow : period - c ≤ a → b ≤ period → (from : ℕ) → from ≡ a - (period - c)
        → Cut first a b (shifted first hs from a c old) old new r
        → Cut first a b (lowered first (always c) (entries hs) period old) old new r
    unfolding shifted lowered offer always entries
    run_tomorrow l m from z p = cut_as _ _ old new a b r (λ x lo hi.
        let d : period ≤ x + c = omega arith in
        let g : x + c - period < period = omega arith in
        let e : (x + c) % period ≡ x + c - period = mod-eq-sub-mod d ∙ mod-eq_of_lt g in
        let f : from + (x - a) ≡ x + c - period = omega arith in
        rw (e, f)) p

  -- both: the first ends at tick `period - c`
  pub run_both : {first : Bool} (old mid new : List ℕ) (a b r s : ℕ) → a ≤ period - c → period - c ≤ b
      → b ≤ period
      → Cut first a (period - c) (shifted first hs (a + c) a c old) old mid r
      → Cut first (period - c) b (shifted first hs 0 (period - c) c mid) mid new s
      → Cut first a b (lowered first (always c) (entries hs) period old) old new (r + s)
  run_both old mid new a b r s l m n p q =
      lower_join (entries hs) period _ _ old mid new a (period - c) b r s
      (run_today old mid a (period - c) r (omega arith) p)
      (run_tomorrow mid new (period - c) b s (omega arith) n 0 (omega arith) q)
      l m (λ x lo hi. refl)

-- for `search spans` at the needs of such code
pub ruleset spans = (run_today, run_tomorrow, run_both, le_of_lt)
