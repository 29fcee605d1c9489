-- What a loop leaves that writes a part of a lent list: each entry of the part has its value, and all the
-- rest is as it was.
use Rattle.std.specs.Prelude.{◌≡◌, refl, List, [], ◌∷◌, ◌++◌, ℕ, zero, suc, ◌+◌, ◌-◌, ◌≤◌, ◌<◌, length, get_or, set, drop}
use Rattle.std.proofs.Common.{sym, ap, subst, ◌∙◌, zero-le, length-set, length-append, length-drop, get_or-set_same, get_or-set_other, ext_get_or, get_or-append-add, get_or-drop}
use native.Mathlib.{Nat.lt_of_lt_of_le, Omega.arith, Decide.ℕ_discrete, Decide.dec_lt}
use Rattle.std.proofs.Math.ListN.{get_or-append}

-- the entries from a up to b are f's, the others are the old ones, and there are as many
pub record Filled (a b : ℕ) (f : ℕ → ℕ) (old new : List ℕ) : Type 0 where
  pub long : length new ≡ length old
  pub written : (k : ℕ) → a ≤ k → k < b → get_or new k 0 ≡ f k
  pub before : (k : ℕ) → k < a → get_or new k 0 ≡ get_or old k 0
  pub after : (k : ℕ) → b ≤ k → get_or new k 0 ≡ get_or old k 0

module _ (f : ℕ → ℕ) (old : List ℕ) where
  -- nothing is written yet
  pub fill_none : (a : ℕ) → Filled a a f old old
  fill_none a =
      record {
        long = refl;
        written = λ k l m. absurd (omega arith);
        before = λ k l. refl;
        after = λ k l. refl;
      }

  -- one more entry, at the part's end
  pub fill_up : (a i v : ℕ) (new : List ℕ) → Filled a i f old new → a ≤ i → i < length old → v ≡ f i
      → Filled a (i + 1) f old (set new i v)
  fill_up a i v new h l m e =
      record {
        long = length-set new i v ∙ h.long;
        written = λ k lo hi. elim (ℕ_discrete k i) [
          | yes q ↦ rw q (get_or-set_same new i v 0 (omega (arith, h.long)) ∙ e)
          | no q ↦ get_or-set_other new i k v 0 q ∙ h.written k lo (omega arith)
        ];
        before = λ k lo. get_or-set_other new i k v 0 (omega arith) ∙ h.before k lo;
        after = λ k lo. get_or-set_other new i k v 0 (omega arith) ∙ h.after k (omega arith);
      }

  -- one more entry, before the part's start
  pub fill_down : (i b v : ℕ) (new : List ℕ) → Filled (i + 1) b f old new → i < b → i < length old → v ≡ f i
      → Filled i b f old (set new i v)
  fill_down i b v new h l m e =
      record {
        long = length-set new i v ∙ h.long;
        written = λ k lo hi. elim (ℕ_discrete k i) [
          | yes q ↦ rw q (get_or-set_same new i v 0 (omega (arith, h.long)) ∙ e)
          | no q ↦ get_or-set_other new i k v 0 q ∙ h.written k (omega arith) hi
        ];
        before = λ k lo. get_or-set_other new i k v 0 (omega arith) ∙ h.before k (omega arith);
        after = λ k lo. get_or-set_other new i k v 0 (omega arith) ∙ h.after k lo;
      }

  -- the same in a loop that counts i down and then writes
  pub fill_back : (i b v : ℕ) (new : List ℕ) → Filled i b f old new → 0 < i → i ≤ b → b ≤ length old
      → v ≡ f (i - 1) → Filled (i - 1) b f old (set new (i - 1) v)
  fill_back i b v new h l m n e =
      let q : i ≡ i - 1 + 1 = omega arith in
      fill_down (i - 1) b v new (subst (λ (k : ℕ). Filled k b f old new) q h) (omega arith) (omega arith) e

  -- a loop has come to its end, up or down
  pub fill_end : (a i n : ℕ) (new : List ℕ) → Filled a i f old new → i ≤ n → n ≤ i → Filled a n f old new
  fill_end a i n new h l m = let e : i ≡ n = omega arith in rw e at h

  pub fill_start : (a i b : ℕ) (new : List ℕ) → Filled i b f old new → i ≤ a → a ≤ i → Filled a b f old new
  fill_start a i b new h l m = let e : i ≡ a = omega arith in rw e at h

-- for `search fills` at the needs of such a loop
pub ruleset fills = (fill_none, fill_up, fill_down, fill_back, fill_end, fill_start, zero-le, lt_of_lt_of_le)

-- f at 0, 1, .. n - 1
unfoldable pub tab : ℕ → (ℕ → ℕ) → List ℕ
tab zero f = []
tab (suc n) f = f zero ∷ tab n (λ k. f (suc k))

pub length_tab : (n : ℕ) (f : ℕ → ℕ) → length (tab n f) ≡ n
unfolding tab
length_tab zero f = refl
length_tab (suc n) f = ap suc (length_tab n (λ k. f (suc k)))

pub get_or_tab : (n : ℕ) (f : ℕ → ℕ) (k : ℕ) → k < n → get_or (tab n f) k 0 ≡ f k
unfolding tab
get_or_tab zero f k l = absurd (omega arith)
get_or_tab (suc n) f zero l = refl
get_or_tab (suc n) f (suc k) l = get_or_tab n (λ j. f (suc j)) k (omega arith)

-- a list is its own entries
pub tab_list : (w : List ℕ) → tab (length w) (λ k. get_or w k 0) ≡ w
unfolding tab
tab_list [] = refl
tab_list (a ∷ w) = ap (λ (l : List ℕ). a ∷ l) (tab_list w)

-- where nothing is written, nothing has changed
pub filled_none : (f : ℕ → ℕ) (a : ℕ) (old new : List ℕ) → Filled a a f old new → new ≡ old
filled_none f a old new h =
    ext_get_or 0 new old h.long
    (λ k m. elim (dec_lt k a) [ yes q ↦ h.before k q | no q ↦ h.after k (omega arith) ])

-- a list whose first entries have become these values: the others stay
abbrev pub overwritten : List ℕ → List ℕ → List ℕ
overwritten values old = values ++ drop (length values) old

-- the same said by one list equation, for a caller that puts the list into another definition
pub filled_list : (f : ℕ → ℕ) (n : ℕ) (old new : List ℕ) → n ≤ length old → Filled 0 n f old new
    → new ≡ tab n f ++ drop n old
filled_list f n old new l h =
    ext_get_or 0 new (tab n f ++ drop n old)
    (h.long ∙ simp (length-append, length-drop, length_tab) (omega arith))
    (λ k m. elim (dec_lt k n) [
      | yes q ↦ h.written k (omega arith) q
          ∙ sym (get_or-append (tab n f) (drop n old) 0 k (rw length_tab q) ∙ get_or_tab n f k q)
      | no q ↦ h.after k (omega arith) ∙ sym (past k (omega arith))
    ])
  where
    past : (k : ℕ) → n ≤ k → get_or (tab n f ++ drop n old) k 0 ≡ get_or old k 0
    past k q =
        let e : length (tab n f) + (k - n) ≡ k = omega (arith, length_tab n f) in
        let w : n + (k - n) ≡ k = omega arith in
        rw (← e) (get_or-append-add (tab n f) (drop n old) (k - n) 0 ∙ get_or-drop n old (k - n) 0 ∙ rw (e, w))

-- and back
pub list_filled : (f : ℕ → ℕ) (n : ℕ) (old : List ℕ) → n ≤ length old
    → Filled 0 n f old (tab n f ++ drop n old)
list_filled f n old l = record {
  long = simp (length-append, length-drop, length_tab) (omega arith);
  written = λ k _ m. get_or-append (tab n f) (drop n old) 0 k (rw length_tab m) ∙ get_or_tab n f k m;
  before = λ k m. absurd (omega arith);
  after = λ k m.
      let e : length (tab n f) + (k - n) ≡ k = omega (arith, length_tab n f) in
      let w : n + (k - n) ≡ k = omega arith in
      (rw e at (get_or-append-add (tab n f) (drop n old) (k - n) 0)) ∙ get_or-drop n old (k - n) 0
      ∙ ap (λ (i : ℕ). get_or old i 0) w;
}

-- a part said with other values that agree on it
pub fill_within : (f g : ℕ → ℕ) (a b : ℕ) (old new : List ℕ) → ((k : ℕ) → a ≤ k → k < b → f k ≡ g k)
    → Filled a b f old new → Filled a b g old new
fill_within f g a b old new e h =
    record {
      long = h.long;
      written = λ k l m. h.written k l m ∙ e k l m;
      before = h.before;
      after = h.after;
    }

-- a part written on by a second loop
pub fill_join : (f : ℕ → ℕ) (a m b : ℕ) (old mid new : List ℕ) → a ≤ m → m ≤ b → Filled a m f old mid
    → Filled m b f mid new → Filled a b f old new
fill_join f a m b old mid new l k g h =
    record {
      long = h.long ∙ g.long;
      written = λ i p q. elim (dec_lt i m) [
        | yes n ↦ h.before i n ∙ g.written i p n
        | no n ↦ h.written i (omega arith) q
      ];
      before = λ i p. h.before i (omega arith) ∙ g.before i p;
      after = λ i p. h.after i p ∙ g.after i (omega arith);
    }
