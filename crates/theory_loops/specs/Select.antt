-- The indices below a bound at which a test holds, in rising order, and what a loop leaves that writes them
-- to a list's front.
use mathlib.Core.{Path.◌≡◌, Path.refl, Path.◌∙◌, Bool.Bool, Bool.true, Bool.false}
use Rattle.std.specs.Prelude.{List, [], ◌∷◌, ◌++◌, length, get_or, drop, set}
use Rattle.std.proofs.Common.{append_assoc, length-append, length-set, drop-cons}
use Prim.Native.Nat.{ℕ, zero, suc, ◌+◌, ◌≤◌, ◌<◌}
use native.Mathlib.{Numerals.add-one, Nat.le_refl, Nat.le_trans, Decide.dec_lt, Decide.le_ind, Omega.arith}
use Rattle.std.proofs.Math.ListN.{get_or-append}
use Rattle.std.proofs.Math.Seq.{get_or-append_seam, set-append_seam}
use Rattle.theory_loops.specs.Fill.{overwritten}

unfoldable pub select : ℕ → (ℕ → Bool) → List ℕ
select zero p = []
select (suc n) p =
    let r = select n p in
    elim (p n) [ true ↦ r ++ (n ∷ []) | false ↦ r ]

-- one more at the end of the front
pub front_more : (xs old : List ℕ) (v : ℕ) → length xs < length old
    → set (overwritten xs old) (length xs) v ≡ overwritten (xs ++ (v ∷ [])) old
front_more xs old v l =
    rw (drop-cons old (length xs) 0 l, append_assoc, length-append xs (v ∷ []), add-one)
    (set-append_seam xs (get_or old (length xs) 0) (drop (suc (length xs)) old) v)

-- FOR THE LOOP: the first c entries are the indices selected so far
pub record Chosen (n : ℕ) (p : ℕ → Bool) (c : ℕ) (old new : List ℕ) : Type 0 where
  pub count : c ≡ length (select n p)
  pub list : new ≡ overwritten (select n p) old
  pub few : c ≤ n
  pub long : length new ≡ length old

select_yes : (p : ℕ → Bool) (n : ℕ) → p n ≡ true → select (n + 1) p ≡ select n p ++ (n ∷ [])
unfolding select
select_yes p n t = rw (add-one, t, select)

select_no : (p : ℕ → Bool) (n : ℕ) → p n ≡ false → select (n + 1) p ≡ select n p
unfolding select
select_no p n t = rw (add-one, t, select)

module _ (p : ℕ → Bool) (old : List ℕ) where
  pub choose_none : Chosen 0 p 0 old old
  unfolding select
  choose_none = record { count = refl; list = refl; few = omega arith; long = refl }

  pub choose_yes : (n c : ℕ) (new : List ℕ) → Chosen n p c old new → c < length old → p n ≡ true
      → Chosen (n + 1) p (c + 1) old (set new c n)
  choose_yes n c new h l t =
      record {
        count = rw (select_yes p n t, length-append) (omega (arith, h.count));
        list = rw (select_yes p n t, h.list, h.count)
            (front_more (select n p) old n (omega (arith, h.count)));
        few = omega (arith, h.few);
        long = length-set new c n ∙ h.long;
      }

  pub choose_no : (n c : ℕ) (new : List ℕ) → Chosen n p c old new → p n ≡ false → Chosen (n + 1) p c old new
  choose_no n c new h t =
      record {
        count = rw (select_no p n t) h.count;
        list = rw (select_no p n t) h.list;
        few = omega (arith, h.few);
        long = h.long;
      }

  pub choose_end : (n m c : ℕ) (new : List ℕ) → Chosen n p c old new → n ≤ m → m ≤ n → Chosen m p c old new
  choose_end n m c new h l k = let e : n ≡ m = omega arith in rw e at h

-- for `search chooses` at the needs of such a loop
pub ruleset chooses = (choose_none, choose_yes, choose_no, choose_end)

-- FOR A READER of the list: entry i is below n, passes the test, and has exactly i selected before it
pub record Selected (n : ℕ) (p : ℕ → Bool) (i v : ℕ) : Type 0 where
  pub below : v < n
  pub passes : p v ≡ true
  pub rank : length (select v p) ≡ i

module _ (p : ℕ → Bool) where
  next_yes : (n : ℕ) → p n ≡ true → select (suc n) p ≡ select n p ++ (n ∷ [])
  next_yes n t = rw (add-one n) at (select_yes p n t)

  next_no : (n : ℕ) → p n ≡ false → select (suc n) p ≡ select n p
  next_no n t = rw (add-one n) at (select_no p n t)

  abbrev Entries : ℕ → Type 0
  Entries n = (i : ℕ) → i < length (select n p) → Selected n p i (get_or (select n p) i 0)

  wider : {n i v : ℕ} → Selected n p i v → Selected (suc n) p i v
  wider s = record { below = omega (arith, s.below); passes = s.passes; rank = s.rank }

  entries_more : (n : ℕ) (t : Bool) → p n ≡ t → Entries n → Entries (suc n)
  entries_more n true e h i l = rw (next_yes n e) (elim (dec_lt i (length (select n p))) [
    | yes k ↦ rw (get_or-append (select n p) (n ∷ []) 0 i k) (wider (h i k))
    | no k ↦
        let q : i ≡ length (select n p) =
        omega (arith, length-append (select n p) (n ∷ []), rw (next_yes n e) at l) in
        rw (q, get_or-append_seam (select n p) n [] 0) (record { below = omega arith; passes = e; rank = refl })
  ])
  entries_more n false e h i l = rw (next_no n e) (wider (h i (rw (next_no n e) at l)))

  pub selected : (n i : ℕ) → i < length (select n p) → Selected n p i (get_or (select n p) i 0)
  unfolding select
  selected zero i l = absurd (omega arith)
  selected (suc n) i l = entries_more n (p n) refl (selected n) i l

  -- the rank of v, how many are selected below it: it never falls, and rises past an index that passes
  rank_yes : (n : ℕ) → p n ≡ true → length (select (suc n) p) ≡ length (select n p) + 1
  rank_yes n e = rw (next_yes n e) (length-append (select n p) (n ∷ []))

  rank_next : (n : ℕ) (t : Bool) → p n ≡ t → length (select n p) ≤ length (select (suc n) p)
  rank_next n true e = omega (arith, rank_yes n e)
  rank_next n false e = rw (next_no n e) (le_refl _)

  pub rank_grows : (m n : ℕ) → m ≤ n → length (select m p) ≤ length (select n p)
  rank_grows m n l =
      le_ind (λ k. length (select m p) ≤ length (select k p)) (le_refl _)
      (λ k _ h. le_trans h (rank_next k (p k) refl)) n l

  pub rank_rises : (m n : ℕ) → m < n → p m ≡ true → length (select m p) < length (select n p)
  rank_rises m n l e = omega (arith, rank_yes m e, rank_grows (suc m) n l)

  -- so an index that passes stands in the list, at the place that is its rank
  pub selected_at : (n v : ℕ) → v < n → p v ≡ true → get_or (select n p) (length (select v p)) 0 ≡ v
  selected_at n v l e =
      let w = get_or (select n p) (length (select v p)) 0 in
      let s : Selected n p (length (select v p)) w = selected n (length (select v p)) (rank_rises v n l e) in
      elim (dec_lt w v) [
        | yes k ↦ absurd (omega (arith, s.rank, rank_rises w v k s.passes))
        | no k ↦ elim
            (dec_lt v w) [ yes h ↦ absurd (omega (arith, s.rank, rank_rises v w h e)) | no h ↦ omega arith ]
      ]

  -- and the list rises
  pub select_rises : (n i j : ℕ) → i < j → j < length (select n p)
      → get_or (select n p) i 0 < get_or (select n p) j 0
  select_rises n i j l m =
      let v = get_or (select n p) i 0 in
      let w = get_or (select n p) j 0 in
      elim (dec_lt v w) [
        | yes k ↦ k
        | no k ↦ absurd
            (omega (
              arith,
              rank_grows w v (omega arith),
              (selected n i (omega arith)).rank,
              (selected n j m).rank,
            ))
      ]
