-- A block's form: its kind, a zero byte, its number of entries, its own number, and zeros from its last entry
-- up to its check; the form of a run of blocks; and a file's length. Every test is executable, and nested as
-- the code makes it.
use mathlib.Core.{Path.◌≡◌, Path.refl, Path.sym, Path.◌∙◌, Path.ap, List.List}
use Rattle.std.specs.Prelude.{Bool, true, false, ◌&&◌, ◌||◌, ℕ, ◌+◌, ◌-◌, ◌*◌, ◌%◌, ◌≤◌, ◌<◌}
use Rattle.std.specs.Prelude.{take, drop, length}
use Rattle.std.specs.{Bool.MatchBool, List.AllWithin, List.HoldsAt}
use Rattle.std.proofs.Math.Bool.{not, and-eq-true_iff}
use native.Mathlib.{Decide.dec_lt, Omega.arith}
use lib.{ListN.get_or, Dec.ltb, Dec.eqb}
use Rattle.std.proofs.Common.{length-take, length-drop, get_or-take, get_or-drop}
use borrow.Author.Tests.{eq-eqb, ne_eqb, eqb-true, eqb-false, le-ltb, ltb-false, not-true, not-false}
use Rattle.theory_loops.specs.First.{first, any, First, some, clear, first_le, first_is}
use Rattle.theory_loops.specs.Pick.{first_rung, at_first, past_first, rung_passed, rung_clear, or_passed}
use Rattle.file_fields.specs.{Fields.le16, Fields.le32, Block.block_size, Block.summed_size, Block.head_size}
use Rattle.file_blocks.specs.Place.{blocks, entries_in}

-- byte k from a on is no zero
abbrev pub nonzero : List ℕ → ℕ → ℕ → Bool
nonzero file a k = not (eqb (get_or file (a + k) 0) 0)

-- all bytes from a up to e are 0
abbrev pub zeros : List ℕ → ℕ → ℕ → Bool
zeros file a e = not (any (e - a) (nonzero file a))

-- block b is of this kind, with so many entries, and `used` bytes are its head and its entries
unfoldable pub formed : List ℕ → ℕ → ℕ → ℕ → ℕ → Bool
formed file b kind entries used =
    eqb (get_or file (block_size * b) 0) kind &&
    (eqb (get_or file (block_size * b + 1) 0) 0 &&
    (eqb (le16 file (block_size * b + 2)) entries &&
    (eqb (le32 file (block_size * b + 4)) b && zeros file (block_size * b + used)
    (block_size * b + summed_size))))

-- block j of a run of n entries, whose first block is `from`
abbrev pub run_formed : List ℕ → ℕ → ℕ → ℕ → ℕ → ℕ → ℕ → Bool
run_formed file from kind per size n j =
    formed file (from + j) kind (entries_in per n j) (head_size + size * entries_in per n j)

abbrev pub unformed : List ℕ → ℕ → ℕ → ℕ → ℕ → ℕ → ℕ → Bool
unformed file from kind per size n j = not (run_formed file from kind per size n j)

-- every block of the run is in its form
abbrev pub RunFormed : List ℕ → ℕ → ℕ → ℕ → ℕ → ℕ → Type 0
RunFormed file from kind per size n =
    (j : ℕ) → j < blocks per n → run_formed file from kind per size n j ≡ true

-- the number of the run's first block that is out of its form, or else b
unfoldable pub unformed_or : List ℕ → ℕ → ℕ → ℕ → ℕ → ℕ → ℕ → ℕ
unformed_or file from kind per size n b =
    first_rung (λ j. from + j) (blocks per n) (unformed file from kind per size n) b

-- the length of no file of at most `most` bytes: no block, a part of a block, or more
unfoldable pub bad_length : ℕ → ℕ → Bool
bad_length most long = eqb long 0 || (not (eqb (long % block_size) 0) || ltb most long)

module _ (file : List ℕ) (a : ℕ) where
  -- FOR A READER of the test: it says that each byte is 0, and no less
  pub zeros_each : (e : ℕ) → zeros file a e ≡ true → (i : ℕ) → a ≤ i → i < e → get_or file i 0 ≡ 0
  zeros_each e h i l m =
      let n : e - a ≤ first (e - a) (nonzero file a) = ltb-false _ _ (not-true _ h) in
      let f : first (e - a) (nonzero file a) ≡ e - a = omega (arith, first_le (nonzero file a) (e - a)) in
      let k : a + (i - a) ≡ i = omega arith in
      let z : get_or file (a + (i - a)) 0 ≡ 0 =
      eqb-true _ _ (not-false _ (clear (nonzero file a) (e - a) f (i - a) (omega arith))) in
      rw k at z

  pub zeros_all : (e : ℕ) → ((i : ℕ) → a ≤ i → i < e → get_or file i 0 ≡ 0) → zeros file a e ≡ true
  zeros_all e h = ap not
      (le-ltb (first (e - a) (nonzero file a)) (e - a)
      (omega (arith, first_is (nonzero file a) (e - a) (e - a) all)))
    where
      all : First (e - a) (nonzero file a) (e - a)
      all =
          record {
            within = omega arith;
            before = λ k l. ap not (eq-eqb _ _ (h (a + k) (omega arith) (omega arith)));
            at = λ l. absurd (omega arith);
          }

-- FOR THE CODE of `zeros`, which has asked each byte of the part xs
module _ (file xs : List ℕ) (a e : ℕ) (q : xs ≡ take (e - a) (drop a file)) (l : e ≤ length file) where
  part_long : length xs ≡ e - a
  part_long = ap length q ∙ simp (length-take, length-drop) (omega arith)

  part_byte : (k : ℕ) → k < e - a → get_or xs k 0 ≡ get_or file (a + k) 0
  part_byte k n = rw q (get_or-take (e - a) (drop a file) k 0 n ∙ get_or-drop a file k 0)

  pub zeros_told : (r : Bool)
      → MatchBool r (AllWithin (λ b. b ≡ 0) xs 0 (length xs))
      ((k : ℕ) × (k < length xs) × HoldsAt (λ b. b ≡ 0 → ⊥) xs k)
      → r ≡ zeros file a e
  zeros_told true h =
      sym
      (zeros_all file a e
      (λ i f g.
      let z : a + (i - a) ≡ i = omega arith in
      let b : get_or file (a + (i - a)) 0 ≡ 0 =
      sym (part_byte (i - a) (omega arith)) ∙ h (i - a) 0 (omega arith) (omega (arith, part_long)) in
      rw z at b))
  zeros_told false (k, n, h) =
      let m : k < e - a = omega (arith, part_long) in
      ap not (some (nonzero file a) (e - a) k m (ap not (ne_eqb _ _ (λ z. h 0 (part_byte k m ∙ z)))))

-- FOR THE CODE of `formed`: the first test that fails decides, and the last is left when all before it hold
module _ (file : List ℕ) (b kind entries used : ℕ) where
  pub kind_decides : (get_or file (block_size * b) 0 ≡ kind → ⊥)
      → eqb (get_or file (block_size * b) 0) kind ≡ formed file b kind entries used
  unfolding formed
  kind_decides h = rw (ne_eqb _ _ h)

  module _ (k : get_or file (block_size * b) 0 ≡ kind) where
    pub zero_decides : (get_or file (block_size * b + 1) 0 ≡ 0 → ⊥)
        → eqb (get_or file (block_size * b + 1) 0) 0 ≡ formed file b kind entries used
    unfolding formed
    zero_decides h = rw (eq-eqb _ _ k, ne_eqb _ _ h)

    module _ (z : get_or file (block_size * b + 1) 0 ≡ 0) (x : ℕ) (e : x ≡ le16 file (block_size * b + 2)) where
      pub entries_decide : (x ≡ entries → ⊥) → eqb x entries ≡ formed file b kind entries used
      unfolding formed
      entries_decide h = rw (eq-eqb _ _ k, eq-eqb _ _ z, ← e, ne_eqb _ _ h)

      module _ (f : x ≡ entries) (y : ℕ) (g : y ≡ le32 file (block_size * b + 4)) where
        pub number_decides : (y ≡ b → ⊥) → eqb y b ≡ formed file b kind entries used
        unfolding formed
        number_decides h = rw (eq-eqb _ _ k, eq-eqb _ _ z, ← e, eq-eqb _ _ f, ← g, ne_eqb _ _ h)

        pub fill_decides : y ≡ b → (t : Bool)
            → t ≡ zeros file (block_size * b + used) (block_size * b + summed_size)
            → t ≡ formed file b kind entries used
        unfolding formed
        fill_decides h t q = rw (eq-eqb _ _ k, eq-eqb _ _ z, ← e, eq-eqb _ _ f, ← g, eq-eqb _ _ h) q

pub ruleset forms = (kind_decides, zero_decides, entries_decide, number_decides, fill_decides)

-- FOR THE CODE of `unformed`, which has worked the entries out
pub run_unformed : (file : List ℕ) (from kind per size n j e : ℕ) (t : Bool) → e ≡ entries_in per n j
    → t ≡ formed file (from + j) kind e (head_size + size * e)
    → not t ≡ unformed file from kind per size n j
run_unformed file from kind per size n j e t f h = rw (h, f)

module _ (file : List ℕ) (from kind per size n : ℕ) where
  -- FOR CODE that has found that block, which is i, in a run that ends before block `end`
  module _ (i end : ℕ) (e : i ≡ from + first (blocks per n) (unformed file from kind per size n))
      (f : end ≡ from + blocks per n) where
    pub run_taken : (b : ℕ) → i < end → i ≡ unformed_or file from kind per size n b
    unfolding unformed_or
    run_taken b l = at_first i b (λ j. from + j) _ _ (unformed file from kind per size n) refl (omega arith) e

    pub run_passed : (r b : ℕ) → end ≤ i → r ≡ b → r ≡ unformed_or file from kind per size n b
    unfolding unformed_or
    run_passed r b l g =
        past_first r b (λ j. from + j) _ _ (unformed file from kind per size n) refl (omega arith) g

    -- the last run's, or its end, which is the file's
    pub run_last : i ≡ unformed_or file from kind per size n end
    run_last = elim (dec_lt i end) [
      | yes l ↦ run_taken end l
      | no l ↦
          run_passed i end (omega arith)
          (omega (arith, first_le (unformed file from kind per size n) (blocks per n)))
    ]

    -- a run that is passed is in its form
    pub run_formed_lem : end ≤ i → RunFormed file from kind per size n
    run_formed_lem l j m =
        let p = unformed file from kind per size n in
        not-false _ (clear p (blocks per n) (omega (arith, first_le p (blocks per n))) j m)

  -- FOR A READER of the tests: a run is passed exactly when it is in its form
  pub formed_past : (b x : ℕ) → from + blocks per n ≤ x → unformed_or file from kind per size n b ≡ x
      → RunFormed file from kind per size n × (b ≡ x)
  unfolding unformed_or
  formed_past b x l e =
      let (h, f) = rung_passed (λ j. from + j) (blocks per n) (unformed file from kind per size n) b x
      (λ i m q. omega arith) e in
      (λ j m. not-false _ (h j m), f)

  pub past_formed : (b : ℕ) → RunFormed file from kind per size n → unformed_or file from kind per size n b ≡ b
  unfolding unformed_or
  past_formed b h = rung_clear (λ j. from + j) (blocks per n) _ b (λ j m. ap not (h j m))

-- what a length that is passed says, and that the length of some blocks is passed
pub length_fine : (most long : ℕ) (t : Bool) → t ≡ bad_length most long → t ≡ false
    → (block_size ≤ long) × (long ≤ most)
unfolding bad_length
length_fine most long t e f =
    let (z, g) = or_passed _ _ (sym e ∙ f) in
    let (m, h) = or_passed _ _ g in
    let n : (long ≡ 0) → ⊥ = eqb-false long 0 z in
    let k : long % block_size ≡ 0 = eqb-true (long % block_size) 0 (not-false _ m) in
    (omega arith, ltb-false most long h)

pub fine_length : (most n long : ℕ) → long ≡ block_size * n → 1 ≤ n → block_size * n ≤ most
    → bad_length most long ≡ false
unfolding bad_length
fine_length most n long e l m = rw (
  ne_eqb long 0 (omega arith),
  eq-eqb (long % block_size) 0 (omega arith),
  le-ltb most long (omega arith),
)

-- what `formed` says, part by part
pub record Formed (file : List ℕ) (b kind entries used : ℕ) : Type 0 where
  pub kind_is : get_or file (block_size * b) 0 ≡ kind
  pub zero_is : get_or file (block_size * b + 1) 0 ≡ 0
  pub entries_is : le16 file (block_size * b + 2) ≡ entries
  pub number_is : le32 file (block_size * b + 4) ≡ b
  pub fill_is : (i : ℕ) → block_size * b + used ≤ i → i < block_size * b + summed_size → get_or file i 0 ≡ 0

module _ (file : List ℕ) (b kind entries used : ℕ) where
  pub formed_parts : formed file b kind entries used ≡ true → Formed file b kind entries used
  unfolding formed
  formed_parts h =
      let (k, h₁) = (and-eq-true_iff _ _).0 h in
      let (z, h₂) = (and-eq-true_iff _ _).0 h₁ in
      let (e, h₃) = (and-eq-true_iff _ _).0 h₂ in
      let (n, f) = (and-eq-true_iff _ _).0 h₃ in
      record {
        kind_is = eqb-true _ _ k;
        zero_is = eqb-true _ _ z;
        entries_is = eqb-true _ _ e;
        number_is = eqb-true _ _ n;
        fill_is = zeros_each file (block_size * b + used) (block_size * b + summed_size) f;
      }

  pub parts_formed : Formed file b kind entries used → formed file b kind entries used ≡ true
  unfolding formed
  parts_formed f =
      rw (
        eq-eqb _ _ f.kind_is,
        eq-eqb _ _ f.zero_is,
        eq-eqb _ _ f.entries_is,
        eq-eqb _ _ f.number_is,
      )
      (zeros_all file (block_size * b + used) (block_size * b + summed_size) f.fill_is)
