-- The breaks of a block's points by their words of 16 bits, of which every third is a tick: each word is
-- compared with the third after it, in five parts of as many points at once, and counted where it is a tick.
use mathlib.Core.{Path.◌≡◌, Path.refl, Path.sym, Path.◌∙◌, Path.ap, List.List}
use Rattle.std.specs.Prelude.{ℕ, zero, suc, ◌+◌, ◌*◌, ◌%◌, ◌≤◌, Bool, true, false, ◌&&◌, ◌==◌}
use native.Mathlib.{Numerals.add-one, Omega.arith}
use borrow.Author.Tests.{eq-eqb, ne_eqb}
use Rattle.theory_loops.specs.Count.{count, count_none, count_no, count_few}
use Rattle.theory_breaks.specs.Tally.{flag, tally_more}
use Rattle.file_blocks.specs.Kind.{profile_point_size}
use Rattle.plan_rising.specs.Breaks.{falls_at, break_at, both_all}

-- THE WORDS of a part of a block's points, and which of them are ticks
abbrev pub part_points : ℕ
part_points = 16

abbrev pub part_size : ℕ
part_size = profile_point_size * part_points

abbrev pub part_words : ℕ
part_words = 3 * part_points

-- the points of all five parts
abbrev pub word_points : ℕ
word_points = 5 * part_points

abbrev pub tick_mark : ℕ → ℕ
tick_mark i = flag (i % 3 == 0)

-- from word i to the third after it, where they are ticks
unfoldable pub word_break : List ℕ → ℕ → ℕ → Bool
word_break file base i = falls_at file (base + 2 * i) && i % 3 == 0

true_right : (b : Bool) → (b && true) ≡ b
true_right true = refl
true_right false = refl

false_right : (b : Bool) → (b && false) ≡ false
false_right true = refl
false_right false = refl

-- every third of them is a point's tick
module _ (file : List ℕ) (base n : ℕ) where
  tick_word : word_break file base (3 * n) ≡ break_at file base n
  unfolding word_break break_at
  tick_word =
      let z : 2 * (3 * n) ≡ profile_point_size * n = omega arith in
      rw (z, eq-eqb (3 * n % 3) 0 (omega arith)) (true_right (falls_at file (base + profile_point_size * n)))

  second_word : word_break file base (3 * n + 1) ≡ false
  unfolding word_break
  second_word =
      rw (ne_eqb ((3 * n + 1) % 3) 0 (omega arith)) (false_right (falls_at file (base + 2 * (3 * n + 1))))

  third_word : word_break file base (3 * n + 1 + 1) ≡ false
  unfolding word_break
  third_word =
      rw (ne_eqb ((3 * n + 1 + 1) % 3) 0 (omega arith))
      (false_right (falls_at file (base + 2 * (3 * n + 1 + 1))))

thirds : (file : List ℕ) (base n : ℕ) → count (3 * n) (word_break file base) ≡ count n (break_at file base)
thirds file base zero = sym (count_none _) ∙ count_none _
thirds file base (suc n) =
    let q = word_break file base in
    let c = count (3 * n) q in
    let r = flag (break_at file base n) in
    let z : 3 * suc n ≡ 3 * n + 1 + 1 + 1 = omega arith in
    let e : c + r ≡ count (n + 1) (break_at file base) =
    tally_more (break_at file base) c n r (thirds file base n) refl in
    let f : c + r ≡ count (3 * n + 1) q =
    tally_more q c (3 * n) r refl (sym (ap flag (tick_word file base n))) in
    let g : c + r ≡ count (3 * n + 1 + 1) q = count_no q (c + r) (3 * n + 1) f (second_word file base n) in
    let h : c + r ≡ count (3 * n + 1 + 1 + 1) q =
    count_no q (c + r) (3 * n + 1 + 1) g (third_word file base n) in
    rw (z, ← add-one n) (sym h ∙ e)

-- THE LOOP over the words of five parts, one behind the other from byte `base` on: i words of each
unfoldable pub words_broken : List ℕ → ℕ → ℕ → ℕ
words_broken file base i =
    count i (word_break file base) + count i (word_break file (base + part_size))
    + count i (word_break file (base + 2 * part_size)) + count i (word_break file (base + 3 * part_size))
    + count i (word_break file (base + 4 * part_size))

-- and how many words fall of those as far from each other, the first at byte o
abbrev pub falls_apart : List ℕ → ℕ → ℕ
falls_apart file o =
    flag (falls_at file o) + flag (falls_at file (o + part_size)) + flag (falls_at file (o + 2 * part_size))
    + flag (falls_at file (o + 3 * part_size)) + flag (falls_at file (o + 4 * part_size))

word_more : (file : List ℕ) (base i o : ℕ) → o ≡ base + 2 * i
    → count i (word_break file base) + tick_mark i * flag (falls_at file o) ≡ count (i + 1) (word_break file base)
unfolding word_break
word_more file base i o e =
    rw e
    (tally_more (word_break file base) (count i (word_break file base)) i _ refl
    (both (falls_at file (base + 2 * i)) (i % 3 == 0)))
  where
    both : (a b : Bool) → flag b * flag a ≡ flag (a && b)
    both true true = refl
    both true false = refl
    both false true = refl
    both false false = refl

module _ (file : List ℕ) (base : ℕ) where
  pub words_none : 0 ≡ words_broken file base 0
  unfolding words_broken
  words_none = simp (← count_none)

  words_most : (i : ℕ) → words_broken file base i ≤ 5 * i
  unfolding words_broken
  words_most i = omega (
    arith,
    count_few (word_break file base) i,
    count_few (word_break file (base + part_size)) i,
    count_few (word_break file (base + 2 * part_size)) i,
    count_few (word_break file (base + 3 * part_size)) i,
    count_few (word_break file (base + 4 * part_size)) i,
  )

  module _ (n i t r : ℕ) (h : n ≡ words_broken file base i) (m : t ≡ tick_mark i)
      (e : r ≡ falls_apart file (base + 2 * i)) where
    pub words_more : n + t * r ≡ words_broken file base (i + 1)
    unfolding words_broken
    words_more =
        rw (m, e) (omega (
          arith,
          h,
          word_more file base i (base + 2 * i) refl,
          word_more file (base + part_size) i (base + 2 * i + part_size) (omega arith),
          word_more file (base + 2 * part_size) i (base + 2 * i + 2 * part_size) (omega arith),
          word_more file (base + 3 * part_size) i (base + 2 * i + 3 * part_size) (omega arith),
          word_more file (base + 4 * part_size) i (base + 2 * i + 4 * part_size) (omega arith),
        ))

    pub words_few : n + t * r ≤ 5 * (i + 1)
    words_few = omega (arith, words_more, words_most (i + 1))

  -- at the end they are the breaks of all those points
  pub words_end : (n i : ℕ) → n ≡ words_broken file base i → i ≤ part_words → part_words ≤ i
      → n ≡ count word_points (break_at file base)
  unfolding words_broken
  words_end n i e l m =
      let z : i ≡ part_words = omega arith in
      let two = both_all file base 16 16 _ _ (thirds file base 16) (thirds file (base + part_size) 16) in
      let three = both_all file base 32 16 _ _ two (thirds file (base + 2 * part_size) 16) in
      let four = both_all file base 48 16 _ _ three (thirds file (base + 3 * part_size) 16) in
      rw z at e ∙ both_all file base 64 16 _ _ four (thirds file (base + 4 * part_size) 16)

-- for `search words` at the needs of that loop
pub ruleset words = (words_none, words_more, words_end)
