-- The scan says that a line is numbers one space apart exactly where it is: what it has read of a line that
-- is not ruled out are such numbers (`scanned_spaced`), and up to three of them are read (`spaced-scanned`).
use mathlib.Core.{Path.◌≡◌, Path.refl, Path.sym, Path.◌∙◌, Path.subst, Path.subst⁻¹, Logic.◌≢◌}
use Rattle.std.specs.Prelude.{Option, Some, None, true, cond, ℕ, ◌+◌, ◌-◌, ◌*◌, ◌≤◌, ◌<◌, min}
use Rattle.std.proofs.Math.Bool.{and-eq-true_iff}
use mathlib.Core.List.{List, [], ◌∷◌, ◌++◌, append-nil, append_assoc}
use native.Mathlib.{Nat.le_refl, Nat.le_trans, Decide.ℕ_discrete, Decide.dec_lt, Omega.arith}
use lib.{ListN.length, ListN.length-append, Dec.eqb, Dec.leb, Dec.ltb}
use borrow.Author.Tests.{lt-ltb, le-ltb, leb-true, le-leb, eq-eqb, ne_eqb, ltb-true, eqb-true}
use Rattle.text_spaced.specs.declared.spaced.Scan.{Scan}
use Rattle.text_numbers.specs.Number.{is_digit, are_digits, value_from, value_of, digits_append}
use Rattle.text_numbers.specs.Number.{value_append}
use Rattle.text_spaced.specs.Fold.{folded, folded_append}
use Rattle.text_numbers.specs.Spaced.{limit, counted, Numeral, Spaced, one, more}
use Rattle.text_spaced.specs.Scanning.{reading, fresh, ruled_out, one_more, space_scanned}
use Rattle.text_spaced.specs.Scanning.{digit_scanned, scanned, scanned_all, whole}

-- a digit, by its code
is_digit_lem : (b : ℕ) → 48 ≤ b → b ≤ 57 → is_digit b ≡ true
is_digit_lem b l m = rw (le-leb 48 b l, le-leb b 57 m)

digit_is : (b : ℕ) → is_digit b ≡ true → (48 ≤ b) × (b ≤ 57)
digit_is b e = let (l, m) = (and-eq-true_iff (leb 48 b) (leb b 57)).0 e in (leb-true 48 b l, leb-true b 57 m)

one_more_counted : (n : ℕ) → one_more (min n 10) ≡ min (n + 1) 10
one_more_counted n = omega arith

zero_one : ◌≡◌ {A = ℕ} 0 1 → ⊥
zero_one z = omega arith

-- the state that is not ruled out, and the one after a digit
abbrev state : ℕ → ℕ → ℕ → ℕ → ℕ → Scan
state fields digits value first second =
    record { fields = fields; digits = digits; value = value; first = first; second = second }

abbrev after_digit : Scan → ℕ → Scan
after_digit s b = state s.fields (one_more s.digits) (10 * s.value + (b - 48)) s.first s.second

same : (s t : Scan) → Some s ≡ Some t → s ≡ t
same s t e = cc

none_some : {P : Type 0} {s : Scan} → None ≡ Some s → P
none_some e = absurd (zero_one (cc))

-- ONE BYTE of a state that is not ruled out
module _ (most : ℕ) (s : Scan) (b : ℕ) where
  at_digit : 48 ≤ b → b ≤ 57 → one_more s.digits ≤ most → 10 * s.value + (b - 48) ≤ limit
      → scanned most (Some s) b
      ≡ reading s.fields (one_more s.digits) (10 * s.value + (b - 48)) s.first s.second
  unfolding scanned digit_scanned
  at_digit p q m l = rw (
    ne_eqb b 32 (omega arith),
    le-ltb b 48 p,
    le-ltb 57 b q,
    le-ltb most (one_more s.digits) m,
    le-ltb limit (10 * s.value + (b - 48)) l,
  )

  at_low : b ≢ 32 → b < 48 → scanned most (Some s) b ≡ ruled_out
  unfolding scanned digit_scanned
  at_low n l = rw (ne_eqb b 32 n, lt-ltb b 48 l)

  at_high : 57 < b → scanned most (Some s) b ≡ ruled_out
  unfolding scanned digit_scanned
  at_high l = rw (ne_eqb b 32 (omega arith), le-ltb b 48 (omega arith), lt-ltb 57 b l)

  at_many : 48 ≤ b → b ≤ 57 → most < one_more s.digits → scanned most (Some s) b ≡ ruled_out
  unfolding scanned digit_scanned
  at_many p q m = rw (
    ne_eqb b 32 (omega arith),
    le-ltb b 48 p,
    le-ltb 57 b q,
    lt-ltb most (one_more s.digits) m,
  )

  at_large : 48 ≤ b → b ≤ 57 → one_more s.digits ≤ most → limit < 10 * s.value + (b - 48)
      → scanned most (Some s) b ≡ ruled_out
  unfolding scanned digit_scanned
  at_large p q m l = rw (
    ne_eqb b 32 (omega arith),
    le-ltb b 48 p,
    le-ltb 57 b q,
    le-ltb most (one_more s.digits) m,
    lt-ltb limit (10 * s.value + (b - 48)) l,
  )

  at_space : b ≡ 32 → scanned most (Some s) b ≡ space_scanned s
  unfolding scanned
  at_space e = rw (e)

-- WHAT HAS BEEN READ: the numbers that a space has ended, and the digits of the next
done : Scan → List ℕ
done s = cond (eqb s.fields 0) [] (cond (eqb s.fields 1) (s.first ∷ []) (s.first ∷ s.second ∷ []))

-- the numbers of a line that has ended
pub values_of : Scan → List ℕ
values_of s = done s ++ (s.value ∷ [])

-- numbers with a space behind each
data Ended (most : ℕ) : List ℕ → List ℕ → Type 0 where
  none : Ended most [] []
  and : (line values w : List ℕ) (v : ℕ) → Ended most line values → Numeral most w v
      → Ended most (line ++ (w ++ (32 ∷ []))) (values ++ (v ∷ []))

ended_then : (most : ℕ) (line values rest others : List ℕ) → Ended most line values → Spaced most rest others
    → Spaced most (line ++ rest) (values ++ others)
ended_then most _ _ rest others none s = s
ended_then most _ _ rest others (and line values w v e n) s =
    rw (
      append_assoc line (w ++ (32 ∷ [])) rest,
      append_assoc w (32 ∷ []) rest,
      append_assoc values (v ∷ []) others,
    )
    (ended_then most line values (w ++ (32 ∷ rest)) (v ∷ others) e (more w v rest others n s))

record Read (most : ℕ) (w : List ℕ) (s : Scan) : Type 0 where
  ended : List ℕ
  word : List ℕ
  parts : w ≡ ended ++ word
  before : Ended most ended (done s)
  digits : are_digits word ≡ true
  value : value_of word ≡ s.value
  small : s.value ≤ limit
  count : s.digits ≡ counted word
  few : s.digits ≤ most

-- a number that has a digit is one
numeral : (most : ℕ) (w : List ℕ) (s : Scan) (r : Read most w s) → 0 < s.digits
    → Numeral most r.word s.value
numeral most w s r l = record {
  number = record { some = omega (arith, r.count); digits = r.digits; value = r.value };
  few = omega (arith, r.count, r.few);
  small = r.small;
}

-- ONE BYTE MORE of a line that is not ruled out
module _ (most : ℕ) (w : List ℕ) (s : Scan) (r : Read most w s) (b : ℕ) where
  digit_more : 48 ≤ b → b ≤ 57 → one_more s.digits ≤ most → 10 * s.value + (b - 48) ≤ limit
      → Read most (w ++ (b ∷ [])) (after_digit s b)
  unfolding done
  digit_more p q m l = record {
    ended = r.ended;
    word = r.word ++ (b ∷ []);
    parts = rw r.parts (append_assoc r.ended r.word (b ∷ []));
    before = r.before;
    digits = digits_append r.word b r.digits (is_digit_lem b p q);
    value = value_append 0 r.word b ∙ rw r.value;
    small = l;
    count = rw (length-append, r.count) (one_more_counted (length r.word));
    few = m;
  }

  -- a state with no digit yet, after a space
  spaced_read : (fields first second : ℕ) → 0 < s.digits → b ≡ 32
      → done (state fields 0 0 first second) ≡ done s ++ (s.value ∷ [])
      → Read most (w ++ (b ∷ [])) (state fields 0 0 first second)
  unfolding are_digits value_from
  spaced_read fields first second l e f = record {
    ended = r.ended ++ (r.word ++ (32 ∷ []));
    word = [];
    parts =
        rw (e, r.parts, append-nil (r.ended ++ (r.word ++ (32 ∷ []))))
        (append_assoc r.ended r.word (32 ∷ []));
    before = rw f (and r.ended (done s) r.word s.value r.before (numeral most w s r l));
    digits = refl;
    value = refl;
    small = omega arith;
    count = refl;
    few = omega arith;
  }

  module _ (t : Scan) (g : scanned most (Some s) b ≡ Some t) where
    -- the state after the byte is one that was read so far, and none where the byte rules numbers out
    to : (u : Scan) → scanned most (Some s) b ≡ Some u → Read most (w ++ (b ∷ [])) u
        → Read most (w ++ (b ∷ [])) t
    to u e h = subst (Read most (w ++ (b ∷ []))) (same u t (sym e ∙ g)) h

    out : {P : Type 0} → scanned most (Some s) b ≡ ruled_out → P
    out e = none_some (sym e ∙ g)

    space_more : b ≡ 32 → Read most (w ++ (b ∷ [])) t
    unfolding space_scanned done
    space_more e = elim (ℕ_discrete s.digits 0) [
      | yes z ↦ out (at_space most s b e ∙ rw (space_scanned, eq-eqb s.digits 0 z))
      | no z ↦ elim (ℕ_discrete s.fields 0) [
        | yes y ↦
            to (state 1 0 0 s.value 0)
            (at_space most s b e ∙ rw (space_scanned, ne_eqb s.digits 0 z, eq-eqb s.fields 0 y))
            (spaced_read 1 s.value 0 (omega arith) e (rw (done, y)))
        | no y ↦ elim (ℕ_discrete s.fields 1) [
          | yes x ↦
              to (state 2 0 0 s.first s.value)
              (at_space most s b e
              ∙ rw (space_scanned, ne_eqb s.digits 0 z, ne_eqb s.fields 0 y, eq-eqb s.fields 1 x))
              (spaced_read 2 s.first s.value (omega arith) e (rw (done, x)))
          | no x ↦ out (at_space most s b e
              ∙ rw (space_scanned, ne_eqb s.digits 0 z, ne_eqb s.fields 0 y, ne_eqb s.fields 1 x))
        ]
      ]
    ]

    read_more : Read most (w ++ (b ∷ [])) t
    read_more = elim (ℕ_discrete b 32) [
      | yes e ↦ space_more e
      | no n ↦ elim (dec_lt b 48) [
        | yes l ↦ out (at_low most s b n l)
        | no l ↦ elim (dec_lt 57 b) [
          | yes k ↦ out (at_high most s b k)
          | no k ↦ elim (dec_lt most (one_more s.digits)) [
            | yes m ↦ out (at_many most s b (omega arith) (omega arith) m)
            | no m ↦ elim (dec_lt limit (10 * s.value + (b - 48))) [
              | yes j ↦ out (at_large most s b (omega arith) (omega arith) (omega arith) j)
              | no j ↦
                  to (after_digit s b)
                  (at_digit most s b (omega arith) (omega arith) (omega arith) (omega arith))
                  (digit_more (omega arith) (omega arith) (omega arith) (omega arith))
            ]
          ]
        ]
      ]
    ]

-- WHOLE LINES: what has been ruled out stays so, and what has been read stays read
none_stays : (most : ℕ) (w : List ℕ) → scanned_all most None w ≡ None
unfolding folded scanned
none_stays most [] = refl
none_stays most (b ∷ w) = none_stays most w

reads : (most : ℕ) (w : List ℕ) (s t : Scan) (bs : List ℕ) → Read most w s
    → scanned_all most (Some s) bs ≡ Some t → Read most (w ++ bs) t
unfolding folded
reads most w s t [] r g = rw (append-nil w) (subst (Read most w) (same s t g) r)
reads most w s t (b ∷ bs) r g =
    go (scanned most (Some s) b) refl
    (λ u e. reads most (w ++ (b ∷ [])) u t bs (read_more most w s r b u e))
  where
    go : (o : Option Scan) → scanned most (Some s) b ≡ o
        → ((u : Scan) → scanned most (Some s) b ≡ Some u → scanned_all most (Some u) bs ≡ Some t
        → Read most ((w ++ (b ∷ [])) ++ bs) t)
        → Read most (w ++ (b ∷ bs)) t
    go None e f = none_some (sym (none_stays most bs) ∙ (rw e at g))
    go (Some u) e f = rw (append_assoc w (b ∷ []) bs) at (f u e (rw e at g))

fresh_read : (most : ℕ) → Read most [] (state 0 0 0 0 0)
unfolding are_digits value_from done
fresh_read most = record {
  ended = [];
  word = [];
  parts = refl;
  before = none;
  digits = refl;
  value = refl;
  small = omega arith;
  count = refl;
  few = omega arith;
}

-- what a whole line says of its state
whole_is : (s : Scan) (count : ℕ) → whole s count ≡ true → (s.fields + 1 ≡ count) × (0 < s.digits)
unfolding whole
whole_is s count e =
    let (f, l) = (and-eq-true_iff (eqb (s.fields + 1) count) (ltb 0 s.digits)).0 e in
    (eqb-true (s.fields + 1) count f, ltb-true 0 s.digits l)

-- the numbers of a line of two, and of three
pub two_values : (s : Scan) → whole s 2 ≡ true → values_of s ≡ s.first ∷ s.value ∷ []
unfolding values_of done
two_values s e =
    let (f, l) = whole_is s 2 e in
    let g : s.fields ≡ 1 = omega arith in
    rw g

pub three_values : (s : Scan) → whole s 3 ≡ true → values_of s ≡ s.first ∷ s.second ∷ s.value ∷ []
unfolding values_of done
three_values s e =
    let (f, l) = whole_is s 3 e in
    let g : s.fields ≡ 2 = omega arith in
    rw g

-- AND BACK: a line that is taken for numbers is such numbers
pub scanned_spaced : (most count : ℕ) (line : List ℕ) (s : Scan) → scanned_all most fresh line ≡ Some s
    → whole s count ≡ true → Spaced most line (values_of s)
unfolding values_of
scanned_spaced most count line s g e =
    let (f, l) = whole_is s count e in
    let r = reads most [] (state 0 0 0 0 0) s line (fresh_read most) g in
    subst⁻¹ (λ (w : List ℕ). Spaced most w (done s ++ (s.value ∷ []))) r.parts
    (ended_then most r.ended (done s) r.word (s.value ∷ []) r.before
    (one r.word s.value (numeral most line s r l)))

-- THERE: numbers one space apart are read
value_grows : (w : List ℕ) (v : ℕ) → v ≤ value_from v w
unfolding value_from
value_grows [] v = le_refl v
value_grows (b ∷ w) v = omega (arith, value_grows w (10 * v + (b - 48)))

digits_read : (most : ℕ) (w : List ℕ) (n fields value first second : ℕ) → are_digits w ≡ true
    → min (n + length w) 10 ≤ most → value_from value w ≤ limit
    → scanned_all most (reading fields (min n 10) value first second) w
    ≡ reading fields (min (n + length w) 10) (value_from value w) first second
unfolding folded are_digits value_from
digits_read most [] n fields value first second d m l = let z : n + 0 ≡ n = omega arith in rw z
digits_read most (b ∷ w) n fields value first second d m l =
    let (x, y) = (and-eq-true_iff (is_digit b) (are_digits w)).0 d in
    let (p, q) = digit_is b x in
    let next = 10 * value + (b - 48) in
    let z : n + length (b ∷ w) ≡ n + 1 + length w = omega arith in
    rw (
      z,
      at_digit most (state fields (min n 10) value first second) b p q (omega arith)
          (le_trans (value_grows w next) l),
      one_more_counted n,
    )
    (digits_read most w (n + 1) fields next first second y (rw z at m) l)

number_read : (most : ℕ) (w : List ℕ) (v fields first second : ℕ) → Numeral most w v
    → scanned_all most (reading fields 0 0 first second) w ≡ reading fields (counted w) v first second
number_read most w v fields first second n =
    let z : 0 + length w ≡ length w = omega arith in
    digits_read most w 0 fields 0 first second n.number.digits (omega (arith, n.few))
    (omega (arith, n.number.value, n.small))
    ∙ rw (z, n.number.value)

-- a space after a number that has a digit
first_ended : (most d v first second : ℕ) → 0 < d
    → scanned most (reading 0 d v first second) 32 ≡ reading 1 0 0 v 0
unfolding scanned space_scanned
first_ended most d v first second l = rw (ne_eqb d 0 (omega arith))

second_ended : (most d v first second : ℕ) → 0 < d
    → scanned most (reading 1 d v first second) 32 ≡ reading 2 0 0 first v
unfolding scanned space_scanned
second_ended most d v first second l = rw (ne_eqb d 0 (omega arith))

counted_some : (most : ℕ) (w : List ℕ) (v : ℕ) → Numeral most w v → 0 < counted w
counted_some most w v n = omega (arith, n.number.some)

some_numbers : (most : ℕ) (line values : List ℕ) → Spaced most line values → 0 < length values
some_numbers most _ _ (one w v n) = omega arith
some_numbers most _ _ (more w v line values n s) = omega arith

-- one number, in a line that has some before it; two, and three
last_read : (most : ℕ) (line : List ℕ) (v fields first second : ℕ) → Spaced most line (v ∷ [])
    → (d : ℕ) × (0 < d) × (scanned_all most (reading fields 0 0 first second) line
    ≡ reading fields d v first second)
last_read most _ v fields first second (one w _ n) =
    (counted w, counted_some most w v n, number_read most w v fields first second n)
last_read most _ v fields first second (more w _ line _ n s) =
    absurd (omega (arith, some_numbers most line [] s))

-- the state after a first or second number and its space
word_read : (most : ℕ) (w line : List ℕ) (v fields first second : ℕ) (next : Option Scan) → Numeral most w v
    → scanned most (reading fields (counted w) v first second) 32 ≡ next
    → scanned_all most (reading fields 0 0 first second) (w ++ (32 ∷ line)) ≡ scanned_all most next line
unfolding folded
word_read most w line v fields first second next n e =
    folded_append (scanned most) (reading fields 0 0 first second) w (32 ∷ line)
    ∙ rw (number_read most w v fields first second n, e)

pub two_read : (most : ℕ) (line : List ℕ) (u v : ℕ) → Spaced most line (u ∷ v ∷ [])
    → (d : ℕ) × (0 < d) × (scanned_all most fresh line ≡ reading 1 d v u 0)
two_read most _ u v (more w _ line _ n s) =
    let (d, l, e) = last_read most line v 1 u 0 s in (
      d,
      l,
      word_read most w line u 0 0 0 (reading 1 0 0 u 0) n
          (first_ended most (counted w) u 0 0 (counted_some most w u n)) ∙ e,
    )

pub three_read : (most : ℕ) (line : List ℕ) (t u v : ℕ) → Spaced most line (t ∷ u ∷ v ∷ [])
    → (d : ℕ) × (0 < d) × (scanned_all most fresh line ≡ reading 2 d v t u)
three_read most _ t u v (more w _ _ _ n (more x _ line _ m s)) =
    let (d, l, e) = last_read most line v 2 t u s in (
      d,
      l,
      word_read most w (x ++ (32 ∷ line)) t 0 0 0 (reading 1 0 0 t 0) n
          (first_ended most (counted w) t 0 0 (counted_some most w t n))
          ∙ (word_read most x line u 1 t 0 (reading 2 0 0 t u) m
          (second_ended most (counted x) u t 0 (counted_some most x u m)) ∙ e),
    )
