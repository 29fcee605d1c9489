-- The lines of an input. A line ends at a line feed or at the end of the input; a last line feed begins no
-- further line.
use mathlib.Core.{Path.◌≡◌, Path.refl, Path.sym, Path.◌∙◌, Logic.◌≢◌}
use Rattle.std.specs.Prelude.{Bool, true, false, cond, ◌==◌, ◌||◌, List, [], ◌∷◌, ◌++◌, length, get_or, take, drop}
use Rattle.std.specs.Prelude.{ℕ, zero, suc, ◌+◌, ◌-◌, ◌≤◌, ◌<◌}
use Rattle.std.proofs.Common.{append-nil, append_assoc, length-drop, length-take, length-append}
use Rattle.std.proofs.Common.{drop_of_length-le, eq-eqb, ne_eqb, eqb-true, get_or-take, get_or-drop}
use native.Mathlib.{Decide.dec_lt, Omega.arith}
use lib.{Seq.drop-drop, Dec.eqb}
use Rattle.std.proofs.lemmas.Bool.{eqb-false, or_parts}
use Rattle.memchr.specs.Find.{Nowhere, NoneBefore, Passes, is_byte}

abbrev pub is_empty : List ℕ → Bool
is_empty [] = true
is_empty (b ∷ w) = false

-- the lines of an input that goes on after the bytes w of a line
unfoldable pub lines_from : List ℕ → List ℕ → List (List ℕ)
lines_from w [] = cond (is_empty w) [] (w ∷ [])
lines_from w (b ∷ bs) = cond (eqb b 10) (w ∷ lines_from [] bs) (lines_from (w ++ (b ∷ [])) bs)

abbrev pub lines_of : List ℕ → List (List ℕ)
lines_of input = lines_from [] input

-- A TEXT READ LINE BY LINE: no line feed from byte `at` up to byte `end`; and the line that starts at `at`
-- ends at `end`
abbrev pub Unended : List ℕ → ℕ → ℕ → Type 0
Unended text at end = (k : ℕ) → at ≤ k → k < end → get_or text k 0 ≢ 10

pub record LineTo (text : List ℕ) (at end : ℕ) : Type 0 where
  pub after : at ≤ end
  pub within : end ≤ length text
  pub inside : Unended text at end
  pub feed : end < length text → get_or text end 0 ≡ 10

-- two stretches without a line feed, one behind the other
pub unended_join : (text : List ℕ) (at mid end : ℕ) → Unended text at mid → Unended text mid end
    → Unended text at end
unended_join text at mid end f g k l m = elim (dec_lt k mid) [
  | yes j ↦ f k l j
  | no j ↦ g k (omega arith) m
]

-- and a line whose end is found behind such a stretch
pub line_behind : (text : List ℕ) (at mid end : ℕ) → Unended text at mid → at ≤ mid → LineTo text mid end
    → LineTo text at end
line_behind text at mid end f l h = record {
  after = omega (arith, h.after);
  within = h.within;
  inside = unended_join text at mid end f h.inside;
  feed = h.feed;
}

-- FOR THE LOOP that looks for a line's end
module _ (text : List ℕ) (at i : ℕ) (h : Unended text at i) where
  pub unended_more : get_or text i 0 ≢ 10 → Unended text at (i + 1)
  unended_more n k l m e = elim (dec_lt k i) [
    | yes j ↦ h k l j e
    | no j ↦ let z : k ≡ i = omega arith in n (rw z at e)
  ]

  pub ended_at : at ≤ i → i < length text → get_or text i 0 ≡ 10 → LineTo text at i
  ended_at l m e = record { after = l; within = omega arith; inside = h; feed = λ _. e }

  pub ended_last : at ≤ i → i ≤ length text → length text ≤ i → LineTo text at (length text)
  ended_last l m n =
      let z : i ≡ length text = omega arith in
      record {
        after = omega arith;
        within = omega arith;
        inside = λ k p q. h k p (omega arith);
        feed = λ p. absurd (omega arith);
      }

-- FOR THE LOOP that looks at bytes together: the first k have no line feed, unless one was found
module _ (text : List ℕ) (at : ℕ) (found : Bool) (k : ℕ) (h : found ≡ false → Unended text at (at + k)) where
  pub unfound_more : (found || eqb (get_or text (at + k) 0) 10) ≡ false → Unended text at (at + (k + 1))
  unfound_more e =
      let (f, g) = or_parts found (eqb (get_or text (at + k) 0) 10) e in
      let z : at + k + 1 ≡ at + (k + 1) = omega arith in
      rw z at (unended_more text at (at + k) (h f) (eqb-false (get_or text (at + k) 0) 10 g))

  pub unfound_all : (all : ℕ) → k ≤ all → all ≤ k → found ≡ false → Unended text at (at + all)
  unfound_all all l m e = let z : k ≡ all = omega arith in rw z at (h e)

-- FOR THE CODE: the rest of a text from byte `at` on, in which there is no line feed, or one at byte `feed`
abbrev pub rest_from : List ℕ → ℕ → List ℕ
rest_from text at = take (length text - at) (drop at text)

rest_byte : (text : List ℕ) (at k : ℕ) → at ≤ k → k < length text
    → get_or (rest_from text at) (k - at) 0 ≡ get_or text k 0
rest_byte text at k l m =
    let z : at + (k - at) ≡ k = omega arith in
    get_or-take (length text - at) (drop at text) (k - at) 0 (omega arith)
    ∙ (get_or-drop at text (k - at) 0 ∙ rw z)

rest_long : (text : List ℕ) (at : ℕ) → length (rest_from text at) ≡ length text - at
rest_long text at = omega (arith, length-take (length text - at) (drop at text), length-drop at text)

module _ (text : List ℕ) (at : ℕ) (near : at ≤ length text) where
  unended_till : (n : ℕ) → at + n ≤ length text
      → ((k : ℕ) → 0 ≤ k → k < n → ¬ (get_or (rest_from text at) k 0 == 10) ≡ true)
      → Unended text at (at + n)
  unended_till n l f k m o e =
      f (k - at) (omega arith) (omega arith) (rw (rest_byte text at k m (omega arith), e))

  pub feed_missed : Nowhere (Passes (is_byte 10) (rest_from text at)) 0 (length (rest_from text at))
      → LineTo text at (length text)
  feed_missed f =
      let z : at + (length text - at) ≡ length text = omega arith in
      record {
        after = near;
        within = omega arith;
        inside = rw z at (unended_till (length text - at) (omega arith)
            (λ k l m. f k l (omega (arith, rest_long text at))));
        feed = λ l. absurd (omega arith);
      }

  pub feed_met : (feed : ℕ)
      → NoneBefore (Passes (is_byte 10) (rest_from text at)) 0 (length (rest_from text at)) feed
      × Passes (is_byte 10) (rest_from text at) feed → LineTo text at (at + feed)
  feed_met feed (b, e) =
      let l : at + feed < length text = omega (arith, b.high, rest_long text at) in
      let z : at + feed - at ≡ feed = omega arith in
      record {
        after = omega arith;
        within = omega arith;
        inside = unended_till feed (omega arith) b.before;
        feed = λ _. sym (rw z at (rest_byte text at (at + feed) (omega arith) l)) ∙ eqb-true _ 10 e;
      }

-- a byte that is no line feed
pub unended_byte : (text : List ℕ) (at : ℕ) → get_or text at 0 ≢ 10 → Unended text at (at + 1)
unended_byte text at = unended_more text at at (λ k l m. absurd (omega arith))

-- the lines of bytes that start with one
at_feed : (w : List ℕ) (b : ℕ) (bs : List ℕ) → b ≡ 10 → lines_from w (b ∷ bs) ≡ w ∷ lines_of bs
unfolding lines_from
at_feed w b bs e = rw (eq-eqb b 10 e)

at_byte : (w : List ℕ) (b : ℕ) (bs : List ℕ) → b ≢ 10 → lines_from w (b ∷ bs) ≡ lines_from (w ++ (b ∷ [])) bs
unfolding lines_from
at_byte w b bs n = rw (ne_eqb b 10 n)

at_end : (c : ℕ) (w : List ℕ) → lines_from (c ∷ w) [] ≡ (c ∷ w) ∷ []
unfolding lines_from
at_end c w = refl

pub no_lines : lines_of [] ≡ []
unfolding lines_from
no_lines = refl

first_line : (n : ℕ) (w bs : List ℕ) → n ≤ length bs → ((k : ℕ) → k < n → get_or bs k 0 ≢ 10)
    → (n < length bs → get_or bs n 0 ≡ 10) → 0 < length w + length bs
    → lines_from w bs ≡ (w ++ take n bs) ∷ lines_of (drop (n + 1) bs)
first_line zero [] [] l h f s = absurd (omega arith)
first_line zero (c ∷ w) [] l h f s = at_end c w ∙ rw (append-nil w, no_lines)
first_line zero w (b ∷ bs) l h f s = at_feed w b bs (f (omega arith)) ∙ rw (append-nil w)
first_line (suc n) w [] l h f s = absurd (omega arith)
first_line (suc n) w (b ∷ bs) l h f s =
    let z : suc n + 1 ≡ suc (n + 1) = omega arith in
    at_byte w b bs (h 0 (omega arith))
    ∙ (first_line n (w ++ (b ∷ [])) bs (omega arith) (λ k m. h (suc k) (omega arith)) (λ m. f (omega arith))
    (omega (arith, length-append w (b ∷ [])))
    ∙ rw (z, append_assoc w (b ∷ []) (take n bs)))

-- an entry behind others
get_or_behind : (at : ℕ) (l : List ℕ) (k : ℕ) → get_or (drop at l) k 0 ≡ get_or l (at + k) 0
get_or_behind zero l k = let z : 0 + k ≡ k = omega arith in rw z
get_or_behind (suc at) [] k = refl
get_or_behind (suc at) (b ∷ l) k =
    let z : suc at + k ≡ suc (at + k) = omega arith in
    rw z (get_or_behind at l k)

-- FOR A LOOP over the lines of a text
module _ (text : List ℕ) (at end : ℕ) (h : LineTo text at end) (some : at < length text) where
  pub next_line_lem : lines_of (drop at text)
      ≡ take (end - at) (drop at text) ∷ lines_of (drop (end + 1) text)
  next_line_lem =
      let z : at + (end - at + 1) ≡ end + 1 = omega (arith, h.after) in
      first_line (end - at) [] (drop at text) (omega (arith, length-drop at text, h.within))
      (λ k m e. h.inside (at + k) (omega arith) (omega arith) (sym (get_or_behind at text k) ∙ e))
      (λ m.
      let y : at + (end - at) ≡ end = omega (arith, h.after) in
      get_or_behind at text (end - at) ∙ rw y (h.feed (omega (arith, length-drop at text))))
      (omega (arith, length-drop at text))
      ∙ rw (drop-drop (end - at + 1) at text, z)

pub last_line : (text : List ℕ) (at : ℕ) → length text ≤ at → lines_of (drop at text) ≡ []
last_line text at l = rw (drop_of_length-le text l) no_lines
