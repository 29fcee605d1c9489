-- The line that starts at a place of a text, by its shape and its end; and that a line is found to be a
-- remark by its first byte, and an arc by three numbers as they come.
use mathlib.Core.{Path.◌≡◌, Path.sym, Path.◌∙◌, Logic.◌≢◌, Bool.Bool, Bool.true, Bool.false}
use Rattle.std.specs.Prelude.{List, [], ◌∷◌, ◌++◌, ℕ, ◌+◌, ◌-◌, ◌≤◌, ◌<◌}
use native.Mathlib.{Decide.dec_lt, Omega.arith}
use lib.{ListN.length, ListN.get_or, Dec.eqb}
use Rattle.std.proofs.Common.{eqb-true}
use Rattle.text_lines.specs.Lines.{Unended, LineTo, unended_join, unended_byte}
use Rattle.text_numbers.specs.Spaced.{Spaced, one, more}
use Rattle.text_numbers.specs.Digits.{part, DigitsAt, part_split, part_first, digits_numeral, digits_unended}
use Rattle.dimacs_line.specs.declared.line.Arc.{Arc}
use Rattle.dimacs_line.specs.declared.line.Shape.TheVariants.{Remark}
use Rattle.dimacs_line.specs.declared.line.Shape.TheVariants.{Arc as ArcLine}
use Rattle.dimacs_line.specs.declared.next.Line.{Line}
use Rattle.dimacs_line.specs.{Shape.shape_of, ShapeExact.remark_exactly, ShapeExact.arc_exactly}

pub record NextLine (text : List ℕ) (at : ℕ) (l : Line) : Type 0 where
  pub to : LineTo text at l.end
  pub is : l.shape ≡ shape_of (part text at l.end)

-- `a `, with room for three numbers of nine digits; and bytes with this one behind them
pub record ArcStart (text : List ℕ) (at : ℕ) : Type 0 where
  pub room : at + 32 ≤ length text
  pub letter : get_or text at 0 ≡ 97
  pub space : get_or text (at + 1) 0 ≡ 32

pub record EndedBy (text : List ℕ) (from end byte : ℕ) : Type 0 where
  pub some : from < end
  pub behind : get_or text end 0 ≡ byte

-- A REMARK is not empty, so it is its first byte and others
module _ (text : List ℕ) (at end : ℕ) (some : at < length text) (letter : get_or text at 0 ≡ 99)
    (to : LineTo text at end) where
  not_empty : at < end
  not_empty = elim (dec_lt at end) [
    | yes l ↦ l
    | no l ↦
        let e : end ≡ at = omega (arith, to.after) in
        absurd (omega (arith, rw e at (to.feed (omega arith))))
  ]

  pub remark_next : NextLine text at (record { shape = Remark; end = end })
  remark_next = record {
    to = to;
    is = sym ((remark_exactly (part text at end)).1
        (record { rest = part text (at + 1) end; is = part_first text at end not_empty some ∙ rw letter }));
  }

-- AN ARC: three numbers, each ended by its byte
module _ (text : List ℕ) (from mid end : ℕ) (value byte : ℕ) (digits : DigitsAt text from mid value)
    (ended : EndedBy text from mid byte) where
  -- one number, the byte that ends it, and what follows
  word : mid < end → end ≤ length text
      → part text from end ≡ part text from mid ++ (byte ∷ part text (mid + 1) end)
  word l m =
      part_split text from mid end (omega (arith, digits.after)) (omega arith)
      ∙ rw (part_first text mid end l (omega arith), ended.behind)

  past : byte ≢ 10 → Unended text from (mid + 1)
  past n =
      unended_join text from mid (mid + 1) (digits_unended text from mid value digits)
      (unended_byte text mid (λ e. n (sym ended.behind ∙ e)))

module _ (text : List ℕ) (at tail tailEnd head head_end weight end : ℕ) (start : ArcStart text at)
    (tails : DigitsAt text (at + 2) tailEnd tail) (tailEnded : EndedBy text (at + 2) tailEnd 32)
    (heads : DigitsAt text (tailEnd + 1) head_end head) (headEnded : EndedBy text (tailEnd + 1) head_end 32)
    (weights : DigitsAt text (head_end + 1) end weight)
    (weightEnded : EndedBy text (head_end + 1) end 10) where
  within : end < length text
  within = omega (arith, start.room, tails.few, heads.few, weights.few)

  numbers : Spaced 9 (part text (at + 2) end) (tail ∷ head ∷ weight ∷ [])
  numbers =
      let l : end ≤ length text = omega (arith, within) in
      rw (
        word text (at + 2) tailEnd end tail 32 tails tailEnded
            (omega (arith, heads.after, weights.after)) l,
        word text (tailEnd + 1) head_end end head 32 heads headEnded (omega (arith, weights.after)) l,
      )
      (more _ tail _ _
      (digits_numeral text (at + 2) tailEnd tail tails tailEnded.some
      (omega (arith, heads.after, weights.after)))
      (more _ head _ _
      (digits_numeral text (tailEnd + 1) head_end head heads headEnded.some (omega (arith, weights.after)))
      (one _ weight (digits_numeral text (head_end + 1) end weight weights weightEnded.some l))))

  letters : part text at end ≡ 97 ∷ 32 ∷ part text (at + 2) end
  letters =
      let z : at + 1 + 1 ≡ at + 2 = omega arith in
      let l : at + 2 < end = omega (arith, tailEnded.some, heads.after, weights.after) in
      part_first text at end (omega arith) (omega (arith, start.room))
      ∙ rw (
        part_first text (at + 1) end (omega arith) (omega (arith, start.room)),
        z,
        start.letter,
        start.space,
      )

  inside : Unended text at end
  inside =
      let z : at + 1 + 1 ≡ at + 2 = omega arith in
      let a : Unended text at (at + 1) = unended_byte text at (λ e. omega (arith, start.letter)) in
      let s : Unended text (at + 1) (at + 2) =
      rw z at (unended_byte text (at + 1) (λ e. omega (arith, start.space))) in
      unended_join text at (at + 1) end a
      (unended_join text (at + 1) (at + 2) end s
      (unended_join text (at + 2) (tailEnd + 1) end
      (past text (at + 2) tailEnd end tail 32 tails tailEnded (λ e. omega arith))
      (unended_join text (tailEnd + 1) (head_end + 1) end
      (past text (tailEnd + 1) head_end end head 32 heads headEnded (λ e. omega arith))
      (digits_unended text (head_end + 1) end weight weights))))

  abbrev arc : Arc
  arc = record { tail = tail; head = head; weight = weight }

  pub arc_next : NextLine text at
      (record { shape = ArcLine (record { tail = tail; head = head; weight = weight }); end = end })
  arc_next = record {
    to = record {
      after = omega (arith, tailEnded.some, heads.after, weights.after);
      within = omega (arith, within);
      inside = inside;
      feed = λ _. weightEnded.behind;
    };
    is = sym ((arc_exactly (part text at end) arc).1
        (record { rest = part text (at + 2) end; is = letters; numbers = numbers }));
  }

-- FOR A TEST that answers a bool: what holds if the answer is yes
pub false_true : {P : Type 0} → ◌≡◌ {A = Bool} false true → P
false_true e = let z : ◌≡◌ {A = ℕ} 0 1 = cc in absurd (omega arith)

pub ended_so : (text : List ℕ) (from end byte : ℕ) → from < end → eqb (get_or text end 0) byte ≡ true
    → EndedBy text from end byte
ended_so text from end byte l e = record { some = l; behind = eqb-true (get_or text end 0) byte e }

pub starts_so : (text : List ℕ) (at : ℕ) → 32 ≤ length text - at → get_or text at 0 ≡ 97
    → eqb (get_or text (at + 1) 0) 32 ≡ true → ArcStart text at
starts_so text at l e f =
    record { room = omega arith; letter = e; space = eqb-true (get_or text (at + 1) 0) 32 f }
