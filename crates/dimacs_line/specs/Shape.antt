-- The lines of a DIMACS road file: `c` and anything is a remark, `p sp NODES ARCS` gives the sizes, and `a
-- TAIL HEAD WEIGHT` is an arc; numbers have one to nine digits, leading zeros counted, one space apart, and
-- nothing stands before or after. `shape_of` works out which of these a line is.
use mathlib.Core.{Path.◌≡◌, Path.refl, Path.sym, Path.◌∙◌, List.List, List.[], List.◌∷◌, List.◌++◌}
use Rattle.std.specs.Prelude.{Option, Some, None, Bool, true, false, cond, ◌&&◌, ℕ}
use Rattle.std.specs.Prelude.{MatchOption, nat_eq}
use Rattle.std.specs.Option.{option_map_or}
use Rattle.std.specs.Cmp.Lexicographic.{pointwise}
use Rattle.std.proofs.Math.Bool.{and-eq-true_iff}
use native.Mathlib.{Decide.ℕ_discrete, Omega.arith}
use lib.{ListN.length, ListN.take, ListN.drop, Dec.eqb}
use Rattle.std.proofs.Common.{eqb-true, ne_eqb}
use Rattle.text_spaced.specs.declared.spaced.Scan.{Scan}
use Rattle.text_numbers.specs.{Text.ascii, Spaced.Spaced}
use Rattle.text_spaced.specs.Scanning.{fresh, scanned_all, whole}
use Rattle.dimacs_line.specs.declared.line.{Sizes.Sizes, Arc.Arc, Shape.Shape}
use Rattle.dimacs_line.specs.declared.line.Shape.TheVariants.{Remark, Other}
use Rattle.dimacs_line.specs.declared.line.Shape.TheVariants.{Sizes as SizesLine, Arc as ArcLine}

-- what makes a line a remark, the sizes, an arc
pub record IsRemark (line : List ℕ) : Type 0 where
  pub rest : List ℕ
  pub is : line ≡ ascii "c" ++ rest

pub record IsSizes (line : List ℕ) (s : Sizes) : Type 0 where
  pub rest : List ℕ
  pub is : line ≡ ascii "p sp " ++ rest
  pub numbers : Spaced 9 rest (s.nodes ∷ s.arcs ∷ [])

pub record IsArc (line : List ℕ) (a : Arc) : Type 0 where
  pub rest : List ℕ
  pub is : line ≡ ascii "a " ++ rest
  pub numbers : Spaced 9 rest (a.tail ∷ a.head ∷ a.weight ∷ [])

-- does a line start with these bytes?
unfoldable pub starts_with : List ℕ → List ℕ → Bool
starts_with [] line = true
starts_with (b ∷ w) [] = false
starts_with (b ∷ w) (c ∷ line) = eqb c b && starts_with w line

-- the shape by the numbers that have been read
abbrev pub sizes_by : Scan → Sizes
sizes_by s = record { nodes = s.first; arcs = s.value }

abbrev pub arc_by : Scan → Arc
arc_by s = record { tail = s.first; head = s.second; weight = s.value }

unfoldable pub sizes_met : Option Scan → Option Sizes
sizes_met None = None
sizes_met (Some s) = cond (whole s 2) (Some (sizes_by s)) None

unfoldable pub arc_met : Option Scan → Option Arc
arc_met None = None
arc_met (Some s) = cond (whole s 3) (Some (arc_by s)) None

unfoldable pub sizes_shape : Option Scan → Shape
sizes_shape s = option_map_or SizesLine (sizes_met s) Other

unfoldable pub arc_shape : Option Scan → Shape
arc_shape s = option_map_or ArcLine (arc_met s) Other

-- the shape of a line
unfoldable pub shape_of : List ℕ → Shape
shape_of line =
    cond (starts_with (ascii "c") line) Remark
    (cond (starts_with (ascii "a ") line) (arc_shape (scanned_all 9 fresh (drop 2 line)))
    (cond (starts_with (ascii "p sp ") line) (sizes_shape (scanned_all 9 fresh (drop 5 line))) Other))

zero_one : ◌≡◌ {A = ℕ} 0 1 → ⊥
zero_one z = omega arith

-- a line that starts with a word is that word and the rest
pub starts_is : (word line : List ℕ) → starts_with word line ≡ true → line ≡ word ++ drop (length word) line
unfolding starts_with
starts_is [] line e = refl
starts_is (b ∷ w) [] e = absurd (zero_one (cc))
starts_is (b ∷ w) (c ∷ line) e =
    let (p, q) = (and-eq-true_iff (eqb c b) (starts_with w line)).0 e in
    rw (← starts_is w line q, eqb-true c b p)

-- FOR THE CODE: the library's tests of a prefix say the same
strip_same : (word line : List ℕ) → pointwise nat_eq (take (length word) line) word ≡ starts_with word line
unfolding starts_with
strip_same [] line = refl
strip_same (b ∷ w) [] = refl
strip_same (b ∷ w) (c ∷ line) = rw (strip_same w line)

eqb_turn : (b c : ℕ) → eqb b c ≡ eqb c b
eqb_turn b c = elim (ℕ_discrete b c) [
  | yes e ↦ rw e
  | no n ↦ rw (ne_eqb b c n, ne_eqb c b (λ e. n (sym e)))
]

start_same : (word line : List ℕ) → pointwise nat_eq word (take (length word) line) ≡ starts_with word line
unfolding starts_with
start_same [] line = refl
start_same (b ∷ w) [] = refl
start_same (b ∷ w) (c ∷ line) = rw (eqb_turn b c, start_same w line)

-- a shape made of what is met, and `Other` where nothing is
shape_made : {A : Type 0} (f : A → Shape) (o : Option A) (r : Shape)
    → MatchOption o (r ≡ Other) (λ x. r ≡ f x) → r ≡ option_map_or f o Other
shape_made f None r e = e
shape_made f (Some x) r e = e

module _ (line : List ℕ) (c : Bool) (letter : c ≡ pointwise nat_eq (ascii "c") (take 1 line)) where
  -- the shape of a line by the first test that holds
  remark : c ≡ starts_with (ascii "c") line
  remark = letter ∙ start_same (ascii "c") line

  pub remark_told : c ≡ true → Remark ≡ shape_of line
  unfolding shape_of
  remark_told e = rw (← remark, e)

  module _ (passed : c ≡ false) where
    pub arc_told : (rest : List ℕ) (o : Option Arc) (r : Shape)
        → pointwise nat_eq (take 2 line) (ascii "a ") ≡ true → rest ≡ drop 2 line
        → o ≡ arc_met (scanned_all 9 fresh rest) → MatchOption o (r ≡ Other) (λ x. r ≡ ArcLine x)
        → r ≡ shape_of line
    unfolding shape_of arc_shape
    arc_told rest o r a d m h =
        shape_made ArcLine o r h
        ∙ rw (← remark, passed, ← strip_same (ascii "a ") line, a, ← d, ← m)

    module _ (other : pointwise nat_eq (take 2 line) (ascii "a ") ≡ false) where
      pub sizes_told : (rest : List ℕ) (o : Option Sizes) (r : Shape)
          → pointwise nat_eq (take 5 line) (ascii "p sp ") ≡ true → rest ≡ drop 5 line
          → o ≡ sizes_met (scanned_all 9 fresh rest) → MatchOption o (r ≡ Other) (λ x. r ≡ SizesLine x)
          → r ≡ shape_of line
      unfolding shape_of sizes_shape
      sizes_told rest o r p d m h =
          shape_made SizesLine o r h
          ∙ rw (
            ← remark,
            passed,
            ← strip_same (ascii "a ") line,
            other,
            ← strip_same (ascii "p sp ") line,
            p,
            ← d,
            ← m,
          )

      pub other_told : pointwise nat_eq (take 5 line) (ascii "p sp ") ≡ false → Other ≡ shape_of line
      unfolding shape_of
      other_told p =
          rw (
            ← remark,
            passed,
            ← strip_same (ascii "a ") line,
            other,
            ← strip_same (ascii "p sp ") line,
            p,
          )
