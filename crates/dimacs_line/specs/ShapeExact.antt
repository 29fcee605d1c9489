-- A line has a shape exactly where it is such a line (`remark_exactly`, `sizes_exactly`, `arc_exactly`).
use mathlib.Core.{Path.◌≡◌, Path.refl, Path.subst, Logic.◌↔◌, List.List, List.[], List.◌∷◌}
use Rattle.std.specs.Prelude.{Option, Some, None, Bool, true, false, cond, ℕ}
use Rattle.std.specs.Option.{option_map_or}
use Rattle.std.proofs.Common.{◌∙◌, arith, lt-ltb}
use lib.ListN.{drop}
use Rattle.text_spaced.specs.declared.spaced.Scan.{Scan}
use Rattle.text_numbers.specs.{Text.ascii, Spaced.Spaced}
use Rattle.text_spaced.specs.Scanning.{fresh, scanned_all, whole}
use Rattle.text_spaced.specs.SpacedExact.{scanned_spaced, two_values, three_values, two_read, three_read}
use Rattle.dimacs_line.specs.declared.line.{Sizes.Sizes, Arc.Arc, Shape.Shape}
use Rattle.dimacs_line.specs.declared.line.Shape.TheVariants.{Remark, Other}
use Rattle.dimacs_line.specs.declared.line.Shape.TheVariants.{Sizes as SizesLine, Arc as ArcLine}
use Rattle.dimacs_line.specs.Shape.{IsRemark, IsSizes, IsArc, starts_with, starts_is, sizes_by, arc_by}
use Rattle.dimacs_line.specs.Shape.{sizes_met, arc_met, sizes_shape, arc_shape, shape_of}

zero_one : ◌≡◌ {A = ℕ} 0 1 → ⊥
zero_one z = omega arith

none_some : {A : Type 0} {P : Type 0} {x : A} → None ≡ Some x → P
none_some e = absurd (zero_one (cc))

same_some : {A : Type 0} (x y : A) → Some x ≡ Some y → x ≡ y
same_some x y e = cc

-- what is met of three and of two numbers, and the shape that is made of it
arc_is_met : (rest : List ℕ) (a : Arc) → arc_met (scanned_all 9 fresh rest) ≡ Some a
    → Spaced 9 rest (a.tail ∷ a.head ∷ a.weight ∷ [])
unfolding arc_met
arc_is_met rest a e = read (scanned_all 9 fresh rest) refl
  where
    go : (s : Scan) (t : Bool) → scanned_all 9 fresh rest ≡ Some s → whole s 3 ≡ t
        → Spaced 9 rest (a.tail ∷ a.head ∷ a.weight ∷ [])
    go s true g f =
        let k : arc_by s ≡ a = same_some (arc_by s) a (rw (g, f) at e) in
        subst (λ (a : Arc). Spaced 9 rest (a.tail ∷ a.head ∷ a.weight ∷ [])) k
        (rw (three_values s f) at (scanned_spaced 9 3 rest s g f))
    go s false g f = none_some (rw (g, f) at e)

    read : (o : Option Scan) → scanned_all 9 fresh rest ≡ o
        → Spaced 9 rest (a.tail ∷ a.head ∷ a.weight ∷ [])
    read None g = none_some (rw g at e)
    read (Some s) g = go s (whole s 3) g refl

sizes_are_met : (rest : List ℕ) (k : Sizes) → sizes_met (scanned_all 9 fresh rest) ≡ Some k
    → Spaced 9 rest (k.nodes ∷ k.arcs ∷ [])
unfolding sizes_met
sizes_are_met rest k e = read (scanned_all 9 fresh rest) refl
  where
    go : (s : Scan) (t : Bool) → scanned_all 9 fresh rest ≡ Some s → whole s 2 ≡ t
        → Spaced 9 rest (k.nodes ∷ k.arcs ∷ [])
    go s true g f =
        let j : sizes_by s ≡ k = same_some (sizes_by s) k (rw (g, f) at e) in
        subst (λ (k : Sizes). Spaced 9 rest (k.nodes ∷ k.arcs ∷ [])) j
        (rw (two_values s f) at (scanned_spaced 9 2 rest s g f))
    go s false g f = none_some (rw (g, f) at e)

    read : (o : Option Scan) → scanned_all 9 fresh rest ≡ o → Spaced 9 rest (k.nodes ∷ k.arcs ∷ [])
    read None g = none_some (rw g at e)
    read (Some s) g = go s (whole s 2) g refl

arc_of_lem : (rest : List ℕ) (a : Arc) → arc_shape (scanned_all 9 fresh rest) ≡ ArcLine a
    → Spaced 9 rest (a.tail ∷ a.head ∷ a.weight ∷ [])
unfolding arc_shape
arc_of_lem rest a e = go (arc_met (scanned_all 9 fresh rest)) refl
  where
    go : (o : Option Arc) → arc_met (scanned_all 9 fresh rest) ≡ o
        → Spaced 9 rest (a.tail ∷ a.head ∷ a.weight ∷ [])
    go None g = let h : Other ≡ ArcLine a = rw g at e in absurd (zero_one (cc))
    go (Some b) g =
        let h : ArcLine b ≡ ArcLine a = rw g at e in
        let k : Some b ≡ Some a = cc in
        arc_is_met rest a (g ∙ k)

arc_read : (rest : List ℕ) (a : Arc) → Spaced 9 rest (a.tail ∷ a.head ∷ a.weight ∷ [])
    → arc_shape (scanned_all 9 fresh rest) ≡ ArcLine a
unfolding arc_shape arc_met whole
arc_read rest a h =
    let (d, l, e) = three_read 9 rest a.tail a.head a.weight h in
    rw (e, lt-ltb 0 d l)

sizes_of_lem : (rest : List ℕ) (k : Sizes) → sizes_shape (scanned_all 9 fresh rest) ≡ SizesLine k
    → Spaced 9 rest (k.nodes ∷ k.arcs ∷ [])
unfolding sizes_shape
sizes_of_lem rest k e = go (sizes_met (scanned_all 9 fresh rest)) refl
  where
    go : (o : Option Sizes) → sizes_met (scanned_all 9 fresh rest) ≡ o
        → Spaced 9 rest (k.nodes ∷ k.arcs ∷ [])
    go None g = let h : Other ≡ SizesLine k = rw g at e in absurd (zero_one (cc))
    go (Some j) g =
        let h : SizesLine j ≡ SizesLine k = rw g at e in
        let i : Some j ≡ Some k = cc in
        sizes_are_met rest k (g ∙ i)

sizes_read : (rest : List ℕ) (k : Sizes) → Spaced 9 rest (k.nodes ∷ k.arcs ∷ [])
    → sizes_shape (scanned_all 9 fresh rest) ≡ SizesLine k
unfolding sizes_shape sizes_met whole
sizes_read rest k h =
    let (d, l, e) = two_read 9 rest k.nodes k.arcs h in
    rw (e, lt-ltb 0 d l)

-- numbers make no other shape than theirs
arc_only : (s : Option Scan) (x : Shape) → ((a : Arc) → ArcLine a ≡ x → ⊥) → (Other ≡ x → ⊥)
    → arc_shape s ≡ x → ⊥
unfolding arc_shape
arc_only s x never other e = go (arc_met s) e
  where
    go : (o : Option Arc) → option_map_or ArcLine o Other ≡ x → ⊥
    go None f = other f
    go (Some a) f = never a f

sizes_only : (s : Option Scan) (x : Shape) → ((k : Sizes) → SizesLine k ≡ x → ⊥) → (Other ≡ x → ⊥)
    → sizes_shape s ≡ x → ⊥
unfolding sizes_shape
sizes_only s x never other e = go (sizes_met s) e
  where
    go : (o : Option Sizes) → option_map_or SizesLine o Other ≡ x → ⊥
    go None f = other f
    go (Some k) f = never k f

-- which of the tests a line of a shape has passed
module _ (line : List ℕ) where
  remark_is : shape_of line ≡ Remark → IsRemark line
  unfolding shape_of
  remark_is e = go (starts_with (ascii "c") line) refl
    where
      not_arc : (a : Arc) → ArcLine a ≡ Remark → ⊥
      not_arc a f = zero_one (cc)

      not_sizes : (k : Sizes) → SizesLine k ≡ Remark → ⊥
      not_sizes k f = zero_one (cc)

      not_other : Other ≡ Remark → ⊥
      not_other f = zero_one (cc)

      later : (a p : Bool) → cond a (arc_shape (scanned_all 9 fresh (drop 2 line)))
          (cond p (sizes_shape (scanned_all 9 fresh (drop 5 line))) Other) ≡ Remark → ⊥
      later true p f = arc_only _ Remark not_arc not_other f
      later false true f = sizes_only _ Remark not_sizes not_other f
      later false false f = not_other f

      go : (t : Bool) → starts_with (ascii "c") line ≡ t → IsRemark line
      go true f = record { rest = drop 1 line; is = starts_is (ascii "c") line f }
      go false f =
          absurd (later (starts_with (ascii "a ") line) (starts_with (ascii "p sp ") line) (rw f at e))

  is_remark : IsRemark line → shape_of line ≡ Remark
  unfolding shape_of starts_with
  is_remark h = rw h.is

  arc_is : (a : Arc) → shape_of line ≡ ArcLine a → IsArc line a
  unfolding shape_of
  arc_is a e = go (starts_with (ascii "c") line) (starts_with (ascii "a ") line) refl refl
    where
      not_remark : Remark ≡ ArcLine a → ⊥
      not_remark f = zero_one (cc)

      not_other : Other ≡ ArcLine a → ⊥
      not_other f = zero_one (cc)

      not_sizes : (k : Sizes) → SizesLine k ≡ ArcLine a → ⊥
      not_sizes k f = zero_one (cc)

      last : (p : Bool) → cond p (sizes_shape (scanned_all 9 fresh (drop 5 line))) Other ≡ ArcLine a → ⊥
      last true f = sizes_only _ (ArcLine a) not_sizes not_other f
      last false f = not_other f

      go : (c t : Bool) → starts_with (ascii "c") line ≡ c → starts_with (ascii "a ") line ≡ t → IsArc line a
      go true t f g = absurd (not_remark (rw f at e))
      go false true f g = record {
        rest = drop 2 line;
        is = starts_is (ascii "a ") line g;
        numbers = arc_of_lem (drop 2 line) a (rw (f, g) at e);
      }
      go false false f g = absurd (last (starts_with (ascii "p sp ") line) (rw (f, g) at e))

  is_arc : (a : Arc) → IsArc line a → shape_of line ≡ ArcLine a
  unfolding shape_of starts_with
  is_arc a h = rw h.is (arc_read h.rest a h.numbers)

  sizes_is : (k : Sizes) → shape_of line ≡ SizesLine k → IsSizes line k
  unfolding shape_of
  sizes_is k e =
      go (starts_with (ascii "c") line) (starts_with (ascii "a ") line) (starts_with (ascii "p sp ") line)
      refl refl refl
    where
      not_remark : Remark ≡ SizesLine k → ⊥
      not_remark f = zero_one (cc)

      not_other : Other ≡ SizesLine k → ⊥
      not_other f = zero_one (cc)

      not_arc : (a : Arc) → ArcLine a ≡ SizesLine k → ⊥
      not_arc a f = zero_one (cc)

      go : (c a t : Bool) → starts_with (ascii "c") line ≡ c → starts_with (ascii "a ") line ≡ a
          → starts_with (ascii "p sp ") line ≡ t → IsSizes line k
      go true a t f g h = absurd (not_remark (rw f at e))
      go false true t f g h = absurd (arc_only _ (SizesLine k) not_arc not_other (rw (f, g) at e))
      go false false true f g h = record {
        rest = drop 5 line;
        is = starts_is (ascii "p sp ") line h;
        numbers = sizes_of_lem (drop 5 line) k (rw (f, g, h) at e);
      }
      go false false false f g h = absurd (not_other (rw (f, g, h) at e))

  is_sizes : (k : Sizes) → IsSizes line k → shape_of line ≡ SizesLine k
  unfolding shape_of starts_with
  is_sizes k h = rw h.is (sizes_read h.rest k h.numbers)

-- EXACTLY
pub remark_exactly : (line : List ℕ) → (shape_of line ≡ Remark) ↔ IsRemark line
remark_exactly line = (remark_is line, is_remark line)

pub sizes_exactly : (line : List ℕ) (k : Sizes) → (shape_of line ≡ SizesLine k) ↔ IsSizes line k
sizes_exactly line k = (sizes_is line k, is_sizes line k)

pub arc_exactly : (line : List ℕ) (a : Arc) → (shape_of line ≡ ArcLine a) ↔ IsArc line a
arc_exactly line a = (arc_is line a, is_arc line a)
