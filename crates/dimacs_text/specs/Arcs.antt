-- The arcs of a text, in the order of its lines, and that an accepted text's are those that it is described
-- by, each fit for a network.
use mathlib.Core.{Path.◌≡◌, Path.refl, Path.◌∙◌, Path.ap, List.List, List.[], List.◌∷◌}
use Rattle.std.specs.Prelude.{ℕ, zero, suc, ◌<◌, length, get_or}
use Rattle.std.proofs.Common.{arith}
use Rattle.dimacs_line.specs.declared.line.{Sizes.Sizes, Arc.Arc, Shape.Shape}
use Rattle.dimacs_line.specs.declared.line.Shape.TheVariants.{Remark, Other}
use Rattle.dimacs_line.specs.declared.line.Shape.TheVariants.{Sizes as SizesLine, Arc as ArcLine}
use Rattle.dimacs_line.specs.Shape.{shape_of}
use Rattle.dimacs_line.specs.ShapeExact.{remark_exactly, sizes_exactly, arc_exactly}
use Rattle.dimacs_reading.specs.Accepted.{SizesWithin, Fitting, ArcLines, none, remark, arc, RoadText}
use Rattle.dimacs_reading.specs.Accepted.{remark_first, sizes}

-- the arcs of one line more, and of all lines
abbrev pub arc_first : Shape → List Arc → List Arc
arc_first Remark arcs = arcs
arc_first (SizesLine k) arcs = arcs
arc_first (ArcLine a) arcs = a ∷ arcs
arc_first Other arcs = arcs

unfoldable pub arcs_of : List (List ℕ) → List Arc
arcs_of [] = []
arcs_of (line ∷ lines) = arc_first (shape_of line) (arcs_of lines)

-- arc i of a list; no arc has the numbers of one that is not there
abbrev pub nowhere : Arc
nowhere = record { tail = 0; head = 0; weight = 0 }

abbrev pub arc_at : List Arc → ℕ → Arc
arc_at arcs i = get_or arcs i nowhere

-- AN ACCEPTED TEXT
first_is : (line : List ℕ) (lines : List (List ℕ)) (shape : Shape) → shape_of line ≡ shape
    → arcs_of (line ∷ lines) ≡ arc_first shape (arcs_of lines)
unfolding arcs_of
first_is line lines shape e = rw e

lines_arcs : (nodes : ℕ) (lines : List (List ℕ)) (arcs : List Arc) → ArcLines nodes lines arcs
    → arcs_of lines ≡ arcs
unfolding arcs_of
lines_arcs nodes _ _ none = refl
lines_arcs nodes _ _ (remark line lines arcs h al) =
    first_is line lines Remark ((remark_exactly line).1 h) ∙ lines_arcs nodes lines arcs al
lines_arcs nodes _ _ (arc line a lines arcs h f al) =
    first_is line lines (ArcLine a) ((arc_exactly line a).1 h)
    ∙ ap (λ (l : List Arc). a ∷ l) (lines_arcs nodes lines arcs al)

pub text_arcs : (k : Sizes) (lines : List (List ℕ)) (arcs : List Arc) → RoadText k lines arcs
    → arcs_of lines ≡ arcs
text_arcs k _ _ (remark_first line lines arcs h t) =
    first_is line lines Remark ((remark_exactly line).1 h) ∙ text_arcs k lines arcs t
text_arcs k _ _ (sizes line lines arcs h w al c) =
    first_is line lines (SizesLine k) ((sizes_exactly line k).1 h) ∙ lines_arcs k.nodes lines arcs al

lines_fit : (nodes : ℕ) (lines : List (List ℕ)) (arcs : List Arc) → ArcLines nodes lines arcs
    → (i : ℕ) → i < length arcs → Fitting nodes (arc_at arcs i)
lines_fit nodes _ _ none i l = absurd (omega arith)
lines_fit nodes _ _ (remark line lines arcs h al) i l = lines_fit nodes lines arcs al i l
lines_fit nodes _ _ (arc line a lines arcs h f al) zero l = f
lines_fit nodes _ _ (arc line a lines arcs h f al) (suc i) l = lines_fit nodes lines arcs al i (omega arith)

-- its sizes, and each of its arcs
pub record Fit (k : Sizes) (arcs : List Arc) : Type 0 where
  pub within : SizesWithin k
  pub long : length arcs ≡ k.arcs
  pub fits : (i : ℕ) → i < length arcs → Fitting k.nodes (arc_at arcs i)

pub text_fit : (k : Sizes) (lines : List (List ℕ)) (arcs : List Arc) → RoadText k lines arcs → Fit k arcs
text_fit k _ _ (remark_first line lines arcs h t) = text_fit k lines arcs t
text_fit k _ _ (sizes line lines arcs h w al c) =
    record { within = w; long = c; fits = lines_fit k.nodes lines arcs al }
