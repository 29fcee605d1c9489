-- `dimacs_line::line::shape_of` meets its contract.
use Rattle.dimacs_line.specs.Shape.{remark_told, arc_told, sizes_told, other_told}
use Rattle.dimacs_line.proofs.line.shape_of.Goals as goal

pub returns-then-starts_with : goal.returns-then-starts_with
returns-then-starts_with c = remark_told c.args.line.now _ c.starts_with.ensures.value c.if-starts_with.true

pub returns-in-Some : goal.returns-in-Some
returns-in-Some c =
    arc_told c.args.line.now _ c.starts_with.ensures.value c.if-starts_with.false _ _ _
    c.in-Some.ensures.cases.0 c.in-Some.ensures.cases.1 c.arc_of.ensures c.map_or.ensures

pub returns-in-Some-strip_prefix : goal.returns-in-Some-strip_prefix
returns-in-Some-strip_prefix c =
    sizes_told c.args.line.now _ c.starts_with.ensures.value c.if-starts_with.false c.in_default.ensures.cases
    _ _ _ c.in-Some-strip_prefix.ensures.cases.0 c.in-Some-strip_prefix.ensures.cases.1
    c.sizes_of.ensures c.map_or-in-Some-strip_prefix.ensures

pub returns : goal.returns
returns c =
    other_told c.args.line.now _ c.starts_with.ensures.value c.if-starts_with.false c.in_default.ensures.cases
    c.in_default-strip_prefix.ensures.cases
