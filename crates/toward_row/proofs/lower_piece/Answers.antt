-- `toward_row::lower_piece` meets its contract: the line rises, falls, or does neither.
use mathlib.Core.Path.{◌≡◌}
use native.Mathlib.Omega.{arith}
use Rattle.toward_row.specs.Pieces.{flat_run}
use Rattle.toward_row.proofs.lower_piece.Goals as goal

pub returns : goal.returns
returns c =
    let e : c.args.v ≡ c.args.w = omega arith in
    flat_run c.requires e c.lower_span.ensures
