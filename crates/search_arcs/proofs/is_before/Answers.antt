-- `search_arcs::is_before` meets its contract: below 2 ^ 31 a number is its own signed number.
use mir.{Syntax.w32, ValLaws.to_z_pos}
use Rattle.search_arcs.proofs.is_before.Goals as goal

pub returns : goal.returns
returns c = rw (to_z_pos w32 c.args.x c.requires.0, to_z_pos w32 c.args.other c.requires.1)
