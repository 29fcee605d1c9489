-- `toward_node::rows::row_place` meets its contract: as many rows before it as nodes.
use mathlib.Core.Path.{refl}
use Rattle.toward_list.specs.Places.{row_fits, row_within, row_early}
use Rattle.toward_list.proofs.rows.row_place.Goals as goal

pub overflow_mul-result : goal.overflow_mul-result
overflow_mul-result c = row_fits c.requires.small c.requires.u_lt_nodes

pub returns : goal.returns
returns c = (
  refl,
  row_within c.requires.small c.requires.u_lt_nodes,
  row_early c.requires.small c.requires.u_lt_nodes,
)
