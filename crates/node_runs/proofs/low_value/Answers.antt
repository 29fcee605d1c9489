-- `node_runs::low_value` meets its contract.
use Rattle.plan_values.specs.Starts.{starting}
use native.Mathlib.Omega.{arith}
use Rattle.node_runs.specs.Ready.{low_less}
use borrow.Author.Rules.{rules}
use Rattle.node_runs.proofs.low_value.Goals as goal

pub overflow_mul-i : goal.overflow_mul-i
overflow_mul-i c = search starting

pub overflow_add-i : goal.overflow_add-i
overflow_add-i c = search starting

pub point_count-requires : goal.point_count-requires
point_count-requires c = search (starting, rules)

pub least_value-requires-clause-formed : goal.least_value-requires-clause-formed
least_value-requires-clause-formed c = c.requires.formed

pub least_value-requires-clause-started : goal.least_value-requires-clause-started
least_value-requires-clause-started c = c.requires.started

pub least_value-requires-clause-i_lt_borders : goal.least_value-requires-clause-i_lt_borders
least_value-requires-clause-i_lt_borders c = (
  c.requires.i_lt_borders.0,
  c.requires.i_lt_borders.1,
  omega
      (arith, c.point_count.ensures.0, c.if-point_count-eq0.false),
)

pub returns : goal.returns
returns c = low_less c.least_value.ensures c.half.ensures
