-- `network_tables::steady::pair_up` meets its contract.
use mathlib.Core.Path.{◌∙◌}
use native.Mathlib.Omega.{arith}
use Rattle.theory_breaks.specs.Tally.{flag_of, flag_few}
use Rattle.network_tables.specs.{Pairs.start_after, Pairs.pair_more, Pairs.pair_few, Pairs.pairs}
use borrow.Author.Rules.{rules}
use Rattle.network_tables.proofs.steady.pair_up.Goals as goal

pub loop-q-init : goal.loop-q-init
loop-q-init c = (search rules, search pairs)

pub overflow_add-starts : goal.overflow_add-starts
overflow_add-starts c = omega (
  arith,
  pair_few _ _ _ _ _ _ c.loop-q.invariant.1,
  flag_few (start_after c.args.ticks.now c.loop-q.q),
  c.from-starts.ensures ∙ flag_of _,
)

pub loop-q-preserved : goal.loop-q-preserved
loop-q-preserved c = (
  search rules,
  (pair_more _ _ _ _ _ _ c.loop-q.invariant.1 _ _ _ c.from-starts.ensures
      c.fault.ensures c.max-over.ensures),
)

pub returns : goal.returns
returns c = search pairs
