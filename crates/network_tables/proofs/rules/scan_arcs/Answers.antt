-- `network_tables::rules::scan_arcs` meets its contract.
use Rattle.theory_loops.specs.{First.firsts, Total.totals}
use borrow.Author.Rules.{rules}
use Rattle.network_tables.proofs.rules.scan_arcs.Goals as goal

pub loop-a-init : goal.loop-a-init
loop-a-init c = (search rules, search firsts, search totals, search rules)

pub returns-then-is_bad_arc : goal.returns-then-is_bad_arc
returns-then-is_bad_arc c = (search rules, search firsts)

pub loop-a-preserved : goal.loop-a-preserved
loop-a-preserved c = (search rules, search firsts, search totals, search rules)

pub returns : goal.returns
returns c = (search firsts, search totals)
