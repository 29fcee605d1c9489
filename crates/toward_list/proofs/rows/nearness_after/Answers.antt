-- `nearness_after` meets its contract: what is known of a row that got its first numbers, or a look at it.

use Rattle.toward_list.proofs.rows.nearness_after.Goals as goal

pub returns-then-first : goal.returns-then-first
returns-then-first c = c.requires.u_lt_nodes.3.holds c.if-first.true
