-- `search_arcs::times::in_period` meets its contract: a tick below the period is its own remainder.
use Rattle.search_arcs.specs.Times.{first_day}
use borrow.Author.Rules.{rules}
use Rattle.search_arcs.proofs.times.in_period.Goals as goal

pub returns-then-x-period : goal.returns-then-x-period
returns-then-x-period c = search (first_day, rules)
