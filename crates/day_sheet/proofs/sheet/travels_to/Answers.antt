-- `day_sheet::sheet::travels_to` meets its contract.
use Rattle.search_chains.specs.Town.{fresh_tables}
use Rattle.toward_list.specs.Work.{primed_of}
use Rattle.day_sheet.proofs.sheet.travels_to.Goals as goal

pub chain-requires-clause-town : goal.chain-requires-clause-town
chain-requires-clause-town c = c.requires.town

pub chain-requires-clause-unchained : goal.chain-requires-clause-unchained
chain-requires-clause-unchained c = fresh_tables c.requires.town

pub least_of_arcs-requires-clause-primed : goal.least_of_arcs-requires-clause-primed
least_of_arcs-requires-clause-primed c = primed_of c.requires.town c.first_points.ensures

pub least_of_arcs-requires-clause-arcs_in_bounds : goal.least_of_arcs-requires-clause-arcs_in_bounds
least_of_arcs-requires-clause-arcs_in_bounds c = c.requires.town.small.arcs_most

pub invariant_of-roads-clause-ready : goal.invariant_of-roads-clause-ready
invariant_of-roads-clause-ready c =
    record { primed = primed_of c.requires.town c.first_points.ensures; chained = c.chain.ensures }
