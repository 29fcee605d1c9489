-- `network::node::node_kind` meets its contract.
use Rattle.network.specs.Node.{node_kinds}
use Rattle.network.proofs.node.node_kind.Goals as goal

pub returns-then-hours-eq0-clause-number : goal.returns-then-hours-eq0-clause-number
returns-then-hours-eq0-clause-number c = search node_kinds

pub returns-then-hours-eq0-clause-size : goal.returns-then-hours-eq0-clause-size
returns-then-hours-eq0-clause-size c = search node_kinds

pub returns-then-hours-eq0-clause-per : goal.returns-then-hours-eq0-clause-per
returns-then-hours-eq0-clause-per c = search node_kinds

pub returns-else-hours-eq0-clause-number : goal.returns-else-hours-eq0-clause-number
returns-else-hours-eq0-clause-number c = search node_kinds

pub returns-else-hours-eq0-clause-size : goal.returns-else-hours-eq0-clause-size
returns-else-hours-eq0-clause-size c = search node_kinds

pub returns-else-hours-eq0-clause-per : goal.returns-else-hours-eq0-clause-per
returns-else-hours-eq0-clause-per c = search node_kinds
