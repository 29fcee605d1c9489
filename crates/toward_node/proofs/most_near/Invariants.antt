-- `most_near` meets its contract: of the nodes passed none has more.
use Rattle.toward_node.specs.Nearest.{Most}
use Rattle.toward_node.proofs.most_near.Given as goal

abbrev pub invariant-loop-entry : goal.invariant-loop-entry
invariant-loop-entry l = Most l.entry-index l.most l.near
