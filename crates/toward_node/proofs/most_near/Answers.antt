-- `most_near` meets its contract: of the nodes passed none has more.
use native.Mathlib.Omega.{arith}
use Rattle.std.proofs.lemmas.List.{length-take-le, get_or-take}
use Rattle.toward_node.specs.Nearest.{most_none, most_more, most_end}
use Rattle.toward_node.proofs.most_near.Goals as goal

pub loop-entry-init : goal.loop-entry-init
loop-entry-init c = most_none _

pub loop-entry-preserved : goal.loop-entry-preserved
loop-entry-preserved c =
    let long = length-take-le c.args.nodes c.args.near.now (omega arith) in
    let entry = get_or-take c.args.nodes c.args.near.now c.loop-entry.entry-index 0 (omega arith) in
    most_more _ _ _ _ c.loop-entry.invariant (rw entry at c.max-most.ensures)

pub returns : goal.returns
returns c =
    let long = length-take-le c.args.nodes c.args.near.now (omega arith) in
    most_end _ _ _ _ c.loop-entry.invariant (omega arith) (omega arith)
