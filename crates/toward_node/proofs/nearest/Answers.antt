-- `nearest` meets its contract: a node that has more than the bar is dirty.
use native.Mathlib.Omega.{arith}
use Rattle.toward_node.specs.Nearest.{found_most, found_none}
use Rattle.toward_node.proofs.nearest.Goals as goal

pub returns-then-most-bar : goal.returns-then-most-bar
returns-then-most-bar c = found_none _ _ _ _ c.most_near-most.ensures c.if-most-bar.true

pub returns : goal.returns
returns c =
    found_most _ _ _ _ _ c.first_with.ensures.0 c.first_with.ensures.1 (omega (
      arith,
      c.if-most-bar.false,
    ))
