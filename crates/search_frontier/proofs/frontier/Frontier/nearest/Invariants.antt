-- `search_frontier::frontier::Frontier::nearest` meets its contract: the invariant is the contract itself at
-- the keys passed.
use Prim.Native.Nat.{◌≤◌}
use Rattle.search_frontier.specs.Nearest.{Least}
use Rattle.search_frontier.proofs.frontier.Frontier.nearest.Given as goal

abbrev pub invariant-loop-i : goal.invariant-loop-i
invariant-loop-i l = (l.i ≤ l.self.size) × Least l.self.keys l.i l.least
