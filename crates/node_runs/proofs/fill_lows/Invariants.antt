-- `node_runs::fill_lows` meets its contract.
use Prim.Native.Nat.{◌≤◌}
use mathlib.Core.{Path.◌≡◌}
use lib.{ListN.length}
use Rattle.node_runs.specs.Ready.{Lows}
use Rattle.node_runs.proofs.fill_lows.Given as goal

abbrev pub invariant-loop-u : goal.invariant-loop-u
invariant-loop-u l =
    (l.u ≤ l.nodes) × (length l.lows ≡ length l.initial.lows) × Lows l.plan l.l l.i l.u l.lows
