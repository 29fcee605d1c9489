-- `day_runs::close` meets its contract.
use Prim.Native.Nat.{◌≤◌, ◌<◌}
use native.Mathlib.Omega.{arith}
use lib.ListN.{get_or}
use Rattle.day_slopes.specs.Held.{closed_put, closed_none}
use Rattle.day_runs.proofs.close.Goals as goal

pub returns-then-from-b : goal.returns-then-from-b
returns-then-from-b c =
    let l : get_or c.args.starts.now c.args.n 0 < c.args.b = omega arith in
    closed_put _ _ _ _ _ c.requires _ _ l c.put.ensures.0
    c.put.ensures.1

pub returns : goal.returns
returns c =
    let l : c.args.b ≤ get_or c.args.starts.now c.args.n 0 = omega (arith, c.if-from-b.false) in
    closed_none _ _ _ _ _ c.requires l
