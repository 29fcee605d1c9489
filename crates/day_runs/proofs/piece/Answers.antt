-- `day_runs::piece` meets its contract.
use mathlib.Core.Path.{◌≡◌}
use native.Mathlib.Omega.{arith}
use Rattle.day_slopes.specs.Held.{added_held, flat_held}
use Rattle.day_runs.proofs.piece.Goals as goal

pub returns-then-p : goal.returns-then-p
returns-then-p c = let e : c.args.p.v ≡ c.args.p.w = omega (arith, c.if-p.true) in
    flat_held c.requires _ _ e

pub returns-then-p-2 : goal.returns-then-p-2
returns-then-p-2 c = added_held _ c.climb.ensures

pub returns-then-p-ticks-2 : goal.returns-then-p-ticks-2
returns-then-p-ticks-2 c = added_held _ c.falling.ensures

pub returns : goal.returns
returns c = added_held _ c.sink.ensures
