use mathlib.Core.Path.{refl}
use native.Mathlib.Omega.{arith}
use Rattle.plan_rows.specs.Points.{tick_none, tick_put}
use Rattle.plan_rows.proofs.points.put_tick.Goals as goal

pub returns-then-turned-eq0 : goal.returns-then-turned-eq0
returns-then-turned-eq0 c =
    tick_none c.requires.x_in_bounds.2 c.if-turned-eq0.true

pub returns : goal.returns
returns c =
    tick_put c.requires.x_in_bounds.2 c.if-turned-eq0.false c.requires.x_in_bounds.0
    (omega (arith, c.if-turned-eq0.false)) refl (omega arith)
    c.put_point.ensures
