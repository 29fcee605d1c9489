-- `day_runs::extend` meets its contract.
use mathlib.Core.Path.{◌≡◌}
use Prim.Native.Nat.{◌+◌}
use native.Mathlib.Omega.{arith}
use Rattle.day_slopes.specs.Held.{flat_held, tick_held}
use borrow.Author.Rules.{rules}
use Rattle.day_runs.proofs.extend.Goals as goal

pub returns-then-p : goal.returns-then-p
returns-then-p c = let e : c.args.p.v ≡ c.args.p.w = omega (arith, c.if-p.true) in (
  flat_held c.requires.room _ _ e,
  search rules,
)

pub returns-then-p-2 : goal.returns-then-p-2
returns-then-p-2 c =
    let e : c.args.p.b ≡ c.args.p.a + 1 = omega arith in (
      tick_held c.requires.room _ _ _ _ e c.put.ensures.0 c.put.ensures.1,
      search rules,
    )
