-- `node_bare::mark_runs` meets its contract.
use mathlib.Core.Path.{◌≡◌, refl, ◌∙◌}
use Prim.Native.Nat.{◌+◌}
use native.Mathlib.Omega.{arith}
use Rattle.day_slopes.specs.Runs.{starts_within}
use Rattle.node_bare.specs.Home.{painted_none, painted_more}
use borrow.Author.Rules.{rules}
use Rattle.node_bare.proofs.mark_runs.Goals as goal

pub loop-k-init : goal.loop-k-init
loop-k-init c = (search rules, refl, painted_none _ c.requires.grid.begun)

pub fill-requires : goal.fill-requires
fill-requires c = (
  omega (
    arith,
    c.from.ensures,
    c.from-in-loop-k.ensures,
    c.requires.grid.rise c.loop-k.k c.loop-k-test.true,
  ),
  omega (
    arith,
    c.from-in-loop-k.ensures,
    starts_within c.requires.grid (c.loop-k.k + 1) (omega arith),
    c.loop-k.invariant.1,
  ),
)

pub loop-k-preserved : goal.loop-k-preserved
loop-k-preserved c = (
  omega arith,
  c.fill.ensures.long ∙ c.loop-k.invariant.1,
  painted_more c.loop-k.invariant.2 c.from.ensures
      c.from-in-loop-k.ensures c.home_byte.ensures c.fill.ensures,
)

pub returns : goal.returns
returns c = let e : c.loop-k.k ≡ c.args.n = omega arith in
    rw e at c.loop-k.invariant.2
