-- `node_runs::fill_lows` meets its contract.
use mathlib.Core.{Path.◌≡◌, Path.refl, Path.◌∙◌}
use native.Mathlib.Omega.{arith}
use lib.{ListN.length-set}
use Rattle.node_runs.specs.Ready.{lows_none, lows_more}
use borrow.Author.Rules.{rules}
use Rattle.node_runs.proofs.fill_lows.Goals as goal

pub loop-u-init : goal.loop-u-init
loop-u-init c = (search rules, refl, lows_none _ _)

pub loop-u-preserved : goal.loop-u-preserved
loop-u-preserved c = (
  search rules,
  length-set c.loop-u.lows c.loop-u.u _ ∙ c.loop-u.invariant.1,
  lows_more _ _ c.loop-u.invariant.2 (omega (arith, c.loop-u.invariant.1, c.requires.i_lt_borders.1))
      c.low_value.ensures,
)

pub returns : goal.returns
returns c = let e : c.loop-u.u ≡ c.args.l.nodes = omega arith in
    (rw e at c.loop-u.invariant.2, c.loop-u.invariant.1)
