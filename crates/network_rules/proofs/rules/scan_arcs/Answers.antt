-- `network_rules::rules::scan_arcs` meets its contract: no arc of the blocks passed is bad, and `sum` is the
-- points of those.
use native.Mathlib.Omega.{arith}
use Rattle.std.proofs.lemmas.Result.{err_from_is_err_and}
use Rattle.network.specs.{Decode.laid_small}
use Rattle.network_rules.specs.ScanArcs.{arcs_none, arcs_at, arcs_found}
use borrow.Author.Rules.{rules}
use Rattle.network_rules.proofs.rules.scan_arcs.Goals as goal

pub blocks-j-end-requires : goal.blocks-j-end-requires
blocks-j-end-requires c = omega (arith, (laid_small c.requires).arcs_most)

pub loop-j-init : goal.loop-j-init
loop-j-init c = (
  search rules,
  search rules,
  omega (arith, (laid_small c.requires).arcs_most),
  arcs_at arcs_none _ (search rules),
)

pub scan_block-requires-clause-laid : goal.scan_block-requires-clause-laid
scan_block-requires-clause-laid c = c.requires

pub scan_block-requires-clause-m_le_arc_per : goal.scan_block-requires-clause-m_le_arc_per
scan_block-requires-clause-m_le_arc_per c = search rules

pub scan_block-requires-clause-arcs_passed : goal.scan_block-requires-clause-arcs_passed
scan_block-requires-clause-arcs_passed c = arcs_at c.loop-j.invariant.3 _ (search rules)

pub returns-in_err-sum : goal.returns-in_err-sum
returns-in_err-sum c =
    let p = err_from_is_err_and c.from_residual.result c.from_residual.ensures.1 in
    rw (p.1, p.2) (arcs_found _ _ _ _ c.in_err-sum.ensures (search rules))

pub loop-j-preserved : goal.loop-j-preserved
loop-j-preserved c = (
  search rules,
  search rules,
  search rules,
  arcs_at c.in_ok-sum.ensures _ (search rules),
)

pub returns : goal.returns
returns c = arcs_at c.loop-j.invariant.3 c.args.l.arcs (search rules)
