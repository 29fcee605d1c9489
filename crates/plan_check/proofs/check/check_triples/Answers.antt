-- `plan_check::check::check_triples` meets its contract.
use native.Mathlib.Omega.{arith}
use Rattle.plan_check.specs.Verdict.{stands_verdict, finds_told_lem}
use Rattle.plan_check.proofs.check.check_triples.Goals as goal

pub verdict_of-verdict-requires : goal.verdict_of-verdict-requires
verdict_of-verdict-requires c =
    λ h.
    let f = c.judge_borders-found.ensures.0.found h in (
      omega (arith, f.border, c.requires.check.borders, c.requires.check.formed.small.borders_most),
      omega (arith, f.node, c.requires.check.town.sizes.nodes, c.requires.check.town.small.nodes_most),
      omega (arith, f.tick.within, c.requires.check.town.sizes.period, c.requires.check.town.small.period_most),
    )

pub returns : goal.returns
returns c = (
  stands_verdict c.judge_borders-found.ensures.0 (omega (arith, c.requires.check.borders)) c.verdict_of-verdict.ensures,
  finds_told_lem c.requires.check _ c.judge_borders-found.ensures.1 c.judge_borders-found.ensures.0.low c.judge_borders-found.ensures.0.high c.verdict_of-verdict.ensures,
)
