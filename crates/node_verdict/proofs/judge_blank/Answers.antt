-- `node_verdict::judge_blank` meets its contract.
use mathlib.Core.Path.{sym, ◌∙◌}
use native.Mathlib.Omega.{arith}
use Rattle.node_verdict.specs.Blank.{blank_ahead, blank_none}
use Rattle.node_verdict.proofs.judge_blank.Goals as goal

pub returns-then-ahead : goal.returns-then-ahead
returns-then-ahead c =
    let z = rw (c.requires.checkable.nodes, c.requires.checkable.town.sizes.nodes) at
    c.requires.i_lt_borders.2 in
    blank_ahead _ _ _ _ z c.requires.i_lt_borders.3 (sym c.is_ahead-ahead.ensures ∙ c.if-ahead.true)
    (omega (arith, c.requires.checkable.town.small.period_some)) c.fill.ensures

pub returns : goal.returns
returns c =
    let z = rw (c.requires.checkable.nodes, c.requires.checkable.town.sizes.nodes) at
    c.requires.i_lt_borders.2 in
    blank_none _ _ _ _ z c.requires.i_lt_borders.3 (sym c.is_ahead-ahead.ensures ∙ c.if-ahead.false)
