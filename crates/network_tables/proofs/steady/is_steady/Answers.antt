-- `network_tables::steady::is_steady` meets its contract.
use native.Mathlib.Omega.{arith}
use Rattle.network_tables.specs.Steady.{no_points, not_steady, steady_told}
use Rattle.network_tables.proofs.steady.is_steady.Goals as goal

pub returns-then-ticks-eq0 : goal.returns-then-ticks-eq0
returns-then-ticks-eq0 c = λ _. no_points _ c.requires.counted c.if-ticks-eq0.true

pub returns-then-pairs-gt0 : goal.returns-then-pairs-gt0
returns-then-pairs-gt0 c = not_steady _

pub returns-then-starts-counts : goal.returns-then-starts-counts
returns-then-starts-counts c = not_steady _

pub returns : goal.returns
returns c = λ e.
    steady_told _ _ c.requires.counted c.requires.period_nonzero.1 (omega arith) c.pair_up-pairs.ensures
    c.if-pairs-gt0.false c.if-starts-counts.false (c.are_closed.ensures e)
