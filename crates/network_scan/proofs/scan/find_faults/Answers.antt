-- `network_scan::scan::find_faults` meets its contract.
use native.Mathlib.Omega.{arith}
use Rattle.network.specs.{Decode.laid_small}
use Rattle.network_scan.specs.{Scan.scan_more, Scan.scans}
use borrow.Author.Rules.{rules}
use Rattle.network_scan.proofs.scan.find_faults.Goals as goal

pub loop-i-init : goal.loop-i-init
loop-i-init c = (search scans, omega (arith, laid_small c.requires.laid))

pub tick-t-requires-clause-laid : goal.tick-t-requires-clause-laid
tick-t-requires-clause-laid c = c.requires.laid

pub travel-v-requires-clause-laid : goal.travel-v-requires-clause-laid
travel-v-requires-clause-laid c = c.requires.laid

pub returns-then-bad_point : goal.returns-then-bad_point
returns-then-bad_point c = search scans

pub loop-i-preserved : goal.loop-i-preserved
loop-i-preserved c = (
  scan_more _ _ _ _ _ _ _ _ _ _ _ _
      c.loop-i.invariant.0
      c.loop-i-test.true
      c.tick-t.ensures.0 c.travel-v.ensures.0
      c.bad_point.ensures _ c.if-bad_point.false c.late_at-late.ensures,
  search rules,
)

pub travel-v-requires-2-clause-laid : goal.travel-v-requires-2-clause-laid
travel-v-requires-2-clause-laid c = c.requires.laid

pub returns : goal.returns
returns c = search scans
