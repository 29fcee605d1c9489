-- `network_rules::rules::scan_block` meets its contract: no arc before the e-th of the block is bad, and
-- `sum` is the points of those.
use mathlib.Core.Path.{◌≡◌, sym, ◌∙◌}
use Prim.Native.Nat.{◌+◌, ◌*◌}
use native.Mathlib.Omega.{arith}
use Rattle.file_blocks.specs.Kind.{arc_per}
use Rattle.network.specs.{Decode.decode, Decode.laid_small, Rules.bad_arc, Rules.arc_judged}
use Rattle.network_rules.specs.ScanArcs.{arcs_at, arcs_more, arcs_stop}
use borrow.Author.Rules.{rules}
use Rattle.network_rules.proofs.rules.scan_block.Goals as goal

pub loop-e-init : goal.loop-e-init
loop-e-init c = (search rules, arcs_at c.requires.arcs_passed _ (search rules))

pub returns-then-bad_ends : goal.returns-then-bad_ends
returns-then-bad_ends c =
    let judged : c.bad_ends.result
    ≡ bad_arc (decode c.args.file.now)
    (arc_per * c.args.j + c.loop-e.e) =
    arc_judged c.requires.laid _ c.entry_in-arc.ensures.tail c.entry_in-arc.ensures.head c.entry_in-arc.ensures.count
    c.bad_ends.ensures in
    arcs_stop c.loop-e.invariant.1 _ (search rules)
    (sym judged ∙ c.if-bad_ends.true)

pub overflow_add-sum : goal.overflow_add-sum
overflow_add-sum c =
    omega (arith, (laid_small c.requires.laid).arcs_most)

pub loop-e-preserved : goal.loop-e-preserved
loop-e-preserved c =
    let judged : c.bad_ends.result
    ≡ bad_arc (decode c.args.file.now)
    (arc_per * c.args.j + c.loop-e.e) =
    arc_judged c.requires.laid _ c.entry_in-arc.ensures.tail c.entry_in-arc.ensures.head c.entry_in-arc.ensures.count
    c.bad_ends.ensures in (
      search rules,
      arcs_more c.loop-e.invariant.1 _ _ (sym judged ∙ c.if-bad_ends.false)
          c.entry_in-arc.ensures.count c.entry_in-arc.ensures.small (search rules),
    )

pub returns : goal.returns
returns c = arcs_at c.loop-e.invariant.1 _ (search rules)
