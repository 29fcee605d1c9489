-- `file_forms::reader::first_bad_sum` meets its contract: a turn goes past a right block, or has ended.
use Rattle.std.proofs.Common.{◌≡◌, sym, ◌∙◌, true, arith, rules}
use Rattle.theory_loops.specs.First.{none_yet}
use Rattle.file_forms.specs.Read.{good_at, bad, goes_on, stops}
use Rattle.file_forms.proofs.reader.first_bad_sum.Goals as goal

pub loop-blocks-init : goal.loop-blocks-init
loop-blocks-init c =
    rw (c.new-blocks.ensures.0, c.new-blocks.ensures.1) (search rules, omega arith, none_yet (bad c.args.file.now))

pub loop-blocks-preserved : goal.loop-blocks-preserved
loop-blocks-preserved c =
    let i = c.loop-blocks.invariant in
    let e : good_at c.args.file.now c.loop-blocks.blocks.at ≡ true =
    rw (← i.0) (sym c.next_is_good.ensures ∙ c.loop-blocks-test.true) in
    let h = goes_on c.args.file.now c.loop-blocks.blocks.at i.2 e in
    rw (c.past-blocks.ensures.0, c.past-blocks.ensures.1) (i.0, omega (arith, h.0), h.1)

pub returns : goal.returns
returns c =
    let i = c.loop-blocks.invariant in
    stops c.args.file.now c.loop-blocks.blocks.at i.2 i.1
    (rw (← i.0) (sym c.next_is_good.ensures ∙ c.loop-blocks-test.false))
