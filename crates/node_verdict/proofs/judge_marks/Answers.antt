-- `node_verdict::judge_marks` meets its contract: each branch by the law of its bit, whichever it is.
use Rattle.node_verdict.specs.Marks.{marked_21, marked_22, marked_23, marked_24, marked_25}
use Rattle.node_verdict.proofs.judge_marks.Goals as goal

ruleset marks = (marked_21, marked_22, marked_23, marked_24, marked_25)

pub returns-then-off-ne0 : goal.returns-then-off-ne0
returns-then-off-ne0 c = search marks

pub returns-then-off-ne0-2 : goal.returns-then-off-ne0-2
returns-then-off-ne0-2 c = search marks

pub returns-then-off-ne0-3 : goal.returns-then-off-ne0-3
returns-then-off-ne0-3 c = search marks

pub returns-then-off-ne0-4 : goal.returns-then-off-ne0-4
returns-then-off-ne0-4 c = search marks

pub returns : goal.returns
returns c = search marks
