-- `search_path::shown_label` meets its contract: each way through the branches is a case of `shown_of`.
use borrow.Author.Tests.{lt-ltb, le-ltb, eq-eqb, ne_eqb}
use Rattle.search_path.proofs.shown_label.Goals as goal

pub returns-then-label-limit : goal.returns-then-label-limit
returns-then-label-limit c = rw (lt-ltb _ _ c.if-label-limit.true)

pub returns-then-v-target : goal.returns-then-v-target
returns-then-v-target c = rw (le-ltb _ _ c.if-label-limit.false, eq-eqb _ _ c.if-v-target.true)

pub returns : goal.returns
returns c = rw (le-ltb _ _ c.if-label-limit.false, ne_eqb _ _ c.if-v-target.false)
