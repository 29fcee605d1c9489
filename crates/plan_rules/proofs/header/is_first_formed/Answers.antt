-- `plan_rules::header::is_first_formed` meets its contract: the form decides, or leaves the answer to
-- the zero bits.
use Rattle.plan.specs.PlanValidate.{form_decides, bits_decide}
use Rattle.plan_rules.proofs.header.is_first_formed.Goals as goal

pub returns-then-is_block_of : goal.returns-then-is_block_of
returns-then-is_block_of c = search bits_decide

pub returns-else-is_block_of : goal.returns-else-is_block_of
returns-else-is_block_of c = search form_decides
