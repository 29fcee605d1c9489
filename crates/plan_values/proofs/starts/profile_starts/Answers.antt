-- `plan_values::starts::profile_starts` meets its contract: the running sum is where the next profile starts,
-- and the entries passed are filled.
use Rattle.theory_loops.specs.Fill.{fills}
use Rattle.plan_values.specs.Starts.{starting}
use borrow.Author.Rules.{rules}
use Rattle.plan_values.proofs.starts.profile_starts.Goals as goal

pub loop-u-init : goal.loop-u-init
loop-u-init c = (search rules, search starting, search fills)

pub overflow_cast-starts : goal.overflow_cast-starts
overflow_cast-starts c = search starting

pub overflow_mul-i : goal.overflow_mul-i
overflow_mul-i c = search starting

pub overflow_add-i : goal.overflow_add-i
overflow_add-i c = search starting

pub point_count-sum-requires-clause-k_lt_profiles : goal.point_count-sum-requires-clause-k_lt_profiles
point_count-sum-requires-clause-k_lt_profiles c = search starting

pub overflow_add-sum : goal.overflow_add-sum
overflow_add-sum c = search starting

pub loop-u-preserved : goal.loop-u-preserved
loop-u-preserved c = (search rules, search starting, search fills)

pub returns : goal.returns
returns c = (search starting, search fills)
