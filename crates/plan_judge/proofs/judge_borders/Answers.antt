-- `plan_judge::judge_borders` meets its contract.
use mathlib.Core.Path.{refl}
use Rattle.plan_judge.proofs.judge_borders.Goals as goal

pub first_failing-requires-clause-equipped : goal.first_failing-requires-clause-equipped
first_failing-requires-clause-equipped c = c.requires.equipped

pub first_failing-requires-clause-briefs : goal.first_failing-requires-clause-briefs
first_failing-requires-clause-briefs c = c.fill_briefs.ensures

pub first_failing-requires-clause-lent : goal.first_failing-requires-clause-lent
first_failing-requires-clause-lent c = record {
  starts = refl;
  least = refl;
  own_s = refl;
  own_v = refl;
  arc_s = refl;
  arc_v = refl;
  head_s = refl;
  head_v = refl;
  bytes = refl;
}

pub first_failing-requires-clause-finds_value : goal.first_failing-requires-clause-finds_value
first_failing-requires-clause-finds_value c = c.requires.finds_value

pub returns : goal.returns
returns c = c.first_failing.ensures
