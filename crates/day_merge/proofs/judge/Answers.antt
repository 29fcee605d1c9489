-- `day_merge::judge` meets its contract.

use Rattle.day_merge.proofs.judge.Goals as goal

pub returns : goal.returns
returns c = cc
