-- `network_tables::rules::judge_tables` meets its contract.
use Rattle.network_tables.specs.Cut.{now_cut, cut_judged}
use Rattle.network_tables.proofs.rules.judge_tables.Goals as goal

pub judge-requires : goal.judge-requires
judge-requires c = now_cut c.requires

pub returns : goal.returns
returns c = cut_judged c.requires c.judge.ensures
