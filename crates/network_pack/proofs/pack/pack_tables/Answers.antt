-- `network_pack::pack::pack_tables` meets its contract.
use Rattle.std.proofs.lemmas.Result.{err_from_is_err_and}
use Rattle.network_pack.specs.Pack.{rules_sound, rules_faulty}
use Rattle.network_pack.proofs.pack.pack_tables.Goals as goal

pub returns-in_err-judge_tables : goal.returns-in_err-judge_tables
returns-in_err-judge_tables c =
    let p = err_from_is_err_and c.from_residual.result c.from_residual.ensures.1 in
    rw (p.1, p.2) (search (rules_faulty, c.judge_tables.ensures, c.in_err-judge_tables.was))

pub returns : goal.returns
returns c = search (rules_sound, c.judge_tables.ensures, c.in_ok-judge_tables.was)
