-- `sheet_text::answer::put_answer` meets its contract.
use Prim.Native.Nat.{◌≤◌}
use native.Mathlib.Omega.{arith}
use Rattle.network.specs.Limits.{most_roads}
use Rattle.sheet_text.specs.TripStored.{count_arrived, answer_arrived, answer_refused}
use borrow.Author.Rules.{rules}
use Rattle.sheet_text.proofs.answer.put_answer.Goals as goal

pub put_arrival-requires : goal.put_arrival-requires
put_arrival-requires c =
    let k : c.in-Ok.a.count ≤ most_roads = search count_arrived in
    (search rules, search rules, k, omega arith)

pub returns-in-Ok-clause-text : goal.returns-in-Ok-clause-text
returns-in-Ok-clause-text c = search answer_arrived

pub returns-in-Err-clause-text : goal.returns-in-Err-clause-text
returns-in-Err-clause-text c = search answer_refused
