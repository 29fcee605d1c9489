-- `c_replies::numbers::write_lists` meets its contract.
use Rattle.c_trip.specs.Writing.{replies}
use Rattle.c_replies.specs.Numbers.{visit_number, visit_numbers}
use native.Mathlib.Omega.{arith}
use Prim.Native.Nat.{◌≤◌}
use Rattle.network.specs.Limits.{most_roads}
use Rattle.c_replies.proofs.numbers.write_lists.Goals as goal

pub overflow_cast-numbers : goal.overflow_cast-numbers
overflow_cast-numbers c = let l : c.in-Ok.a.count ≤ most_roads = search replies in omega arith

pub returns-in-Ok-clause-code : goal.returns-in-Ok-clause-code
returns-in-Ok-clause-code c = search visit_number

pub returns-in-Ok-clause-numbers : goal.returns-in-Ok-clause-numbers
returns-in-Ok-clause-numbers c = search visit_numbers

pub returns-in-Err-clause-code : goal.returns-in-Err-clause-code
returns-in-Err-clause-code c = search visit_number

pub returns-in-Err-clause-numbers : goal.returns-in-Err-clause-numbers
returns-in-Err-clause-numbers c = search visit_numbers
