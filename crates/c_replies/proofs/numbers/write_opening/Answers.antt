-- `c_replies::numbers::write_opening` meets its contract.
use Rattle.c_replies.specs.Numbers.{case_number, case_numbers}
use Rattle.network.specs.Answer.{opening_says}
use Rattle.c_replies.proofs.numbers.write_opening.Goals as goal

pub returns-in-Ok-clause-code : goal.returns-in-Ok-clause-code
returns-in-Ok-clause-code c = search (case_number opening_says)

pub returns-in-Ok-clause-numbers : goal.returns-in-Ok-clause-numbers
returns-in-Ok-clause-numbers c = search (case_numbers opening_says)

pub returns-in-Err-clause-code : goal.returns-in-Err-clause-code
returns-in-Err-clause-code c = search (case_number opening_says)

pub returns-in-Err-clause-numbers : goal.returns-in-Err-clause-numbers
returns-in-Err-clause-numbers c = search (case_numbers opening_says)
