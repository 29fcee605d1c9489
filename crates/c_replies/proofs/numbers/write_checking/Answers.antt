-- `c_replies::numbers::write_checking` meets its contract.
use Rattle.c_replies.specs.Numbers.{case_number, report_numbers}
use Rattle.plan_check.specs.Answer.{checking_says}
use Rattle.c_replies.proofs.numbers.write_checking.Goals as goal

pub returns-in-Ok-clause-code : goal.returns-in-Ok-clause-code
returns-in-Ok-clause-code c = search (case_number checking_says)

pub returns-in-Ok-clause-numbers : goal.returns-in-Ok-clause-numbers
returns-in-Ok-clause-numbers c = search report_numbers

pub returns-in-Err-clause-code : goal.returns-in-Err-clause-code
returns-in-Err-clause-code c = search (case_number checking_says)

pub returns-in-Err-clause-numbers : goal.returns-in-Err-clause-numbers
returns-in-Err-clause-numbers c = search report_numbers
