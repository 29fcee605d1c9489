-- `c_replies::numbers::write_number` meets its contract.
use Rattle.file_refusals.specs.Says.{number_says}
use Rattle.c_replies.specs.Numbers.{case_number, case_numbers}
use Rattle.c_replies.proofs.numbers.write_number.Goals as goal

pub returns-in-Ok-clause-code : goal.returns-in-Ok-clause-code
returns-in-Ok-clause-code c = search (case_number number_says)

pub returns-in-Ok-clause-numbers : goal.returns-in-Ok-clause-numbers
returns-in-Ok-clause-numbers c = search (case_numbers number_says)

pub returns-in-Err-clause-code : goal.returns-in-Err-clause-code
returns-in-Err-clause-code c = search (case_number number_says)

pub returns-in-Err-clause-numbers : goal.returns-in-Err-clause-numbers
returns-in-Err-clause-numbers c = search (case_numbers number_says)
