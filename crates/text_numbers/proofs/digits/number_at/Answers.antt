-- `text_numbers::digits::number_at` meets its contract.
use Rattle.text_numbers.specs.Digits.{digits_read}
use Rattle.std.proofs.Common.{rules}
use Rattle.text_numbers.proofs.digits.number_at.Goals as goal

pub returns-then-first-gt9 : goal.returns-then-first-gt9
returns-then-first-gt9 c = search (rules, digits_read)

pub returns-then-second-gt9 : goal.returns-then-second-gt9
returns-then-second-gt9 c = search (rules, digits_read)

pub returns-then-third-gt9 : goal.returns-then-third-gt9
returns-then-third-gt9 c = search (rules, digits_read)

pub returns-then-fourth-gt9 : goal.returns-then-fourth-gt9
returns-then-fourth-gt9 c = search (rules, digits_read)

pub returns-then-digit-gt9 : goal.returns-then-digit-gt9
returns-then-digit-gt9 c = search (rules, digits_read)
