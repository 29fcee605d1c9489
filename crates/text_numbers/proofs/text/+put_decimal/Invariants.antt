-- `text_numbers::text::put_decimal` meets its contract: the number falls with each digit.
use Rattle.text_numbers.proofs.text.+put_decimal.Given as goal

abbrev pub decreases-put_decimal : goal.decreases-put_decimal
decreases-put_decimal l = l.n
