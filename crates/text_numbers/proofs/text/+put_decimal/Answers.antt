-- `text_numbers::text::put_decimal` meets its contract: the last digit stands behind those before it.
use native.Mathlib.Omega.{arith}
use Prim.Native.Nat.{◌/◌}
use Rattle.text_numbers.specs.Number.{stored_digit, stored_digits, decimal_nine}
use Rattle.text_numbers.proofs.text.+put_decimal.Goals as goal

pub returns-then-n-lt10 : goal.returns-then-n-lt10
returns-then-n-lt10 t c = search stored_digit

pub bounds-out-last : goal.bounds-out-last
bounds-out-last t c = omega (arith, decimal_nine (c.args.n / 10) (omega arith))

pub overflow_add-result-2 : goal.overflow_add-result-2
overflow_add-result-2 t c = omega (arith, decimal_nine (c.args.n / 10) (omega arith))

pub returns : goal.returns
returns t c = search stored_digits
