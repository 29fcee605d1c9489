-- `sheet_text::answer::put_asking` meets its contract.
use native.Mathlib.Omega.{arith}
use Rattle.text_numbers.specs.Number.{decimal_few}
use Rattle.sheet_text.specs.TripStored.{asking_stored}
use Rattle.sheet_text.proofs.answer.put_asking.Goals as goal

pub put_numbers-requires : goal.put_numbers-requires
put_numbers-requires c =
    omega (arith, decimal_few c.args.a.from)

pub returns-clause-text : goal.returns-clause-text
returns-clause-text c = search asking_stored

pub returns-clause-room : goal.returns-clause-room
returns-clause-room c = omega (
  arith,
  decimal_few
      c.args.a.from,
)
