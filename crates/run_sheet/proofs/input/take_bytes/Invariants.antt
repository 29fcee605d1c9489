-- The bytes up to the one that comes are taken.
use Rattle.std.proofs.Common.{◌≡◌, take}
use Rattle.sheet.specs.Reading.{stepped_all}
use Rattle.run_sheet.proofs.input.take_bytes.Given as goal

abbrev pub invariant-loop-byte : goal.invariant-loop-byte
invariant-loop-byte g l = l.reading ≡ stepped_all l.fn.before (take l.byte-index l.bytes)
