-- `day_merge::bits` meets its contract.
use native.Mathlib.Omega.{arith}
use Rattle.day_merge.specs.Merged.{bits_less, bits_same, bits_none}
use Rattle.day_merge.proofs.bits.Goals as goal

pub returns-then-g-o : goal.returns-then-g-o
returns-then-g-o c = bits_less _ _ _ (omega arith)

pub returns-then-g-o-2 : goal.returns-then-g-o-2
returns-then-g-o-2 c = bits_same _ _ _ c.if-g-o-2.true

pub returns : goal.returns
returns c = bits_none _ _ _ (omega arith) c.if-g-o-2.false
