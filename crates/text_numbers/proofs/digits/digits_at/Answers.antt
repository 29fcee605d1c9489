-- `text_numbers::digits::digits_at` meets its contract.
use Rattle.std.proofs.Common.{◌+◌, ◌-◌, arith, rules}
use Rattle.text_numbers.specs.Digits.{digits_none, digits_next}
use Rattle.text_numbers.proofs.digits.digits_at.Goals as goal

pub loop-byte-init : goal.loop-byte-init
loop-byte-init c = (search rules, search rules, search digits_none)

pub loop-byte-preserved : goal.loop-byte-preserved
loop-byte-preserved c = (
  search rules,
  search rules,
  digits_next _ _ c.loop-byte.byte-index _ _ (c.args.at + 9 - c.args.at) _ c.loop-byte.invariant.2
      c.loop-byte.invariant.0 (omega arith) (omega arith) (omega arith) c.digit-next.ensures (search rules),
)
