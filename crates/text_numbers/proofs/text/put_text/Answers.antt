-- `text_numbers::text::put_text` meets its contract.
use Rattle.std.proofs.Common.{rules}
use Rattle.text_numbers.specs.Text.{stored_part}
use Rattle.text_numbers.proofs.text.put_text.Goals as goal

pub returns : goal.returns
returns c =
    rw c.copy_from_slice.ensures.after
    (stored_part c.args.text.now c.args.out.now c.args.at _ (search rules) (search rules))
