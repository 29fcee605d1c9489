-- `file_fields::fields::put16` meets its contract.
use native.Mathlib.Omega.{arith}
use mathlib.Core.Path.{◌∙◌}
use Rattle.file_fields.specs.Put.{put_part, two_bytes}
use Rattle.file_fields.proofs.fields.put16.Goals as goal

pub returns : goal.returns
returns c =
    let bytes = c.copy_from_slice.ensures.after ∙ c.to_le_bytes.ensures ∙ two_bytes _ in
    put_part 2 _ _ _ _ _ (omega arith) (omega arith) bytes
