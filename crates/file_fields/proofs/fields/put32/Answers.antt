-- `file_fields::fields::put32` meets its contract.
use native.Mathlib.Omega.{arith}
use mathlib.Core.Path.{◌∙◌}
use Rattle.file_fields.specs.Put.{put_part, four_bytes}
use Rattle.file_fields.proofs.fields.put32.Goals as goal

pub returns : goal.returns
returns c =
    let bytes = c.copy_from_slice.ensures.after ∙ c.to_le_bytes.ensures ∙ four_bytes _ in
    put_part 4 _ _ _ _ _ (omega arith) (omega arith) bytes
