-- `file_forms::form::is_unformed` meets its contract: the block stands in the file, and its entries before
-- its check.
use Rattle.file_forms.specs.Form.{run_unformed}
use Rattle.file_blocks.specs.Place.{block_starts, block_in, block_fits}
use Rattle.file_forms.proofs.form.is_unformed.Goals as goal

pub entries_in-requires : goal.entries_in-requires
entries_in-requires c = search block_starts

pub is_block_of-requires : goal.is_block_of-requires
is_block_of-requires c = (
  search block_in,
  block_fits _ _ _ _ _ c.requires.run_in_file _ c.requires.j_bound c.entries_in.result c.entries_in.ensures,
)

pub returns : goal.returns
returns c = search run_unformed
