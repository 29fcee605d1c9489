-- `file_forms::sound::is_sound_block` meets its contract: the check decides, or leaves the answer to the
-- form.
use Rattle.file_blocks.specs.Place.{block_in}
use Rattle.file_forms.specs.SoundBlock.{check_decides, form_decides}
use Rattle.file_forms.proofs.sound.is_sound_block.Goals as goal

pub is_good-requires : goal.is_good-requires
is_good-requires c = search block_in

pub returns-then-is_good : goal.returns-then-is_good
returns-then-is_good c = search form_decides

pub returns-else-is_good : goal.returns-else-is_good
returns-else-is_good c = search check_decides
