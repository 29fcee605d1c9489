-- `plan_rules::header::count_borders` meets its contract: a valid network is laid out and sound.
use Rattle.network.proofs.Valid.{valid_laid}
use Rattle.plan_rules.proofs.header.count_borders.Goals as goal

pub count_borders-requires-clause-laid : goal.count_borders-requires-clause-laid
count_borders-requires-clause-laid c = rw c.requires.l_value (valid_laid c.requires.valid_file)

pub count_borders-requires-clause-sound_network : goal.count_borders-requires-clause-sound_network
count_borders-requires-clause-sound_network c = c.requires.valid_file.sound
