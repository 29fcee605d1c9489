-- `file_frames::frames::frame_run` meets its contract: the blocks passed have their frames.
use Rattle.file_frames.specs.Framed.{frame_starts, frame_start, frame_more, frame_end}
use borrow.Author.Rules.{rules}
use Rattle.file_frames.proofs.frames.frame_run.Goals as goal

pub loop-j-init : goal.loop-j-init
loop-j-init c = (search rules, search rules, search frame_start)

pub entries_in-entries-requires : goal.entries_in-entries-requires
entries_in-entries-requires c = search frame_starts

pub loop-j-preserved : goal.loop-j-preserved
loop-j-preserved c = (search rules, search rules, search frame_more)

pub returns : goal.returns
returns c = search frame_end
