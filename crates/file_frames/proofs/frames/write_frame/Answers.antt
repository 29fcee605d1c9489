-- `file_frames::frames::write_frame` meets its contract: a head, and zeros behind it.
use Rattle.file_frames.specs.Framed.{frame_written}
use Rattle.file_frames.proofs.frames.write_frame.Goals as goal

pub returns : goal.returns
returns c = search frame_written
