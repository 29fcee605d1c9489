-- `plan_encode::frames::write_frames` meets its contract: frames, and the header's entry put into the first.
use native.Mathlib.Omega.{arith}
use Rattle.plan_encode.specs.Places.{laid_by, header_room, flags_room, counts_room, points_room}
use Rattle.plan_encode.specs.Frames.{framed}
use Rattle.plan_encode.proofs.frames.write_frames.Goals as goal

pub frame_run-requires : goal.frame_run-requires
frame_run-requires c = header_room c.requires (omega arith)

pub frame_run-requires-2 : goal.frame_run-requires-2
frame_run-requires-2 c =
    rw c.flags_run.ensures (flags_room c.requires (omega arith))

pub frame_run-requires-3 : goal.frame_run-requires-3
frame_run-requires-3 c =
    rw c.counts_run.ensures (counts_room c.requires (omega arith))

pub frame_run-requires-4 : goal.frame_run-requires-4
frame_run-requires-4 c =
    rw c.points_run.ensures (points_room c.requires (omega arith))

pub put_header-requires-clause-plan_within : goal.put_header-requires-clause-plan_within
put_header-requires-clause-plan_within c = c.requires.within

pub put_header-requires-clause-number_bound : goal.put_header-requires-clause-number_bound
put_header-requires-clause-number_bound c = (c.requires.number_fits, omega (arith, laid_by c.requires))

pub returns : goal.returns
returns c =
    let f = rw c.flags_run.ensures at c.frame_run-2.ensures in
    let g = rw c.counts_run.ensures at c.frame_run-3.ensures in
    let h = rw c.points_run.ensures at c.frame_run-4.ensures in
    search framed
