-- `plan_make::make::write_plan` meets its contract.
use Rattle.network.specs.Decode.{decode}
use Rattle.plan_encode.specs.Places.{plan_room_lem}
use Rattle.plan_rounds.specs.Rounds.{put_kept}
use Rattle.plan_make.specs.Making.{room_same, held_by, flagged_room, plan_made_lem}
use Rattle.plan_make.proofs.make.write_plan.Goals as goal

pub put_borders-requires-clause-held : goal.put_borders-requires-clause-held
put_borders-requires-clause-held c = let n = decode c.args.borders.now.roads.file.now in
    let room = room_same (plan_room_lem c.requires.0) c.write_frames.ensures.long in
    (held_by c.requires.0 n c.requires.1, room)

pub put_borders-requires-clause-work_len : goal.put_borders-requires-clause-work_len
put_borders-requires-clause-work_len c = (c.requires.2, c.inside_words.ensures)

pub put_flags-requires : goal.put_flags-requires
put_flags-requires c =
    put_kept (room_same (plan_room_lem c.requires.0) c.write_frames.ensures.long)
    c.put_borders.ensures

pub write_checks-requires : goal.write_checks-requires
write_checks-requires c =
    flagged_room c.requires.0 c.write_frames.ensures
    c.put_borders.ensures c.put_flags.ensures

pub returns : goal.returns
returns c =
    plan_made_lem (decode c.args.borders.now.roads.file.now) _ _ _ _ _ _ c.requires.0 c.requires.1
    c.write_frames.ensures c.put_borders.ensures c.put_flags.ensures
    c.write_checks.ensures
