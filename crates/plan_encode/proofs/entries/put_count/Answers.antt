-- `plan_encode::entries::put_count` meets its contract: the entry stands in the list.
use native.Mathlib.Omega.{arith}
use Rattle.file_frames.specs.Laid.{put_at}
use Rattle.plan_encode.specs.Places.{count_fits}
use Rattle.plan_encode.proofs.entries.put_count.Goals as goal

pub put16-requires : goal.put16-requires
put16-requires c = omega
    (arith, count_fits c.requires.plan_room c.requires.q_lt_profiles)

pub returns : goal.returns
returns c = search put_at
