-- `plan_encode::entries::put_flags` meets its contract: the words passed are put.
use Prim.Native.Nat.{◌<◌}
use native.Mathlib.Omega.{arith}
use Rattle.file_frames.specs.Laid.{put_none, put_more, put_end}
use Rattle.plan_encode.specs.Places.{flag_fits}
use borrow.Author.Rules.{rules}
use Rattle.plan_encode.proofs.entries.put_flags.Goals as goal

pub loop-a-init : goal.loop-a-init
loop-a-init c = (search rules, search rules, search put_none)

pub put64-requires : goal.put64-requires
put64-requires c =
    let m : c.loop-a.a < c.args.l.arcs = omega arith in
    omega (arith, flag_fits c.requires m)

pub loop-a-preserved : goal.loop-a-preserved
loop-a-preserved c = (search rules, search rules, search put_more)

pub returns : goal.returns
returns c = search put_end
