-- `plan_rising::progress::advance` meets its contract: `Walked` holds before each block.
use Rattle.std.proofs.Common.{refl, arith}
use Rattle.plan.specs.PlanDecode.{points_stored}
use Rattle.plan_rising.specs.Progress.{next_sound}
use mathlib.Core.Path.{ap}
use mathlib.Core.Bool.{not}
use Rattle.plan_rising.proofs.progress.advance.Goals as goal

pub loop-j-init : goal.loop-j-init
loop-j-init c = (c.requires.walked, refl, c.requires.done_le_until.0)

pub is_sound_block-sound-requires-clause-run_in_file : goal.is_sound_block-sound-requires-clause-run_in_file
is_sound_block-sound-requires-clause-run_in_file c =
    rw c.points_run.ensures (points_stored c.requires.plan_laid)

pub is_sound_block-sound-requires-clause-j_bound : goal.is_sound_block-sound-requires-clause-j_bound
is_sound_block-sound-requires-clause-j_bound c = rw c.points_run.ensures (omega arith)

pub returns-then-not-sound : goal.returns-then-not-sound
returns-then-not-sound c = c.loop-j.invariant.0

pub step-next-requires-clause-plan_laid : goal.step-next-requires-clause-plan_laid
step-next-requires-clause-plan_laid c = c.requires.plan_laid

pub step-next-requires-clause-walked : goal.step-next-requires-clause-walked
step-next-requires-clause-walked c = c.loop-j.invariant.0

pub step-next-requires-clause-done_bound : goal.step-next-requires-clause-done_bound
step-next-requires-clause-done_bound c = omega arith

pub step-next-requires-clause-done_value : goal.step-next-requires-clause-done_value
step-next-requires-clause-done_value c =
    let e = rw c.points_run.ensures at c.is_sound_block-sound.ensures in
    next_sound c.loop-j.invariant.0 _ _ c.loop-j.invariant.1 e (ap not c.if-not-sound.false)

pub loop-j-preserved : goal.loop-j-preserved
loop-j-preserved c = let (w, e) = c.step-next.ensures in (w, omega arith, omega arith)

pub returns : goal.returns
returns c = c.loop-j.invariant.0
