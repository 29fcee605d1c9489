-- `plan_validate::well_formed::is_well_formed` meets its contract: a header with the network's numbers is
-- within the limits, and a plan of the length that it calls for is laid out.
use mathlib.Core.{Path.sym, Bool.true≢false}
use native.Mathlib.Omega.{arith}
use Rattle.theory_loops.specs.First.{told}
use Rattle.plan.specs.{PlanHeader.PlanWithin, PlanDecode.PlanLaid, PlanMatch.header_within}
use Rattle.plan.specs.PlanValidate.{blocks_few, now_laid}
use Rattle.plan_validate.specs.Good.{sound_valid, matching_at}
use Rattle.plan_validate.proofs.well_formed.is_well_formed.Goals as goal

pub returns-then-not-formed : goal.returns-then-not-formed
returns-then-not-formed c = λ e. absurd (true≢false (sym e))

pub returns-then-not-matches : goal.returns-then-not-matches
returns-then-not-matches c = λ e. absurd (true≢false (sym e))

pub layout-p-requires : goal.layout-p-requires
layout-p-requires c =
    let within : PlanWithin c.header_at-k.result =
    header_within c.requires.valid_file c.args.plan.now _ c.header_at-k.ensures _
    c.requires.borders_value _ c.is_matching-matches.ensures (c.if-not-matches.false) in
    within

pub overflow_mul-p : goal.overflow_mul-p
overflow_mul-p c =
    let within : PlanWithin c.header_at-k.result =
    header_within c.requires.valid_file c.args.plan.now _ c.header_at-k.ensures _
    c.requires.borders_value _ c.is_matching-matches.ensures (c.if-not-matches.false) in
    omega (arith, blocks_few c.args.plan.now _ _ c.layout-p.ensures within)

pub returns-then-plan-p : goal.returns-then-plan-p
returns-then-plan-p c = λ e. absurd (true≢false (sym e))

pub is_sound-requires : goal.is_sound-requires
is_sound-requires c =
    let within : PlanWithin c.header_at-k.result =
    header_within c.requires.valid_file c.args.plan.now _ c.header_at-k.ensures _
    c.requires.borders_value _ c.is_matching-matches.ensures (c.if-not-matches.false) in
    let laid : PlanLaid c.args.plan.now c.layout-p.result =
    now_laid c.args.plan.now _ _ c.layout-p.ensures within
    c.header_at-k.ensures c.if-plan-p.false in
    laid

pub returns : goal.returns
returns c =
    let within : PlanWithin c.header_at-k.result =
    header_within c.requires.valid_file c.args.plan.now _ c.header_at-k.ensures _
    c.requires.borders_value _ c.is_matching-matches.ensures (c.if-not-matches.false) in
    let laid : PlanLaid c.args.plan.now c.layout-p.result =
    now_laid c.args.plan.now _ _ c.layout-p.ensures within
    c.header_at-k.ensures c.if-plan-p.false in
    λ e. sound_valid laid c.requires.valid_file
    (told _ _ _ c.is_first_formed-formed.ensures (c.if-not-formed.false))
    (matching_at _ c.requires.borders_value c.header_at-k.ensures
    (told _ _ _ c.is_matching-matches.ensures (c.if-not-matches.false)))
    (c.is_sound.ensures e)
