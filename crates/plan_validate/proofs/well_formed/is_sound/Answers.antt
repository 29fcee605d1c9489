-- `plan_validate::well_formed::is_sound` meets its contract.
use mathlib.Core.{Path.sym, Bool.true≢false}
use Rattle.plan_validate.specs.Good.{plan_sound}
use Rattle.plan_validate.proofs.well_formed.is_sound.Goals as goal

pub returns-then-not-front : goal.returns-then-not-front
returns-then-not-front c = λ e. absurd (true≢false (sym e))

pub returns-then-first_bad_word-l : goal.returns-then-first_bad_word-l
returns-then-first_bad_word-l c = λ e. absurd (true≢false (sym e))

pub returns : goal.returns
returns c = λ e. plan_sound c.requires _ (c.is_sound_front-front.ensures (c.if-not-front.false))
    c.first_bad_word.ensures c.if-first_bad_word-l.false (c.is_rising.ensures e)
