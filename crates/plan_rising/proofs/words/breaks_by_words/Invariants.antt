-- `plan_rising::words::breaks_by_words` meets its contract: the breaks of the first i words of each part are
-- counted.
use Rattle.std.proofs.Common.{◌≡◌, ◌≤◌}
use Rattle.plan_rising.specs.Words.{part_words, words_broken}
use Rattle.plan_rising.proofs.words.breaks_by_words.Given as goal

abbrev pub invariant-loop-i : goal.invariant-loop-i
invariant-loop-i l = (l.i ≤ part_words) × (l.breaks ≡ words_broken l.plan l.base l.i)
