-- `plan_flags::inside_words` meets its contract: the arcs passed have their words.
use mathlib.Core.Path.{◌≡◌}
use Prim.Native.Nat.{◌≤◌}
use lib.ListN.{length}
use Rattle.theory_loops.specs.Fill.{Filled}
use Rattle.network.specs.Decode.{decode}
use Rattle.plan_flags.specs.Words.{planned_word}
use Rattle.plan_flags.proofs.inside_words.Given as goal

abbrev pub invariant-loop-a : goal.invariant-loop-a
invariant-loop-a l = (l.a ≤ l.a-end) × (l.a-end ≡ l.l.arcs) × (l.a-end ≤ length l.initial.words)
    × Filled 0 l.a (planned_word (decode l.file) 0) l.initial.words l.words
