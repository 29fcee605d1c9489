-- Travels compared, never being more than any number.
use Rattle.std.specs.Prelude.{Bool, true, false, eqb, ltb}
use Rattle.theory_paths.specs.Profiles.{Travel, unreachable, ticks}

abbrev pub same : Travel → Travel → Bool
same unreachable unreachable = true
same unreachable (ticks d) = false
same (ticks c) unreachable = false
same (ticks c) (ticks d) = eqb c d

abbrev pub less : Travel → Travel → Bool
less unreachable t = false
less (ticks c) unreachable = true
less (ticks c) (ticks d) = ltb c d

abbrev pub is_number : Travel → Bool
is_number unreachable = false
is_number (ticks d) = true
