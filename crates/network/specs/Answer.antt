-- What Open answers, in document 01's terms: the header's numbers.
use Rattle.std.specs.Prelude.{[], ◌∷◌, Result, Ok, Err}
use Rattle.file_refusals.specs.declared.Refusal.{Refusal}
use Rattle.network.specs.declared.header.Header.{Header}
use Rattle.file_refusals.specs.Says.{Says, answers, refuses}

abbrev pub opening_says : Result Header Refusal → Says
opening_says (Ok h) =
    answers (h.number ∷ h.period ∷ h.nodes ∷ h.arcs ∷ h.cells ∷ h.points ∷ h.hours ∷ [])
opening_says (Err r) = refuses 7 r
