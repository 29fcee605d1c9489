-- A search over the arcs with the flag of the target's cell finds the earliest arrival over all arcs.
use Rattle.std.specs.Prelude.{ℕ, ◌≤◌, ◌<◌}
use mathlib.Core.Bool.{Bool}
use Rattle.theory_paths.specs.Graph.{Graph, Lawful, all, EarliestArrival}
use Rattle.theory_paths.specs.Earliest.{never, Exact}
use Rattle.theory_paths.specs.Flags.{flagged, EnoughFlags}
use Rattle.theory_paths.proofs.Flags.{arc_flags}

module _ {g : Graph} (ok : Lawful g) {cell : ℕ → ℕ} {flag : ℕ → ℕ → Bool}
    (enough : EnoughFlags g cell flag) where
  -- so a search over the flagged arcs, stopped when t's label is settled, finds the earliest arrival over all
  -- arcs
  pub flagged_search : {s x t B : ℕ} {L : ℕ → ℕ} → Exact g (flagged flag (cell t)) s x L B → L t ≤ B
      → L t < never → EarliestArrival g all s x t (L t)
  flagged_search {t = t} e h n = (arc_flags ok enough).0 (e.earliest t h n)
