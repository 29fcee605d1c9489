-- Only the permitted arcs matter: two graphs that agree on the nodes, the period, which arcs are permitted,
-- and the ends and travel of these, have the same permitted paths, earliest arrivals (`earliest_agree`),
-- labels (`labels_agree`) and chosen path (`chosen_agree`). They may differ in every other arc, and in how
-- many arcs there are.
use mathlib.Core.{Path.◌≡◌, Logic.◌↔◌}
use Rattle.std.specs.Prelude.{true}
use Prim.Native.Nat.{ℕ, ◌<◌}
use Rattle.theory_paths.specs.Graph.{Graph, Permit}

-- a is a permitted arc.
abbrev pub Usable : Graph → Permit → ℕ → Type 0
Usable g p a = (a < g.arcs) × (p a ≡ true)

-- g with the permission p, and h with q
pub record Agree (g h : Graph) (p q : Permit) : Type 0 where
  pub nodes : g.nodes ≡ h.nodes
  pub period : g.period ≡ h.period
  pub usable : (a : ℕ) → Usable g p a ↔ Usable h q a
  pub tails : (a : ℕ) → Usable g p a → g.tail a ≡ h.tail a
  pub heads : (a : ℕ) → Usable g p a → g.head a ≡ h.head a
  pub travels : (a x : ℕ) → Usable g p a → x < g.period → g.travel a x ≡ h.travel a x
