-- The numbers in a plan file's first block, and the limits that they keep once they are a network's.
use Rattle.std.specs.Prelude.{List, ℕ, ◌*◌, ◌≤◌}
use Rattle.std.proofs.Common.{mul-le-mul}
use Rattle.file_fields.specs.Fields.{le16, le32}
use Rattle.network.specs.Limits.{most_period, most_nodes, most_arcs, most_cells}
use Rattle.plan.specs.declared.header.PlanHeader.{PlanHeader}
use Rattle.plan.specs.PlanLimits.{most_profile_points, most_profiles}

abbrev pub plan_header_at : List ℕ → PlanHeader
plan_header_at file = record {
  number = le32 file 8;
  period = le16 file 12;
  nodes = le16 file 14;
  arcs = le16 file 16;
  cells = le16 file 18;
  borders = le16 file 20;
  points = le32 file 24;
}

-- the limits of a network (`WithinLimits` of the crate `network`), no more borders than nodes, and at most
-- 1,048,576 points
pub record PlanWithin (h : PlanHeader) : Type 0 where
  pub period_some : 1 ≤ h.period
  pub period_most : h.period ≤ most_period
  pub nodes_some : 1 ≤ h.nodes
  pub nodes_most : h.nodes ≤ most_nodes
  pub arcs_most : h.arcs ≤ most_arcs
  pub cells_some : 1 ≤ h.cells
  pub cells_most : h.cells ≤ most_cells
  pub borders_most : h.borders ≤ most_nodes
  pub points_most : h.points ≤ most_profile_points

-- so the profiles, one for each border and each node, are few
pub profiles_few : {h : PlanHeader} → PlanWithin h → h.borders * h.nodes ≤ most_profiles
profiles_few w = mul-le-mul w.borders_most w.nodes_most
