-- Where the tables of a plan stand in its file: the header in block 0, then the flag words of the arcs (kind
-- 6), the counts of the profiles' points (kind 7) and the points (kind 8), each a run of blocks of its own.
use Rattle.std.specs.Prelude.{ℕ, ◌+◌, ◌*◌, ◌≤◌}
use Rattle.std.proofs.Common.{arith}
use Rattle.file_blocks.specs.Place.{blocks}
use Rattle.file_blocks.specs.Kind.{flag_kind, flag_size, flag_per, count_kind, count_size, count_per}
use Rattle.file_blocks.specs.Kind.{profile_point_kind, profile_point_size, profile_point_per}
use Rattle.file_blocks.specs.declared.place.Run.{Run}
use Rattle.plan.specs.declared.header.{PlanHeader.PlanHeader, PlanLayout.PlanLayout}
use Rattle.plan.specs.{PlanLimits.most_plan_blocks, PlanHeader.PlanWithin, PlanHeader.profiles_few}

-- a profile for each border and each node
abbrev pub profile_count : PlanHeader → ℕ
profile_count h = h.borders * h.nodes

-- the first block of the counts and of the points, and how many blocks there are
abbrev pub count_block : PlanHeader → ℕ
count_block h = 1 + blocks flag_per h.arcs

abbrev pub plan_point_block : PlanHeader → ℕ
plan_point_block h = count_block h + blocks count_per (profile_count h)

abbrev pub plan_blocks : PlanHeader → ℕ
plan_blocks h = plan_point_block h + blocks profile_point_per h.points

unfoldable pub plan_layout_of : PlanHeader → PlanLayout
plan_layout_of h = record {
  period = h.period;
  nodes = h.nodes;
  arcs = h.arcs;
  cells = h.cells;
  borders = h.borders;
  profiles = profile_count h;
  points = h.points;
  countblock = count_block h;
  pointblock = plan_point_block h;
  blocks = plan_blocks h;
}

-- the runs: of the flag words, of the profiles' counts and of their points
abbrev pub flags_run : PlanLayout → Run
flags_run l = record {
  from = 1;
  kind = record { number = flag_kind; size = flag_size; per = flag_per };
  count = l.arcs;
}

abbrev pub counts_run : PlanLayout → Run
counts_run l = record {
  from = l.countblock;
  kind = record { number = count_kind; size = count_size; per = count_per };
  count = l.profiles;
}

abbrev pub points_run : PlanLayout → Run
points_run l = record {
  from = l.pointblock;
  kind = record { number = profile_point_kind; size = profile_point_size; per = profile_point_per };
  count = l.points;
}

-- at most 13,718 blocks
pub plan_few : {h : PlanHeader} → PlanWithin h → plan_blocks h ≤ most_plan_blocks
plan_few w = omega (arith, profiles_few w)
