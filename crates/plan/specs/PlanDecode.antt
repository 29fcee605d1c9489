-- The plan that a file holds, field by field, and the laws by which code reads it in place.
-- Every list of bytes decodes to some plan; what makes it a plan file is validation.
use mathlib.Core.{Path.◌≡◌, Path.refl, Path.sym, List.List}
use Rattle.std.specs.Prelude.{ℕ, ◌*◌, ◌^◌, ◌≤◌, ◌<◌}
use Rattle.std.proofs.Common.{arith}
use lib.{ListN.length, ListN.get_or, Dec.lit<, Dec.lit≤}
use Rattle.theory_loops.specs.Fill.{tab, length_tab}
use Rattle.file_fields.specs.Fields.{le16, le32, le64}
use Rattle.file_blocks.specs.Kind.{flag_per, flag_size, count_per, count_size, profile_point_per, profile_point_size}
use Rattle.file_blocks.specs.{Table.entry16, Table.entry32, Table.entry64, Table.entry_is, Laid.LaidOut}
use Rattle.file_blocks.specs.Place.{RunInFile, EntryInFile, entry_stands}
use Rattle.network.specs.Limits.{most_period, most_nodes, most_arcs, most_cells}
use Rattle.plan.specs.declared.header.{PlanHeader.PlanHeader, PlanLayout.PlanLayout}
use Rattle.plan.specs.PlanLimits.{most_profile_points, most_profiles, most_plan_blocks}
use Rattle.plan.specs.{Plan.Plan, Plan.point_count, PlanLayout.plan_few}
use Rattle.plan.specs.PlanHeader.{plan_header_at, PlanWithin, profiles_few}
use Rattle.plan.specs.PlanLayout.{profile_count, count_block, plan_point_block, plan_blocks, plan_layout_of}

-- the plan of the tables where a header says that they stand
abbrev pub decode_plan_by : PlanHeader → List ℕ → Plan
decode_plan_by h file = record {
  flag_words = tab h.arcs (entry64 file 1 flag_per flag_size 0);
  counts = tab (profile_count h) (entry16 file (count_block h) count_per count_size 0);
  ticks = tab h.points (entry16 file (plan_point_block h) profile_point_per profile_point_size 0);
  travels = tab h.points (entry32 file (plan_point_block h) profile_point_per profile_point_size 2);
}

unfoldable pub decode_plan : List ℕ → Plan
decode_plan file = decode_plan_by (plan_header_at file) file

-- the flag word of arc a, and the tick and travel of point q, numbered through all profiles
abbrev pub flag_word : Plan → ℕ → ℕ
flag_word p a = get_or p.flag_words a 0

abbrev pub point_tick : Plan → ℕ → ℕ
point_tick p q = get_or p.ticks q 0

abbrev pub point_travel : Plan → ℕ → ℕ
point_travel p q = get_or p.travels q 0

-- how many points all profiles have
abbrev pub point_total : Plan → ℕ
point_total p = length p.ticks

-- a plan file that is as long as its header says, laid out so
abbrev pub PlanLaid : List ℕ → PlanLayout → Type 0
PlanLaid = LaidOut plan_header_at plan_layout_of PlanWithin plan_blocks

-- the counts of the layout are those of the plan
pub record PlanSizes (p : Plan) (l : PlanLayout) : Type 0 where
  pub arcs : l.arcs ≡ length p.flag_words
  pub profiles : l.profiles ≡ length p.counts
  pub points : l.points ≡ point_total p
  pub travels : l.points ≡ length p.travels

-- and within the limits
pub record PlanSmall (l : PlanLayout) : Type 0 where
  pub period_some : 1 ≤ l.period
  pub period_most : l.period ≤ most_period
  pub nodes_some : 1 ≤ l.nodes
  pub nodes_most : l.nodes ≤ most_nodes
  pub arcs_most : l.arcs ≤ most_arcs
  pub cells_some : 1 ≤ l.cells
  pub cells_most : l.cells ≤ most_cells
  pub borders_most : l.borders ≤ most_nodes
  pub profiles_are : l.profiles ≡ l.borders * l.nodes
  pub profiles_most : l.profiles ≤ most_profiles
  pub points_most : l.points ≤ most_profile_points
  pub blocks_most : l.blocks ≤ most_plan_blocks

-- the layout's counts and blocks, by the header
pub record LaidPlan (h : PlanHeader) (l : PlanLayout) : Type 0 where
  pub arcs : l.arcs ≡ h.arcs
  pub profiles : l.profiles ≡ profile_count h
  pub points : l.points ≡ h.points
  pub countblock : l.countblock ≡ count_block h
  pub pointblock : l.pointblock ≡ plan_point_block h
  pub all : l.blocks ≡ plan_blocks h

pub layout_plan : {h : PlanHeader} {l : PlanLayout} → l ≡ plan_layout_of h → LaidPlan h l
unfolding plan_layout_of
layout_plan e = rw e (record
    { arcs = refl; profiles = refl; points = refl; countblock = refl; pointblock = refl; all = refl })

module _ {file : List ℕ} {l : PlanLayout} (s : PlanLaid file l) where
  pub plan_sizes : PlanSizes (decode_plan file) l
  unfolding decode_plan plan_layout_of
  plan_sizes = rw s.is (record {
    arcs = sym (length_tab _ _);
    profiles = sym (length_tab _ _);
    points = sym (length_tab _ _);
    travels = sym (length_tab _ _);
  })

  pub laid_plan : LaidPlan (plan_header_at file) l
  laid_plan = layout_plan s.is

  pub plan_small : PlanSmall l
  unfolding plan_layout_of
  plan_small =
      let w = s.within in
      rw s.is (record {
        period_some = w.period_some;
        period_most = w.period_most;
        nodes_some = w.nodes_some;
        nodes_most = w.nodes_most;
        arcs_most = w.arcs_most;
        cells_some = w.cells_some;
        cells_most = w.cells_most;
        borders_most = w.borders_most;
        profiles_are = refl;
        profiles_most = profiles_few w;
        points_most = w.points_most;
        blocks_most = plan_few w;
      })

  -- the runs stand in the file
  pub flags_stored : RunInFile 1 flag_per flag_size l.arcs file
  flags_stored = record { pos = lit< tt; fit = lit≤ tt; room = omega (arith, s.long, laid_plan) }

  pub counts_stored : RunInFile l.countblock count_per count_size l.profiles file
  counts_stored = record { pos = lit< tt; fit = lit≤ tt; room = omega (arith, s.long, laid_plan) }

  pub points_stored : RunInFile l.pointblock profile_point_per profile_point_size l.points file
  points_stored = record { pos = lit< tt; fit = lit≤ tt; room = omega (arith, s.long, laid_plan) }

  few : length file ≤ 2 ^ 63
  few = omega (arith, s.long, plan_few s.within)

  -- FOR CODE that reads an entry of arc a, profile k or point q: it stands in the file, and is the plan's
  module _ {a : ℕ} (h : a < l.arcs) where
    pub flag_in : EntryInFile 1 flag_per flag_size a file
    flag_in = entry_stands flags_stored few h

    pub flag_is : {r : ℕ} → r ≡ entry64 file 1 flag_per flag_size 0 a → r ≡ flag_word (decode_plan file) a
    unfolding decode_plan
    flag_is = entry_is le64 file flag_per flag_size 0 refl laid_plan.arcs h

  module _ {k : ℕ} (h : k < l.profiles) where
    pub count_in : EntryInFile l.countblock count_per count_size k file
    count_in = entry_stands counts_stored few h

    pub count_is : {r : ℕ} → r ≡ entry16 file l.countblock count_per count_size 0 k
        → r ≡ point_count (decode_plan file) k
    unfolding decode_plan
    count_is = entry_is le16 file count_per count_size 0 laid_plan.countblock laid_plan.profiles h

  module _ {q : ℕ} (h : q < l.points) where
    pub point_in : EntryInFile l.pointblock profile_point_per profile_point_size q file
    point_in = entry_stands points_stored few h

    pub tick_is : {r : ℕ} → r ≡ entry16 file l.pointblock profile_point_per profile_point_size 0 q
        → r ≡ point_tick (decode_plan file) q
    unfolding decode_plan
    tick_is =
        entry_is le16 file profile_point_per profile_point_size 0 laid_plan.pointblock laid_plan.points h

    pub travel_is : {r : ℕ} → r ≡ entry32 file l.pointblock profile_point_per profile_point_size 2 q
        → r ≡ point_travel (decode_plan file) q
    unfolding decode_plan
    travel_is =
        entry_is le32 file profile_point_per profile_point_size 2 laid_plan.pointblock laid_plan.points h

-- for `search reads` where code reads a field
pub ruleset reads = (flag_in, count_in, point_in, flag_is, count_is, tick_is, travel_is)
