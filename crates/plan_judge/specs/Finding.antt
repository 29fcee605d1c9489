-- What the code rests on at a border: both files, the tables over them, and the list of borders.
use mathlib.Core.{Path.◌≡◌, Path.◌∙◌, List.List}
use Rattle.std.specs.Prelude.{ℕ, ◌+◌, ◌*◌, ◌≤◌, ◌<◌, length, get_or}
use Rattle.std.proofs.Common.{arith}
use Rattle.theory_loops.specs.{Fill.Filled, Total.total_none}
use Rattle.network.specs.declared.header.Layout.{Layout}
use Rattle.network.specs.{Limits.most_nodes, Limits.most_period, Decode.decode, Town.partition_of}
use Rattle.network.specs.Network.{cell, tail, start}
use Rattle.search_chains.specs.{Chain.Chained, Town.Town}
use Rattle.plan_tests.specs.declared.tests.{Layouts.Layouts, Target.Target}
use Rattle.plan.specs.{Border.border_count, Border.Listed, Plan.Plan, Plan.point_count, Plan.point_start}
use Rattle.plan.specs.{PlanDecode.decode_plan, Borders.at_node}
use Rattle.plan_tests.specs.{Checkable.Checkable, Failing.AtBorder, Failing.cell_fits, Giving.Aimed}
use Rattle.plan_values.specs.Starts.{start_of, started_of}
use Rattle.node_runs.specs.Ready.{Rooms}

-- What judging the borders rests on: both files, the tables of the arcs' first points and of the
-- chains, and the list of borders.
pub record Equipped (network plan : List ℕ) (l : Layouts) (points firsts next list : List ℕ) : Type 0 where
  pub check : Checkable network plan l
  pub point : (a : ℕ) → a < l.network.arcs → get_or points a 0 ≡ start (decode network) a
  pub chained : Chained (tail (decode network)) l.network.nodes l.network.arcs 0 firsts next
  pub listed : Listed (partition_of (decode network)) list

-- The tables that are filled anew for each border, and the room in which a node is judged, are as long as
-- they were made.
pub record Lent (firsts lows so vo sa va sh vh marks : List ℕ) : Type 0 where
  pub starts : length firsts ≡ most_nodes
  pub least : length lows ≡ most_nodes
  pub own_s : length so ≡ most_period + 1
  pub own_v : length vo ≡ most_period
  pub arc_s : length sa ≡ most_period + 1
  pub arc_v : length va ≡ most_period
  pub head_s : length sh ≡ most_period + 1
  pub head_v : length vh ≡ most_period
  pub bytes : length marks ≡ most_period

pub lent_same : {firsts lows so vo sa va sh vh marks firsts' lows' so' vo' sa' va' sh' vh' marks' : List ℕ}
    → Lent firsts lows so vo sa va sh vh marks → length firsts' ≡ length firsts → length lows' ≡ length lows
    → length so' ≡ length so → length vo' ≡ length vo → length sa' ≡ length sa → length va' ≡ length va
    → length sh' ≡ length sh → length vh' ≡ length vh → length marks' ≡ length marks
    → Lent firsts' lows' so' vo' sa' va' sh' vh' marks'
lent_same r a b c d e f g h i = record {
  starts = a ∙ r.starts;
  least = b ∙ r.least;
  own_s = c ∙ r.own_s;
  own_v = d ∙ r.own_v;
  arc_s = e ∙ r.arc_s;
  arc_v = f ∙ r.arc_v;
  head_s = g ∙ r.head_s;
  head_v = h ∙ r.head_v;
  bytes = i ∙ r.bytes;
}

pub lent_rooms : {firsts lows so vo sa va sh vh marks : List ℕ} {period : ℕ}
    → Lent firsts lows so vo sa va sh vh marks → period ≤ most_period → Rooms period sa va sh vh marks
lent_rooms r h = record {
  arc_s = omega (arith, r.arc_s);
  arc_v = omega (arith, r.arc_v);
  head_s = omega (arith, r.head_s);
  head_v = omega (arith, r.head_v);
  bytes = omega (arith, r.bytes);
}

-- border number i, whose node b was read in the list
module _ {network : List ℕ} {l : Layout} {list : List ℕ} {i b : ℕ} (w : Town network l)
    (f : Listed (partition_of (decode network)) list) (h : i < border_count (partition_of (decode network)))
    (e : b ≡ get_or list i 0) where
  pub listed_node : b < l.nodes
  listed_node =
      omega (arith, e, f.at i h, at_node (partition_of (decode network)) i h, w.sizes.nodes)

  pub listed_aimed : {c : ℕ} → c ≡ cell (decode network) b
      → Aimed network (record { number = i; node = b; cell = c })
  listed_aimed q = record { node = e ∙ f.at i h; cell = q; flag = cell_fits w listed_node q }

-- FOR THE LOOPS
module _ {network plan : List ℕ} {l : Layouts} {points firsts next list : List ℕ}
    (w : Equipped network plan l points firsts next list) where
  pub border_number : {i : ℕ} → i < l.plan.borders → i < border_count (partition_of (decode network))
  border_number h = omega (arith, w.check.borders)

  -- the tables of border number i are filled
  pub at_border_lem : {i : ℕ} {b : Target} {old starts : List ℕ} → i < l.plan.borders
      → Filled 0 l.plan.nodes (start_of (decode_plan plan) l.plan.nodes i) old starts → b.number ≡ i
      → Aimed network b → AtBorder network plan l points firsts next starts b
  at_border_lem h f e a = record {
    prepared = record {
      check = w.check;
      first = w.point;
      started = rw e (started_of f);
      number = rw e h;
      aimed = a;
    };
    chained = w.chained;
  }

-- the first border's profiles start with the first point
pub from_start : (p : Plan) (nodes : ℕ) → 0 ≡ point_start p (0 * nodes)
unfolding point_start
from_start p nodes = let z : 0 * nodes ≡ 0 = omega arith in rw z (total_none (point_count p))
