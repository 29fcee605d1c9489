-- `node_runs::judge_arc` meets its contract.
use mathlib.Core.Path.{refl, ◌∙◌}
use Rattle.plan_tests.specs.Giving.{head_in}
use Rattle.node_runs.specs.Adds.{met_merged}
use Rattle.node_runs.specs.Finding.{counted_none, arc_fits, head_fits, met_finds}
use Rattle.node_runs.specs.Ready.{grid_here, arc_space, head_space, listed, few, period_fits}
use Rattle.node_runs.proofs.judge_arc.Goals as goal

pub look-requires-clause-checkable : goal.look-requires-clause-checkable
look-requires-clause-checkable c = c.requires.prepared.check

pub look-requires-clause-briefs : goal.look-requires-clause-briefs
look-requires-clause-briefs c = c.requires.briefs

pub look-requires-clause-arc_lt_arcs : goal.look-requires-clause-arc_lt_arcs
look-requires-clause-arc_lt_arcs c = (
  c.requires.arc_lt_arcs.0,
  c.requires.prepared.number,
  c.requires.prepared.aimed.flag,
)

pub look-requires-clause-topped : goal.look-requires-clause-topped
look-requires-clause-topped c = c.requires.arc_lt_arcs.1.topped

pub returns-in_default : goal.returns-in_default
returns-in_default c = (c.in_default.ensures _, counted_none _ _)

pub fill_runs-na-requires-clause-town : goal.fill_runs-na-requires-clause-town
fill_runs-na-requires-clause-town c = c.requires.prepared.check.town

pub fill_runs-na-requires-clause-arc_lt_arcs : goal.fill_runs-na-requires-clause-arc_lt_arcs
fill_runs-na-requires-clause-arc_lt_arcs c = (
  c.requires.arc_lt_arcs.0,
  c.requires.prepared.first _
      c.requires.arc_lt_arcs.0,
)

pub fill_runs-na-requires-clause-brief : goal.fill_runs-na-requires-clause-brief
fill_runs-na-requires-clause-brief c = c.in-Some.ensures.brief

pub fill_runs-na-requires-clause-space : goal.fill_runs-na-requires-clause-space
fill_runs-na-requires-clause-space c = (
  arc_space c.requires.prepared.check c.requires.rooms,
  c.requires.rooms.arc_v,
)

pub fill_runs-na-requires-clause-arc_bound : goal.fill_runs-na-requires-clause-arc_bound
fill_runs-na-requires-clause-arc_bound c = arc_fits c.requires.prepared _ _ c.requires.arc_bound

pub fill_profile-nh-requires-clause-formed : goal.fill_profile-nh-requires-clause-formed
fill_profile-nh-requires-clause-formed c = c.requires.prepared.check.formed

pub fill_profile-nh-requires-clause-started : goal.fill_profile-nh-requires-clause-started
fill_profile-nh-requires-clause-started c = c.requires.prepared.started

pub fill_profile-nh-requires-clause-i_lt_borders : goal.fill_profile-nh-requires-clause-i_lt_borders
fill_profile-nh-requires-clause-i_lt_borders c =
    let k = c.in-Some.ensures in
    (c.requires.prepared.number, head_in c.requires.prepared.check c.requires.arc_lt_arcs.0 k.head, k.some)

pub fill_profile-nh-requires-clause-space : goal.fill_profile-nh-requires-clause-space
fill_profile-nh-requires-clause-space c = head_space c.requires.prepared.check c.requires.rooms
    c.fill_runs-na.auto.values

pub fill_profile-nh-requires-clause-u_bound : goal.fill_profile-nh-requires-clause-u_bound
fill_profile-nh-requires-clause-u_bound c =
    let k = c.in-Some.ensures in
    head_fits c.requires.prepared _ _ _ k.head c.fill_runs-na.ensures.3 c.requires.arc_bound

pub invariant_of-node : goal.invariant_of-node
invariant_of-node c = let own = c.requires.arc_lt_arcs.1 in
    record { listed = listed own.runs.grid refl own.in_s; valued = few own.runs.grid refl own.in_v }

pub invariant_of-arc : goal.invariant_of-arc
invariant_of-arc c = let grid = c.fill_runs-na.ensures.0.grid in
    record {
      listed = listed grid c.fill_runs-na.auto.starts c.requires.rooms.arc_s;
      valued = few grid c.fill_runs-na.auto.travels c.requires.rooms.arc_v;
    }

pub invariant_of-head : goal.invariant_of-head
invariant_of-head c = let grid = grid_here c.requires.prepared.check c.fill_profile-nh.ensures.0.grid in
    record {
      listed = listed grid c.fill_profile-nh.auto.starts c.requires.rooms.head_s;
      valued = few grid (c.fill_profile-nh.auto.values ∙ c.fill_runs-na.auto.values) c.requires.rooms.head_v;
    }

pub invariant_of-sides : goal.invariant_of-sides
invariant_of-sides c = record {
  one_day = (refl, refl);
  some = (c.requires.prepared.check.town.small.period_some, period_fits c.requires.prepared.check);
  short = c.fill_runs-na.ensures.1;
}

pub merge-requires : goal.merge-requires
merge-requires c = c.requires.rooms.bytes

pub shape_of-sa : goal.shape_of-sa
shape_of-sa c = c.fill_runs-na.auto.starts

pub shape_of-va : goal.shape_of-va
shape_of-va c = c.fill_runs-na.auto.travels

pub shape_of-sh : goal.shape_of-sh
shape_of-sh c = c.fill_profile-nh.auto.starts

pub shape_of-vh : goal.shape_of-vh
shape_of-vh c =
    c.fill_profile-nh.auto.values ∙ c.fill_runs-na.auto.values

pub shape_of-marks : goal.shape_of-marks
shape_of-marks c = c.merge.auto.marks

pub returns : goal.returns
returns c =
    let k = c.in-Some.ensures in (
      met_merged c.requires.prepared.check c.args.target _ _ k.head c.requires.arc_lt_arcs.1.topped.some
          k.some _ _ _
          k.same c.merge.ensures c.requires.arc_lt_arcs.1.runs c.fill_runs-na.ensures.0
          c.fill_profile-nh.ensures.0,
      met_finds c.requires.prepared _ k.head c.fill_runs-na.ensures.2 c.fill_runs-na.ensures.3
          c.fill_profile-nh.ensures.1,
    )
