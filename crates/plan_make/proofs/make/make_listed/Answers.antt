-- `plan_make::make::make_listed` meets its contract.
use mathlib.Core.Path.{refl}
use native.Mathlib.Omega.{arith}
use Rattle.network.specs.Decode.{decode}
use Rattle.search_chains.specs.Town.{fresh_tables}
use Rattle.toward_list.specs.Work.{valid_town, primed_of}
use Rattle.plan_make.specs.Making.{counted_over, into_many}
use Rattle.plan_make.proofs.make.make_listed.Goals as goal

pub first_points-requires-clause-town : goal.first_points-requires-clause-town
first_points-requires-clause-town c = let town = valid_town c.requires.valid_file.0 c.requires.valid_file.2 in
    town

pub first_points-requires-clause-arcs_in_bounds : goal.first_points-requires-clause-arcs_in_bounds
first_points-requires-clause-arcs_in_bounds c =
    let town = valid_town c.requires.valid_file.0 c.requires.valid_file.2 in
    town.small.arcs_most

pub chain-requires-clause-town : goal.chain-requires-clause-town
chain-requires-clause-town c = let town = valid_town c.requires.valid_file.0 c.requires.valid_file.2 in
    town

pub chain-requires-clause-unchained : goal.chain-requires-clause-unchained
chain-requires-clause-unchained c = let town = valid_town c.requires.valid_file.0 c.requires.valid_file.2 in
    fresh_tables town

pub least_of_arcs-requires-clause-primed : goal.least_of_arcs-requires-clause-primed
least_of_arcs-requires-clause-primed c =
    let town = valid_town c.requires.valid_file.0 c.requires.valid_file.2 in
    primed_of town c.first_points.ensures

pub least_of_arcs-requires-clause-arcs_in_bounds : goal.least_of_arcs-requires-clause-arcs_in_bounds
least_of_arcs-requires-clause-arcs_in_bounds c =
    let town = valid_town c.requires.valid_file.0 c.requires.valid_file.2 in
    town.small.arcs_most

pub list_borders-count-requires-clause-laid : goal.list_borders-count-requires-clause-laid
list_borders-count-requires-clause-laid c =
    let town = valid_town c.requires.valid_file.0 c.requires.valid_file.2 in
    town.laid

pub list_borders-count-requires-clause-sound_network : goal.list_borders-count-requires-clause-sound_network
list_borders-count-requires-clause-sound_network c =
    let town = valid_town c.requires.valid_file.0 c.requires.valid_file.2 in
    town.sound

pub list_borders-count-requires-clause-out_len : goal.list_borders-count-requires-clause-out_len
list_borders-count-requires-clause-out_len c = refl

pub invariant_of-roads-clause-ready : goal.invariant_of-roads-clause-ready
invariant_of-roads-clause-ready c = record {
  primed = primed_of (valid_town c.requires.valid_file.0 c.requires.valid_file.2) c.first_points.ensures;
  chained = c.chain.ensures;
}

pub returns-then-points-gt-MOST_POINTS : goal.returns-then-points-gt-MOST_POINTS
returns-then-points-gt-MOST_POINTS c =
    into_many (decode c.args.file.now) c.args.out.now _
    (counted_over (decode c.args.file.now) c.count_points-points.ensures
    c.if-points-gt-MOST_POINTS.true) c.refused.ensures

pub make_counted-requires-clause-valid_file : goal.make_counted-requires-clause-valid_file
make_counted-requires-clause-valid_file c = (c.requires.valid_file.0, c.requires.valid_file.1)

pub make_counted-requires-clause-counted : goal.make_counted-requires-clause-counted
make_counted-requires-clause-counted c =
    (c.count_points-points.ensures, c.if-points-gt-MOST_POINTS.false, omega arith)
