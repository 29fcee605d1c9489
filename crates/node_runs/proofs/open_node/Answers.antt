-- `node_runs::open_node` meets its contract.

use Rattle.node_runs.proofs.open_node.Goals as goal

pub fill_profile-requires-clause-formed : goal.fill_profile-requires-clause-formed
fill_profile-requires-clause-formed c = c.requires.formed

pub fill_profile-requires-clause-started : goal.fill_profile-requires-clause-started
fill_profile-requires-clause-started c = c.requires.started

pub fill_profile-requires-clause-i_lt_borders : goal.fill_profile-requires-clause-i_lt_borders
fill_profile-requires-clause-i_lt_borders c = c.requires.i_lt_borders

pub fill_profile-requires-clause-space : goal.fill_profile-requires-clause-space
fill_profile-requires-clause-space c = c.requires.space.0

pub fill_profile-requires-clause-u_bound : goal.fill_profile-requires-clause-u_bound
fill_profile-requires-clause-u_bound c = c.requires.u_bound

pub greatest_value-requires-clause-formed : goal.greatest_value-requires-clause-formed
greatest_value-requires-clause-formed c = c.requires.formed

pub greatest_value-requires-clause-started : goal.greatest_value-requires-clause-started
greatest_value-requires-clause-started c = c.requires.started

pub greatest_value-requires-clause-i_lt_borders : goal.greatest_value-requires-clause-i_lt_borders
greatest_value-requires-clause-i_lt_borders c = c.requires.i_lt_borders

pub returns : goal.returns
returns c = (
  record { runs = c.fill_profile.ensures.0; most = c.greatest_value.ensures },
  c.clear.ensures,
  c.fill_profile.ensures.1,
)
