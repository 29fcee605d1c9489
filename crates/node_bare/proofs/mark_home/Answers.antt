-- `node_bare::mark_home` meets its contract.
use mathlib.Core.Path.{sym, ◌∙◌}
use native.Mathlib.Omega.{arith}
use Rattle.plan_values.specs.{Formed.profile_in, Starts.product_fits, Starts.number_fits}
use Rattle.node_bare.specs.Home.{home_never, home_painted}
use Rattle.day_slopes.specs.Runs.{runs_few}
use Rattle.node_bare.proofs.mark_home.Goals as goal

pub overflow_mul-i : goal.overflow_mul-i
overflow_mul-i c = product_fits c.requires.formed c.requires.i_lt_borders.0 c.requires.i_lt_borders.1

pub overflow_add-i : goal.overflow_add-i
overflow_add-i c = number_fits c.requires.formed c.requires.i_lt_borders.0 c.requires.i_lt_borders.1

pub point_count-requires-clause-plan_laid : goal.point_count-requires-clause-plan_laid
point_count-requires-clause-plan_laid c = c.requires.formed.laid

pub point_count-requires-clause-k_lt_profiles : goal.point_count-requires-clause-k_lt_profiles
point_count-requires-clause-k_lt_profiles c = profile_in c.requires.formed _ _ c.requires.i_lt_borders.0
    c.requires.i_lt_borders.1

pub returns-then-point_count-eq0 : goal.returns-then-point_count-eq0
returns-then-point_count-eq0 c = let z = sym c.point_count.ensures.0 ∙ c.if-point_count-eq0.true in
    (home_never _ _ _ z c.fill.ensures, omega (arith, z))

pub fill_profile-n-requires-clause-formed : goal.fill_profile-n-requires-clause-formed
fill_profile-n-requires-clause-formed c = c.requires.formed

pub fill_profile-n-requires-clause-started : goal.fill_profile-n-requires-clause-started
fill_profile-n-requires-clause-started c = c.requires.started

pub fill_profile-n-requires-clause-i_lt_borders : goal.fill_profile-n-requires-clause-i_lt_borders
fill_profile-n-requires-clause-i_lt_borders c = (
  c.requires.i_lt_borders.0,
  c.requires.i_lt_borders.1,
  (omega (
    arith,
    c.point_count.ensures.0,
    c.if-point_count-eq0.false,
  )),
)

pub fill_profile-n-requires-clause-space : goal.fill_profile-n-requires-clause-space
fill_profile-n-requires-clause-space c = c.requires.space.0

pub fill_profile-n-requires-clause-u_bound : goal.fill_profile-n-requires-clause-u_bound
fill_profile-n-requires-clause-u_bound c = c.requires.u_bound

pub mark_runs-requires-clause-grid : goal.mark_runs-requires-clause-grid
mark_runs-requires-clause-grid c = c.fill_profile-n.ensures.0.grid

pub mark_runs-requires-clause-n_in_bounds : goal.mark_runs-requires-clause-n_in_bounds
mark_runs-requires-clause-n_in_bounds c = (
  omega (
    arith,
    runs_few c.fill_profile-n.ensures.0.grid,
    c.fill_profile-n.auto.starts,
    c.requires.space.0.in_s,
  ),
  omega (
    arith,
    runs_few c.fill_profile-n.ensures.0.grid,
    c.fill_profile-n.auto.values,
    c.requires.space.0.in_v,
  ),
  c.requires.space.1,
)

pub returns : goal.returns
returns c = (
  home_painted _ _ (omega (
    arith,
    c.point_count.ensures.0,
    c.if-point_count-eq0.false,
  ))
      c.fill_profile-n.ensures.0 c.mark_runs.ensures,
  c.fill_profile-n.ensures.1,
)
