-- `network_tables::steady::fault` meets its contract.
use Rattle.network_tables.specs.Pairs.{ordered_by}
use Rattle.network_tables.proofs.steady.fault.Goals as goal

pub returns : goal.returns
returns c =
    ordered_by _ _ _ _ _ c.ranges.v.fits c.ranges.u.fits c.requires c.saturating_sub-early.ensures
    c.saturating_add.ensures c.saturating_add-2.ensures c.saturating_sub-late.ensures
    c.saturating_add-3.ensures
    c.saturating_sub.ensures c.saturating_add-4.ensures
