-- `network_tables::steady::is_closed_at` meets its contract.
use Rattle.network_tables.specs.Steady.{closed_read}
use Rattle.network_tables.proofs.steady.is_closed_at.Goals as goal

pub returns : goal.returns
returns c = λ e.
    closed_read c.entry-t.ensures.0
    c.entry-v.ensures.0 c.entry.ensures.0
    c.entry-2.ensures.0 (c.is_closed.ensures e)
