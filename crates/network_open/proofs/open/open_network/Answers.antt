-- `network_open::open::open_network` meets its contract.
use mathlib.Core.Path.{ap, ◌∙◌}
use Rattle.network_open.specs.Open.{too_short, open_within, open_laid, open_room}
use Rattle.network_open.proofs.open.open_network.Goals as goal

pub layout-requires : goal.layout-requires
layout-requires c = open_within _ _ c.validate.ensures _ c.in_ok-h.was

pub write_tables-requires-clause-laid : goal.write_tables-requires-clause-laid
write_tables-requires-clause-laid c =
    open_laid _ _ c.validate.ensures _ c.in_ok-h.was _ c.layout.ensures

pub write_tables-requires-clause-room : goal.write_tables-requires-clause-room
write_tables-requires-clause-room c =
    open_room _ _ _ _ (c.is_short.ensures ∙ ap (too_short c.in_ok-h.h) c.lent.ensures)
    c.if-is_short.false c.layout.ensures
