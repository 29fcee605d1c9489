-- `network_pack::pack::pack_within` meets its contract.
use Rattle.network_pack.specs.Pack.{now_packable, tables_short, tables_long}
use Rattle.network_pack.proofs.pack.pack_within.Goals as goal

pub returns-then-is_short : goal.returns-then-is_short
returns-then-is_short c = search tables_short

pub pack_tables-requires : goal.pack_tables-requires
pack_tables-requires c =
    now_packable _ _ _ _ c.requires.0 c.requires.1 c.layout.ensures c.is_short.ensures
    c.if-is_short.false

pub returns : goal.returns
returns c = search tables_long
