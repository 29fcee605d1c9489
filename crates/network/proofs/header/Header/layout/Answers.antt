-- `network::header::Header::layout` meets its contract.
use Prim.Native.Nat.{ℕ, ◌≤◌}
use native.Mathlib.Omega.{arith}
use Rattle.file_blocks.specs.{Place.blocks, Kind.hours_per}
use Rattle.network.specs.{Limits.most_nodes, Layout.layout_told, Node.blocks_counted}
use Rattle.network.proofs.header.Header.layout.Goals as goal

-- the blocks of as many nodes as there can be, with their hours
abbrev most : ℕ
most = blocks hours_per most_nodes

pub overflow_add-arcblock : goal.overflow_add-arcblock
overflow_add-arcblock c = let h : c.blocks-arcblock.result ≤ most = search blocks_counted in omega arith

pub overflow_add-pointblock : goal.overflow_add-pointblock
overflow_add-pointblock c = let h : c.blocks-arcblock.result ≤ most = search blocks_counted in omega arith

pub overflow_add-result : goal.overflow_add-result
overflow_add-result c =
    let h : c.blocks-arcblock.result ≤ most = search blocks_counted in omega arith

pub returns : goal.returns
returns c = search layout_told
