-- The entries of nodes, by the header's byte for hours: where it is 0 they are cells alone, else cells with
-- the ticks at which a node opens and closes. What either kind needs is said here once, over that byte.
use Rattle.std.specs.Prelude.{◌≡◌, refl, ℕ, zero, suc, ◌*◌, ◌≤◌, ◌<◌}
use Rattle.std.proofs.Common.{arith, lit<, lit≤}
use Rattle.file_fields.specs.Block.{entries_size}
use Rattle.file_blocks.specs.Kind.{cell_kind, cell_size, cell_per, hours_kind, hours_size, hours_per}
use Rattle.file_blocks.specs.Place.{blocks}
use Rattle.network.specs.Limits.{most_nodes}

-- the kind of their blocks, the bytes of an entry, and the entries of a full block
unfoldable pub node_kind : ℕ → ℕ
node_kind zero = cell_kind
node_kind (suc hours) = hours_kind

unfoldable pub node_size : ℕ → ℕ
node_size zero = cell_size
node_size (suc hours) = hours_size

unfoldable pub node_per : ℕ → ℕ
node_per zero = cell_per
node_per (suc hours) = hours_per

-- the blocks that n of them take
unfoldable pub node_blocks : ℕ → ℕ → ℕ
node_blocks hours n = blocks (node_per hours) n

-- blocks hold entries of either kind
pub record NodeFits (hours : ℕ) : Type 0 where
  pub kind_fits : node_kind hours < 256
  pub some : 0 < node_per hours
  pub most : node_per hours ≤ cell_per
  pub holds : 2 ≤ node_size hours
  pub fit : node_size hours * node_per hours ≤ entries_size

pub node_fits : (hours : ℕ) → NodeFits hours
unfolding node_kind node_size node_per
node_fits zero =
    record { kind_fits = lit< tt; some = lit< tt; most = lit≤ tt; holds = lit≤ tt; fit = lit≤ tt }
node_fits (suc hours) =
    record { kind_fits = lit< tt; some = lit< tt; most = lit≤ tt; holds = lit≤ tt; fit = lit≤ tt }

-- where hours are held they take the most blocks
pub node_blocks_most : (hours : ℕ) {n : ℕ} → n ≤ most_nodes → node_blocks hours n ≤ blocks hours_per most_nodes
unfolding node_blocks node_per
node_blocks_most zero l = omega arith
node_blocks_most (suc hours) l = omega arith

-- FOR CODE that tells the two kinds apart
module _ {hours : ℕ} (z : hours ≡ 0) where
  pub kind_plain : cell_kind ≡ node_kind hours
  unfolding node_kind
  kind_plain = rw z

  pub size_plain : cell_size ≡ node_size hours
  unfolding node_size
  size_plain = rw z

  pub per_plain : cell_per ≡ node_per hours
  unfolding node_per
  per_plain = rw z

pub kind_held : (hours : ℕ) → (hours ≡ 0 → ⊥) → hours_kind ≡ node_kind hours
unfolding node_kind
kind_held zero z = absurd (z refl)
kind_held (suc hours) z = refl

pub size_held : (hours : ℕ) → (hours ≡ 0 → ⊥) → hours_size ≡ node_size hours
unfolding node_size
size_held zero z = absurd (z refl)
size_held (suc hours) z = refl

pub per_held : (hours : ℕ) → (hours ≡ 0 → ⊥) → hours_per ≡ node_per hours
unfolding node_per
per_held zero z = absurd (z refl)
per_held (suc hours) z = refl

-- for `search node_kinds`
pub ruleset node_kinds = (kind_plain, size_plain, per_plain, kind_held, size_held, per_held)

-- FOR CODE that has counted their blocks
pub blocks_counted : (hours : ℕ) {per n b : ℕ} → per ≡ node_per hours → b ≡ blocks per n → n ≤ most_nodes
    → b ≤ blocks hours_per most_nodes
unfolding node_blocks
blocks_counted hours p e l = rw (e, p) (node_blocks_most hours l)
