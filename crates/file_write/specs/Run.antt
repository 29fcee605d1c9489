-- The bytes of a run of blocks: n entries of a kind from block `from` on, entry i with the bytes f i 0, ..
-- f i (size - 1). Said once over the kind; a header is a run of one entry.
use mathlib.Core.{Path.◌≡◌, Bool.cond, List.List}
use Rattle.std.specs.Prelude.{ℕ, ◌+◌, ◌-◌, ◌*◌, ◌/◌, ◌%◌, ◌≤◌, ◌<◌}
use lib.{ListN.get_or, Dec.ltb, Dec.eqb}
use Rattle.file_fields.specs.{Fields.byte_of, Block.block_size, Block.summed_size, Block.head_size}
use Rattle.file_blocks.specs.Place.{entries_in}

-- byte o of a head, o below 8
unfoldable pub head_byte : ℕ → ℕ → ℕ → ℕ → ℕ
head_byte kind entries b o =
    cond (ltb o 2) (cond (eqb o 0) kind 0) (cond (ltb o 4) (byte_of entries (o - 2)) (byte_of b (o - 4)))

-- byte k of the entries of a block that has `entries` of them, g its entries' bytes: the entries one after
-- the other, and then zeros
unfoldable pub entry_byte : ℕ → ℕ → (ℕ → ℕ → ℕ) → ℕ → ℕ
entry_byte size entries g k = cond (ltb (k / size) entries) (g (k / size) (k % size)) 0

-- byte o of block b, o below 508
unfoldable pub run_body : ℕ → ℕ → ℕ → ℕ → (ℕ → ℕ → ℕ) → ℕ → ℕ → ℕ → ℕ
run_body kind per size n f from b o =
    let j = b - from in
    cond (ltb o head_size) (head_byte kind (entries_in per n j) b o)
    (entry_byte size (entries_in per n j) (λ e r. f (per * j + e) r) (o - head_size))

-- a header: block 0, of one entry
abbrev pub header_body : ℕ → ℕ → (ℕ → ℕ) → ℕ → ℕ → ℕ
header_body kind size f = run_body kind 1 size 1 (λ _. f) 0

-- a block by its parts: a head, entries with the bytes g, and zeros up to the check
pub record BlockLaid (file : List ℕ) (b kind entries size : ℕ) (g : ℕ → ℕ → ℕ) : Type 0 where
  pub head : (o : ℕ) → o < head_size → get_or file (block_size * b + o) 0 ≡ head_byte kind entries b o
  pub entry : (e r : ℕ) → e < entries → r < size
      → get_or file (block_size * b + head_size + size * e + r) 0 ≡ g e r
  pub fill : (i : ℕ) → block_size * b + (head_size + size * entries) ≤ i → i < block_size * b + summed_size
      → get_or file i 0 ≡ 0

-- block j of the run of n entries with the bytes f
abbrev pub RunLaid : List ℕ → ℕ → ℕ → ℕ → ℕ → ℕ → (ℕ → ℕ → ℕ) → ℕ → Type 0
RunLaid file from kind per size n f j =
    BlockLaid file (from + j) kind (entries_in per n j) size (λ e r. f (per * j + e) r)
