-- Where the entries of a kind stand. A kind's blocks are a run from block `from` on, with `per` entries of
-- `size` bytes a block, all blocks but the last full: entry i is entry i % per of block from + i / per.
-- Nothing here says what an entry means.
use mathlib.Core.{Path.◌≡◌, Path.◌∙◌, Path.ap, List.List}
use Rattle.std.specs.Prelude.{ℕ, ◌+◌, ◌-◌, ◌*◌, ◌/◌, ◌%◌, ◌^◌, ◌≤◌, ◌<◌, min, length}
use Rattle.std.proofs.Common.{mod-lt, le-div_iff_mul-le, div-mul-le_self, mod-eq_of_lt, mul_comm}
use Rattle.std.proofs.Math.Nat.{mul-le-mul_left, div-add-mod, mul-add-div, mul-add-mod_self_left}
use Rattle.std.proofs.Math.Nat.{div-eq_of_lt, min-le_left}
use native.Mathlib.Omega.{arith}
use Rattle.file_fields.specs.Block.{block_size, summed_size, head_size, entries_size}

-- the byte at which entry i starts
unfoldable pub offset : ℕ → ℕ → ℕ → ℕ → ℕ
offset from per size i = block_size * (from + i / per) + head_size + size * (i % per)

-- the blocks that n entries take
abbrev pub blocks : ℕ → ℕ → ℕ
blocks per n = (n + (per - 1)) / per

-- the entries in block j of the run, from 0
abbrev pub entries_in : ℕ → ℕ → ℕ → ℕ
entries_in per n j = min per (n - per * j)

-- a file that has room for the run of n entries
pub record RunInFile (from per size n : ℕ) (file : List ℕ) : Type 0 where
  pub pos : 0 < per
  pub fit : size * per ≤ entries_size
  pub room : block_size * (from + blocks per n) ≤ length file

-- a file in which entry i of a run stands whole, at a place that the code can count
pub record EntryInFile (from per size i : ℕ) (file : List ℕ) : Type 0 where
  pub pos : 0 < per
  pub fit : size * per ≤ entries_size
  pub room : offset from per size i + size ≤ length file
  pub near : from + i / per < 2 ^ 54

module _ (from per size : ℕ) (pos : 0 < per) (fit : size * per ≤ entries_size) where
  -- the whole entry stands before its block's check
  pub offset_in : (i : ℕ) → offset from per size i + size ≤ block_size * (from + i / per) + summed_size
  unfolding offset
  offset_in i = omega (arith, mul-le-mul_left size (mod-lt i pos))

  -- the entries before it and what its blocks have beside entries, counted apart
  pub offset_apart : (i more : ℕ) → more ≡ block_size - size * per
      → block_size * from + head_size + size * i + more * (i / per) ≡ offset from per size i
  unfolding offset
  offset_apart i more e =
      let whole : more + size * per ≡ block_size = omega arith in
      let blocked : (more + size * per) * (i / per) ≡ block_size * (i / per) =
      ap (λ (z : ℕ). z * (i / per)) whole in
      let counted : size * (per * (i / per) + i % per) ≡ size * i =
      ap (λ (z : ℕ). size * z) (div-add-mod i per) in
      omega (arith, blocked, counted)

  -- its block is one of the run's
  pub block_below : (n i : ℕ) → i < n → i / per < blocks per n
  block_below n i l = (le-div_iff_mul-le pos).1 (omega (arith, div-mul-le_self i per))

  -- so it stands before the run's end
  pub entry_in : (n i : ℕ) → i < n → offset from per size i + size ≤ block_size * (from + blocks per n)
  entry_in n i l = omega (arith, offset_in i, block_below n i l)

-- and in a file that has the run
pub entry_stands : {from per size n : ℕ} {file : List ℕ} → RunInFile from per size n file
    → length file ≤ 2 ^ 63 → {i : ℕ} → i < n → EntryInFile from per size i file
entry_stands {from} {per} {size} {n} s few {i} l =
    record {
      pos = s.pos;
      fit = s.fit;
      room = omega (arith, s.room, entry_in from per size s.pos s.fit n i l);
      near = omega (arith, s.room, block_below from per size s.pos s.fit n i l);
    }

-- every index is that of an entry in a block, and back
module _ (per : ℕ) (pos : 0 < per) where
  pub index_in : (n i : ℕ) → i < n → i % per < entries_in per n (i / per)
  index_in n i l = omega (arith, mod-lt i pos, div-add-mod i per)

  pub index_below : (n j e : ℕ) → e < entries_in per n j → per * j + e < n
  index_below n j e l = omega arith

  pub index_block : (j e : ℕ) → e < per → (per * j + e) / per ≡ j
  index_block j e l = mul-add-div pos j e ∙ omega (arith, div-eq_of_lt l)

  pub index_entry : (j e : ℕ) → e < per → (per * j + e) % per ≡ e
  index_entry j e l = mul-add-mod_self_left per j e ∙ mod-eq_of_lt l

  -- a block of the run has an entry, and all but the last are full
  pub block_used : (n j : ℕ) → j < blocks per n → 0 < entries_in per n j
  block_used n j l = omega (arith, (le-div_iff_mul-le pos).0 l, mul_comm per j)

-- where entry e of block j stands
pub offset_at : (from per size : ℕ) → 0 < per → (j e : ℕ) → e < per
    → offset from per size (per * j + e) ≡ block_size * (from + j) + head_size + size * e
unfolding offset
offset_at from per size pos j e l = rw (index_block per pos j e l, index_entry per pos j e l)

-- FOR A WALK over the blocks of a stored run: block j starts at an entry of the run, stands whole in the
-- file, and its entries fit
module _ (from per size n : ℕ) (file : List ℕ) (s : RunInFile from per size n file) (j : ℕ)
    (l : j < blocks per n) where
  pub block_starts : per * j ≤ n
  block_starts = omega (arith, block_used per s.pos n j l)

  pub block_in : block_size * (from + j) + block_size ≤ length file
  block_in = omega (arith, s.room)

  pub block_fits : (m : ℕ) → m ≡ entries_in per n j → size * m ≤ entries_size
  block_fits m e = rw e (omega (arith, s.fit, mul-le-mul_left size (min-le_left per (n - per * j))))
