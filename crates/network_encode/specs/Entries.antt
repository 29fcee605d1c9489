-- The entries of a block as a loop writes them, one behind the other (`part_byte`), and what the writing of a
-- block of a run requires (`InRun`). Said once over the kind.
use mathlib.Core.{Path.◌≡◌, Path.sym, Path.◌∙◌, List.List}
use Rattle.std.specs.Prelude.{ℕ, ◌+◌, ◌-◌, ◌*◌, ◌/◌, ◌%◌, ◌≤◌, ◌<◌, length}
use Rattle.std.proofs.Math.Nat.{mul-add-div, mul-add-mod_self_left, div-eq_of_lt, mod-eq_of_lt}
use native.Mathlib.{Nat.mul-le-mul_left, Omega.arith}
use Rattle.theory_loops.specs.Fill.{Filled, fill_none, fill_end}
use Rattle.file_fields.specs.{Fields.byte_of, Put.put, Put.fill_put, Block.block_size}
use Rattle.file_blocks.specs.Place.{blocks}
use Rattle.network.specs.Layout.{most_blocks}

-- byte i of entries of `size` bytes that start at byte `base`, the first of them entry `first`; entry e has
-- the bytes f e
unfoldable pub part_byte : ℕ → (ℕ → ℕ → ℕ) → ℕ → ℕ → ℕ → ℕ
part_byte size f base first i = f (first + (i - base) / size) ((i - base) % size)

-- block b is one of the run of n entries from block `from` on, and stands in a list of `room` bytes
pub record InRun (from per n b room : ℕ) : Type 0 where
  pub after : from ≤ b
  pub before : b < from + blocks per n
  pub near : b < most_blocks
  pub whole : block_size * b + block_size ≤ room

-- FOR THE LOOP over a block's entries
module _ (size : ℕ) (f : ℕ → ℕ → ℕ) (base first : ℕ) where
  part_byte_lem : (e r : ℕ) → r < size → part_byte size f base first (base + size * e + r) ≡ f (first + e) r
  unfolding part_byte
  part_byte_lem e r l =
      let z : base + size * e + r - base ≡ size * e + r = omega arith in
      let some : 0 < size = omega arith in
      let q : (size * e + r) / size ≡ e = mul-add-div some e r ∙ omega (arith, div-eq_of_lt l) in
      let p : (size * e + r) % size ≡ r = mul-add-mod_self_left size e r ∙ mod-eq_of_lt l in
      rw (z, q, p)

  pub entry_none : (old : List ℕ) → Filled base (base + size * 0) (part_byte size f base first) old old
  entry_none old = let z : base + size * 0 ≡ base =
      omega arith in rw z (fill_none (part_byte size f base first) old base)

  -- a field of w bytes at byte `at` of entry e; the first field; and on to the next entry
  entry_field : (w e at v : ℕ) (old new t : List ℕ)
      → Filled base (base + size * e + at) (part_byte size f base first) old new → at + w ≤ size
      → base + size * e + (at + w) ≤ length old → ((k : ℕ) → k < w → f (first + e) (at + k) ≡ byte_of v k)
      → t ≡ put w new (base + size * e + at) v
      → Filled base (base + size * e + (at + w)) (part_byte size f base first) old t
  entry_field w e at v old new t h m l g p =
      rw p
      (fill_end (part_byte size f base first) old base (base + size * e + at + w) (base + size * e + (at + w))
      _
      (fill_put w (part_byte size f base first) base (base + size * e + at) v old new h (omega arith)
      (omega arith)
      (λ k n.
      let q : base + size * e + at + k ≡ base + size * e + (at + k) = omega arith in
      rw q (sym (part_byte_lem e (at + k) (omega arith) ∙ g k n))))
      (omega arith)
      (omega arith))

  entry_first : (w e v : ℕ) (old new t : List ℕ)
      → Filled base (base + size * e) (part_byte size f base first) old new → w ≤ size
      → base + size * e + w ≤ length old → ((k : ℕ) → k < w → f (first + e) (0 + k) ≡ byte_of v k)
      → t ≡ put w new (base + size * e) v
      → Filled base (base + size * e + w) (part_byte size f base first) old t
  entry_first w e v old new t h m l g p =
      let z : base + size * e + 0 ≡ base + size * e = omega arith in
      let y : 0 + w ≡ w = omega arith in
      let d : Filled base (base + size * e + (0 + w)) (part_byte size f base first) old t =
      entry_field w e 0 v old new t (rw z h) (omega arith) (omega arith) g (rw z p) in
      rw y at d

  entry_more : (e : ℕ) (old new : List ℕ)
      → Filled base (base + size * e + size) (part_byte size f base first) old new
      → Filled base (base + size * (e + 1)) (part_byte size f base first) old new
  entry_more e old new h = let z : base + size * (e + 1) ≡ base + size * e + size = omega arith in rw z h

  -- a whole entry at once
  pub entry_put : (m e v : ℕ) (old new t : List ℕ)
      → Filled base (base + size * e) (part_byte size f base first) old new → e < m
      → base + size * m ≤ length old
      → ((k : ℕ) → f (first + e) k ≡ byte_of v k) → t ≡ put size new (base + size * e) v
      → Filled base (base + size * (e + 1)) (part_byte size f base first) old t
  entry_put m e v old new t h l r g p =
      entry_more e old t (entry_first size e v old new t h (omega arith)
      (omega (arith, mul-le-mul_left size l))
      (λ k n. g (0 + k) ∙ (let z : 0 + k ≡ k = omega arith in rw z)) p)

  pub entry_end : (m e : ℕ) (old new : List ℕ)
      → Filled base (base + size * e) (part_byte size f base first) old new → e ≤ m → m ≤ e
      → Filled base (base + size * m) (part_byte size f base first) old new
  entry_end m e old new h l k = let q : e ≡ m = omega arith in rw q at h
