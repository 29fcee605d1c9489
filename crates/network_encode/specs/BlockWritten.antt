-- A whole block of a run as it is written: a head, entries, zeros and a check make the file's block
-- (`block_written`), and bytes that agree where a block has any make the same block. Said once over the kind.
use mathlib.Core.{Path.◌≡◌, Path.sym, Path.◌∙◌, List.List}
use Rattle.std.specs.Prelude.{ℕ, ◌+◌, ◌-◌, ◌*◌, ◌/◌, ◌%◌, ◌≤◌, ◌<◌}
use native.Mathlib.{Nat.div-lt_iff_lt-mul, Nat.mul_comm, Omega.arith}
use lib.{ListN.length, Seq.ext_get_or}
use Rattle.std.proofs.Common.{lt-ltb, le-ltb}
use Rattle.theory_loops.specs.Fill.{Filled, tab, length_tab, get_or_tab, fill_within, fill_join}
use Rattle.file_blocks.specs.Place.{entries_in}
use Rattle.file_write.specs.{Run.head_byte, Run.entry_byte, Run.run_body, RunLaws.past_byte}
use Rattle.file_write.specs.Bytes.{stored, file_byte, file_byte_at, stored_body}
use Rattle.file_write.specs.Write.{headed, sealed, headed_filled, sealed_block}
use Rattle.file_fields.specs.Block.{block_size, summed_size, head_size, entries_size}
use Rattle.network_encode.specs.Entries.{part_byte}

-- a byte within a block's entries
within_entries : (size m : ℕ) (g : ℕ → ℕ → ℕ) → 0 < size → (x : ℕ) → x < size * m
    → entry_byte size m g x ≡ g (x / size) (x % size)
unfolding entry_byte
within_entries size m g some x l =
    rw (lt-ltb (x / size) m ((div-lt_iff_lt-mul some).1 (omega (arith, mul_comm size m))))

-- A WHOLE BLOCK
module _ (kind per size n : ℕ) (f : ℕ → ℕ → ℕ) (from b m : ℕ) (some : 0 < size)
    (e : m ≡ entries_in per n (b - from)) (fit : size * m ≤ entries_size) where
  abbrev body : ℕ → ℕ → ℕ
  body = run_body kind per size n f from

  -- its bytes in the file
  head_here : (k : ℕ) → block_size * b ≤ k → k < block_size * b + head_size
      → head_byte kind m b (k - block_size * b) ≡ file_byte body k
  unfolding run_body
  head_here k l r =
      let q : block_size * b + (k - block_size * b) ≡ k = omega arith in
      let t : file_byte body (block_size * b + (k - block_size * b)) ≡ head_byte kind m b (k - block_size * b) =
      file_byte_at body b (k - block_size * b) (omega arith)
      ∙ (stored_body body b (k - block_size * b) (omega arith)
      ∙ rw (lt-ltb (k - block_size * b) head_size (omega arith), ← e)) in
      sym (rw q at t)

  entry_here : (k : ℕ) → block_size * b + head_size ≤ k → k < block_size * b + summed_size
      → file_byte body k ≡ entry_byte size m (λ i r. f (per * (b - from) + i) r)
      (k - (block_size * b + head_size))
  unfolding run_body
  entry_here k l r =
      let q : block_size * b + (k - block_size * b) ≡ k = omega arith in
      let z : k - block_size * b - head_size ≡ k - (block_size * b + head_size) = omega arith in
      let t : file_byte body (block_size * b + (k - block_size * b))
      ≡ entry_byte size m (λ i r. f (per * (b - from) + i) r) (k - (block_size * b + head_size)) =
      file_byte_at body b (k - block_size * b) (omega arith)
      ∙ (stored_body body b (k - block_size * b) (omega arith)
      ∙ rw (le-ltb (k - block_size * b) head_size (omega arith), ← e, z)) in
      rw q at t

  part_here : (k : ℕ) → block_size * b + head_size ≤ k → k < block_size * b + head_size + size * m
      → part_byte size f (block_size * b + head_size) (per * (b - from)) k ≡ file_byte body k
  unfolding part_byte
  part_here k l r = sym
      (entry_here k l (omega arith) ∙ within_entries size m _ some (k - (block_size * b + head_size))
      (omega arith))

  zero_here : (k : ℕ) → block_size * b + head_size + size * m ≤ k → k < block_size * b + head_size + entries_size
      → 0 ≡ file_byte body k
  zero_here k l r = sym
      (entry_here k (omega arith) (omega arith) ∙ past_byte size m _ some (k - (block_size * b + head_size))
      (omega arith))

  -- what is written of it: the head, the entries, the zeros, and the check of these
  module _ (s₀ s₁ s₂ s₃ s₄ : List ℕ) (small : kind < 256) (room : block_size * b + block_size ≤ length s₀)
      (headed₁ : s₁ ≡ headed s₀ b kind m)
      (entries₂ : Filled (block_size * b + head_size) (block_size * b + head_size + size * m)
      (part_byte size f (block_size * b + head_size) (per * (b - from))) s₁ s₂)
      (zeros₃ : Filled (block_size * b + head_size + size * m) (block_size * b + head_size + entries_size) (λ _. 0)
      s₂ s₃) (sealed₄ : s₄ ≡ sealed s₃ b) where
    unchecked : Filled (block_size * b) (block_size * b + head_size + entries_size) (file_byte body) s₀ s₃
    unchecked =
        fill_join (file_byte body) (block_size * b) (block_size * b + head_size + size * m)
        (block_size * b + head_size + entries_size) s₀ s₂ s₃ (omega arith) (omega arith)
        (fill_join (file_byte body) (block_size * b) (block_size * b + head_size)
        (block_size * b + head_size + size * m) s₀ s₁ s₂ (omega arith) (omega arith)
        (rw headed₁ (fill_within _ (file_byte body) (block_size * b) (block_size * b + head_size) s₀
        (headed s₀ b kind m) head_here (headed_filled s₀ b kind m small (omega arith))))
        (fill_within _ (file_byte body) (block_size * b + head_size) (block_size * b + head_size + size * m) s₁ s₂
        part_here entries₂))
        (fill_within _ (file_byte body) (block_size * b + head_size + size * m)
        (block_size * b + head_size + entries_size) s₂ s₃ zero_here zeros₃)

    pub block_written : Filled (block_size * b) (block_size * (b + 1))
        (file_byte (run_body kind per size n f from)) s₀ s₄
    block_written =
        let z : block_size * b + head_size + entries_size ≡ block_size * b + summed_size = omega arith in
        rw sealed₄ (sealed_block body b s₀ s₃ (omega arith) (rw z at unchecked))

-- A BLOCK GIVEN BY OTHER BYTES that agree where it has any
module _ (body other : ℕ → ℕ → ℕ) (b : ℕ) (h : (o : ℕ) → body b o ≡ other b o) where
  same_tab : tab summed_size (body b) ≡ tab summed_size (other b)
  same_tab =
      ext_get_or 0 (tab summed_size (body b)) (tab summed_size (other b))
      (length_tab summed_size (body b) ∙ sym (length_tab summed_size (other b)))
      (λ o l.
      let m : o < summed_size = omega (arith, length_tab summed_size (body b)) in
      get_or_tab summed_size (body b) o m ∙ (h o ∙ sym (get_or_tab summed_size (other b) o m)))

  same_stored : (o : ℕ) → stored body b o ≡ stored other b o
  unfolding stored
  same_stored o = rw (same_tab, h o)

  pub same_block : (old new : List ℕ) → Filled (block_size * b) (block_size * (b + 1)) (file_byte body) old new
      → Filled (block_size * b) (block_size * (b + 1)) (file_byte other) old new
  same_block old new w =
      fill_within (file_byte body) (file_byte other) (block_size * b) (block_size * (b + 1)) old new
      (λ k l r.
      let q : block_size * b + (k - block_size * b) ≡ k = omega arith in
      let t : file_byte body (block_size * b + (k - block_size * b))
      ≡ file_byte other (block_size * b + (k - block_size * b)) =
      file_byte_at body b (k - block_size * b) (omega arith)
      ∙ (same_stored (k - block_size * b) ∙ sym (file_byte_at other b (k - block_size * b) (omega arith))) in
      rw q at t)
      w
