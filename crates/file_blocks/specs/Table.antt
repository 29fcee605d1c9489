-- The fields of a kind's entries: one that is read in place is the table's, and a table is filled from those
-- of 16 bits block by block, so that no entry costs a division.
use mathlib.Core.{Path.◌≡◌, Path.sym, Path.◌∙◌, List.List}
use Rattle.std.specs.Prelude.{ℕ, ◌+◌, ◌-◌, ◌*◌, ◌≤◌, ◌<◌, min, length, get_or, set}
use native.Mathlib.{Nat.mul-le-mul_left, Nat.lt-div-mul-add, Nat.mul_comm, Omega.arith}
use Rattle.theory_loops.specs.Fill.{Filled, fill_none, fill_up, fill_end, fill_within, fill_join}
use Rattle.theory_loops.specs.Fill.{tab, get_or_tab}
use Rattle.file_fields.specs.{Fields.le16, Fields.le32, Fields.le64, Block.block_size, Block.head_size}
use Rattle.file_blocks.specs.Place.{offset, blocks, entries_in, RunInFile, offset_at, block_starts}

-- the field at byte `at` of entry i, read by w: of two, of four or of eight bytes
abbrev pub entry : (List ℕ → ℕ → ℕ) → List ℕ → ℕ → ℕ → ℕ → ℕ → ℕ → ℕ
entry w file from per size at i = w file (offset from per size i + at)

abbrev pub entry16 : List ℕ → ℕ → ℕ → ℕ → ℕ → ℕ → ℕ
entry16 = entry le16

abbrev pub entry32 : List ℕ → ℕ → ℕ → ℕ → ℕ → ℕ → ℕ
entry32 = entry le32

abbrev pub entry64 : List ℕ → ℕ → ℕ → ℕ → ℕ → ℕ → ℕ
entry64 = entry le64

-- FOR CODE that reads it in place: it is the table's, where the run starts and ends as the table says
pub entry_is : (w : List ℕ → ℕ → ℕ) (file : List ℕ) (per size at : ℕ) {from first n m i r : ℕ}
    → from ≡ first → n ≡ m → i < n → r ≡ entry w file from per size at i
    → r ≡ get_or (tab m (entry w file first per size at)) i 0
entry_is w file per size at {first = first} p q l e =
    (rw p at e) ∙ sym (get_or_tab _ (entry w file first per size at) _ (rw q at l))

-- the same field of the entries that start at `base`, the first of them entry `first`
unfoldable pub part16 : List ℕ → ℕ → ℕ → ℕ → ℕ → ℕ → ℕ
part16 file base size at first i = le16 file (base + size * (i - first) + at)

-- FOR THE LOOP over a block's entries
module _ (file : List ℕ) (base size at first : ℕ) where
  pub part_none : (old : List ℕ) → Filled first (first + 0) (part16 file base size at first) old old
  part_none old = let z : first + 0 ≡ first =
      omega arith in rw z (fill_none (part16 file base size at first) old first)

  pub part_more : (m e v : ℕ) (old new : List ℕ)
      → Filled first (first + e) (part16 file base size at first) old new → e < m → first + m ≤ length old
      → v ≡ le16 file (base + size * e + at)
      → Filled first (first + (e + 1)) (part16 file base size at first) old (set new (first + e) v)
  unfolding part16
  part_more m e v old new h l k q =
      let z : first + e - first ≡ e = omega arith in
      fill_end _ old first (first + e + 1) (first + (e + 1)) _
      (fill_up (part16 file base size at first) old first (first + e) v new h (omega arith) (omega arith)
      (rw z q))
      (omega arith)
      (omega arith)

  pub part_end : (m e : ℕ) (old new : List ℕ)
      → Filled first (first + e) (part16 file base size at first) old new → e ≤ m → m ≤ e
      → Filled first (first + m) (part16 file base size at first) old new
  part_end m e old new h l k = let q : e ≡ m = omega arith in rw q at h

pub ruleset parts = (part_none, part_more, part_end)

-- FOR THE LOOP over the blocks: before block j the entries of the blocks passed are written
module _ (file : List ℕ) (from per size at n : ℕ) where
  pub whole_none : (old : List ℕ) → Filled 0 (min n (per * 0)) (entry16 file from per size at) old old
  whole_none old = let z : min n (per * 0) ≡ 0 =
      omega arith in rw z (fill_none (entry16 file from per size at) old 0)

  module _ (s : RunInFile from per size n file) where
    -- an entry of block j at its place in the block
    part_whole : (j i : ℕ) → per * j ≤ i → i < per * j + per
        → part16 file (block_size * (from + j) + head_size) size at (per * j) i
        ≡ entry16 file from per size at i
    unfolding part16
    part_whole j i l m =
        let q : per * j + (i - per * j) ≡ i = omega arith in
        let o : offset from per size (per * j + (i - per * j)) ≡ block_size * (from + j) + head_size
        + size * (i - per * j) = offset_at from per size s.pos j (i - per * j) (omega arith) in
        let p : offset from per size i ≡ block_size * (from + j) + head_size + size * (i - per * j) =
        rw q at o in
        rw p

    pub whole_more : (j m : ℕ) (old mid new : List ℕ)
        → Filled 0 (min n (per * j)) (entry16 file from per size at) old mid → j < blocks per n
        → m ≡ entries_in per n j
        → Filled (per * j) (per * j + m) (part16 file (block_size * (from + j) + head_size) size at (per * j))
        mid new
        → Filled 0 (min n (per * (j + 1))) (entry16 file from per size at) old new
    whole_more j m old mid new h l e g =
        let q : min n (per * j) ≡ per * j = omega (arith, block_starts from per size n file s j l) in
        let r : per * j + m ≡ min n (per * (j + 1)) =
        omega (arith, block_starts from per size n file s j l) in
        let k : Filled 0 (per * j) (entry16 file from per size at) old mid = rw q at h in
        rw (← r)
        (fill_join (entry16 file from per size at) 0 (per * j) (per * j + m) old mid new (omega arith)
        (omega arith) k
        (fill_within _ _ (per * j) (per * j + m) mid new (λ i a b. part_whole j i a (omega arith)) g))

    pub whole_end : (j : ℕ) (old new : List ℕ)
        → Filled 0 (min n (per * j)) (entry16 file from per size at) old new → blocks per n ≤ j
        → Filled 0 n (entry16 file from per size at) old new
    whole_end j old new h l =
        let w : n ≤ per * blocks per n =
        omega (arith, lt-div-mul-add {a = n + (per - 1)} s.pos, mul_comm per (blocks per n), s.pos) in
        let q : min n (per * j) ≡ n = omega (arith, mul-le-mul_left per l) in
        rw q at h

pub ruleset wholes = (whole_none, whole_more, whole_end)
