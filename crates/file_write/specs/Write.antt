-- A block written: its head, and its check once all its other bytes stand. Each is said by the list that it
-- leaves, and by which bytes change and to what; a file is written from its start on, so what is written so
-- far is a part of `file_byte`, and each step writes the part further.
use mathlib.Core.{Path.◌≡◌, Path.sym, Path.ap, Path.◌∙◌, List.List}
use Rattle.std.specs.Prelude.{ℕ, ◌+◌, ◌-◌, ◌*◌, ◌≤◌, ◌<◌, length, take, drop}
use native.Mathlib.Omega.{arith}
use Rattle.theory_loops.specs.Fill.{Filled, tab, fill_none, fill_within, fill_join}
use Rattle.file_fields.specs.{Fields.byte_of, Put.put, Put.put_filled, Put.put_join, Put.fill_put}
use Rattle.file_fields.specs.Sum.{sums, summed_part, sums_below, sums_at}
use Rattle.file_fields.specs.declared.sum.Sums.{Sums}
use Rattle.file_write.specs.Bytes.{check, file_byte, file_byte_at, stored_body, stored_check}
use Rattle.file_write.specs.{Bytes.checked_body, Run.head_byte}
use Rattle.file_write.specs.RunLaws.{head_first, head_entries, head_number}
use Rattle.file_fields.specs.Block.{block_size, summed_size, head_size, summed_words}

-- the list with block b's head: the kind with the zero byte after it, the entries, the block's number
unfoldable pub headed : List ℕ → ℕ → ℕ → ℕ → List ℕ
headed s b kind entries =
    put 4 (put 2 (put 2 s (block_size * b) kind) (block_size * b + 2) entries) (block_size * b + 4) b

-- the list with block b's check
unfoldable pub sealed : List ℕ → ℕ → List ℕ
sealed s b = put 4 s (block_size * b + summed_size) (check (sums (summed_part s b) summed_words))

-- a part that is written up to a block's start is written on by its head
module _ (f : ℕ → ℕ) (a b kind entries : ℕ) (old new : List ℕ) (l : a ≤ block_size * b)
    (m : block_size * b + head_size ≤ length old)
    (e : (o : ℕ) → o < head_size → head_byte kind entries b o ≡ f (block_size * b + o)) where
  -- the field of w bytes at o of the head, v its value
  field : (w o v : ℕ) (s : List ℕ) → o + w ≤ head_size
      → ((k : ℕ) → k < w → head_byte kind entries b (o + k) ≡ byte_of v k)
      → Filled a (block_size * b + o) f old s
      → Filled a (block_size * b + (o + w)) f old (put w s (block_size * b + o) v)
  field w o v s q g h =
      let r : block_size * b + o + w ≡ block_size * b + (o + w) = omega arith in
      rw (← r)
      (fill_put w f a (block_size * b + o) v old s h (omega arith) (omega arith)
      (λ k n.
      let p : block_size * b + (o + k) ≡ block_size * b + o + k = omega arith in
      sym (g k n) ∙ (e (o + k) (omega arith) ∙ ap f p)))

  pub fill_head : kind < 256 → Filled a (block_size * b) f old new
      → Filled a (block_size * b + head_size) f old (headed new b kind entries)
  unfolding headed
  fill_head q h =
      let z : block_size * b + 0 ≡ block_size * b = omega arith in
      let one : Filled a (block_size * b + (0 + 2)) f old (put 2 new (block_size * b + 0) kind) =
      field 2 0 kind new (omega arith) (head_first kind entries b q) (rw z h) in
      field 4 4 b _ (omega arith) (λ k n. head_number kind entries b k)
      (field 2 2 entries _ (omega arith) (λ k n. head_entries kind entries b k n) (rw z at one))

-- so a head alone writes its eight bytes, and nothing else
pub headed_filled : (s : List ℕ) (b kind entries : ℕ) → kind < 256 → block_size * b + head_size ≤ length s
    → Filled (block_size * b) (block_size * b + head_size) (λ i. head_byte kind entries b (i - block_size * b)) s
    (headed s b kind entries)
headed_filled s b kind entries q l =
    fill_head (λ i. head_byte kind entries b (i - block_size * b)) (block_size * b) b kind entries s s
    (omega arith) l
    (λ o m.
    let e : o ≡ block_size * b + o - block_size * b = omega arith in
    ap (head_byte kind entries b) e)
    q
    (fill_none _ s (block_size * b))

-- a check alone writes its four bytes, and nothing else
pub sealed_filled : (s : List ℕ) (b : ℕ) → block_size * b + block_size ≤ length s
    → Filled (block_size * b + summed_size) (block_size * b + summed_size + 4)
    (λ i. byte_of (check (sums (summed_part s b) summed_words)) (i - (block_size * b + summed_size))) s
    (sealed s b)
unfolding sealed
sealed_filled s b l =
    put_filled 4 s (block_size * b + summed_size) (check (sums (summed_part s b) summed_words)) (omega arith)

-- so a block whose other bytes are a file's is made whole by its check
module _ (body : ℕ → ℕ → ℕ) (b : ℕ) (old new : List ℕ) (room : block_size * b + block_size ≤ length old)
    (w : Filled (block_size * b) (block_size * b + summed_size) (file_byte body) old new) where
  over : summed_part new b ≡ tab summed_size (body b)
  over = checked_body body new b (omega (arith, w.long))
      (λ o l. w.written (block_size * b + o) (omega arith) (omega arith)
      ∙ (file_byte_at body b o (omega arith) ∙ stored_body body b o l))

  check_here : (k : ℕ) → block_size * b + summed_size ≤ k → k < block_size * b + summed_size + 4
      → byte_of (check (sums (summed_part new b) summed_words)) (k - (block_size * b + summed_size))
      ≡ file_byte body k
  check_here k l r =
      let q : block_size * b + (summed_size + (k - (block_size * b + summed_size))) ≡ k = omega arith in
      let t : file_byte body (block_size * b + (summed_size + (k - (block_size * b + summed_size))))
      ≡ byte_of (check (sums (tab summed_size (body b)) summed_words)) (k - (block_size * b + summed_size)) =
      file_byte_at body b (summed_size + (k - (block_size * b + summed_size))) (omega arith)
      ∙ stored_check body b (k - (block_size * b + summed_size)) in
      rw over (sym (rw q at t))

  pub sealed_block : Filled (block_size * b) (block_size * (b + 1)) (file_byte body) old (sealed new b)
  sealed_block =
      let q : block_size * b + summed_size + 4 ≡ block_size * (b + 1) = omega arith in
      rw (← q)
      (fill_join (file_byte body) (block_size * b) (block_size * b + summed_size) (block_size * b + summed_size + 4)
      old new (sealed new b) (omega arith) (omega arith) w
      (fill_within _ (file_byte body) (block_size * b + summed_size) (block_size * b + summed_size + 4) new
      (sealed new b) check_here (sealed_filled new b (omega (arith, w.long)))))

-- FOR THE CODE, which stores one field after the other
pub headed_is : (s t u v : List ℕ) (b kind entries : ℕ) → t ≡ put 2 s (block_size * b) kind
    → u ≡ put 2 t (block_size * b + 2) entries → v ≡ put 4 u (block_size * b + 4) b
    → v ≡ headed s b kind entries
unfolding headed
headed_is s t u v b kind entries e f g = rw (g, f, e)

pub sealed_is : (s t u : List ℕ) (b : ℕ) (r : Sums)
    → r ≡ sums (take (block_size * b + summed_size - block_size * b) (drop (block_size * b) s)) summed_words
    → t ≡ put 2 s (block_size * b + summed_size) r.a → u ≡ put 2 t (block_size * b + summed_size + 2) r.b
    → u ≡ sealed s b
unfolding sealed
sealed_is s t u b r q e f =
    let c : r ≡ sums (summed_part s b) summed_words = sums_at s b r q in
    let l : r.a < 65536 = rw c (sums_below (summed_part s b) summed_words).0 in
    put_join 2 2 s t u (block_size * b + summed_size) r.a r.b l e f ∙ rw c
