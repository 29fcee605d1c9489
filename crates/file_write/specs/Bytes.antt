-- A whole file by its bytes. A file of n blocks is given by `body`, byte o of block b for o below 508; the
-- last four bytes of each block are the check of the others. The laws go both ways between a list and
-- `file_of`. They are equations of bytes, so it does no harm that the check cannot tell word 0 from word
-- 65,535: a file with the one in the place of the other has good sums and another body.
use mathlib.Core.{Path.◌≡◌, Path.sym, Path.ap, Path.◌∙◌, Bool.true, Bool.cond, Bool.and-eq-true_iff}
use Rattle.std.specs.Prelude.{List, ℕ, ◌+◌, ◌-◌, ◌*◌, ◌/◌, ◌%◌, ◌≤◌, ◌<◌}
use native.Mathlib.{Decide.dec_lt, Omega.arith}
use lib.{ListN.length, ListN.get_or, ListN.drop, ListN.length-drop, Dec.ltb, Dec.eqb}
use Rattle.std.proofs.Math.Seq.{ext_get_or}
use Rattle.std.proofs.Common.{get_or-take, get_or-drop, length-take-le, lt-ltb, le-ltb, eq-eqb, eqb-true}
use Rattle.theory_loops.specs.Fill.{tab, length_tab, get_or_tab}
use Rattle.file_fields.specs.Fields.{Bytes, le16, le32, byte_of, byte_of_below, le32_byte, le32_is}
use Rattle.file_fields.specs.Sum.{sums, summed_part, good, sums_below}
use Rattle.file_fields.specs.declared.sum.Sums.{Sums}
use Rattle.file_fields.specs.Block.{block_size, summed_size, summed_words}

-- A and then B, as the one number that their four bytes make
abbrev pub check : Sums → ℕ
check r = r.a + 65536 * r.b

-- byte o of block b, the check's bytes among them
unfoldable pub stored : (ℕ → ℕ → ℕ) → ℕ → ℕ → ℕ
stored body b o = cond (ltb o summed_size) (body b o)
    (byte_of (check (sums (tab summed_size (body b)) summed_words)) (o - summed_size))

-- byte i of the file, and the file
unfoldable pub file_byte : (ℕ → ℕ → ℕ) → ℕ → ℕ
file_byte body i = stored body (i / block_size) (i % block_size)

abbrev pub file_of : (ℕ → ℕ → ℕ) → ℕ → List ℕ
file_of body n = tab (block_size * n) (file_byte body)

-- a block's sum is good exactly when its check is the number in its last four bytes
module _ (file : List ℕ) (b : ℕ) where
  abbrev r : Sums
  r = sums (summed_part file b) summed_words

  next_field : block_size * b + summed_size + 2 ≡ block_size * b + (summed_size + 2)
  next_field = omega arith

  pub good_check : good file b ≡ true → le32 file (block_size * b + summed_size) ≡ check r
  good_check h =
      let p : r.a ≡ le16 file (block_size * b + summed_size) =
      eqb-true _ _ ((and-eq-true_iff (eqb r.a (le16 file (block_size * b + summed_size))) _).0 h).0 in
      let q : r.b ≡ le16 file (block_size * b + (summed_size + 2)) =
      eqb-true _ _ ((and-eq-true_iff (eqb r.a (le16 file (block_size * b + summed_size))) _).0 h).1 in
      rw next_field (omega arith)

  pub check_good : le16 file (block_size * b + summed_size) < 65536
      → le32 file (block_size * b + summed_size) ≡ check r → good file b ≡ true
  check_good l h =
      let f : le16 file (block_size * b + summed_size) + 65536 * le16 file (block_size * b + (summed_size + 2))
      ≡ check r = rw next_field at h in
      let p : r.a ≡ le16 file (block_size * b + summed_size) =
      omega (arith, sums_below (summed_part file b) summed_words) in
      let q : r.b ≡ le16 file (block_size * b + (summed_size + 2)) =
      omega (arith, sums_below (summed_part file b) summed_words) in
      rw (eq-eqb _ _ p, eq-eqb _ _ q)

-- a block with these bytes is checked over them
pub checked_body : (body : ℕ → ℕ → ℕ) (file : List ℕ) (b : ℕ) → block_size * b + summed_size ≤ length file
    → ((o : ℕ) → o < summed_size → get_or file (block_size * b + o) 0 ≡ body b o)
    → summed_part file b ≡ tab summed_size (body b)
checked_body body file b l h =
    ext_get_or 0 (summed_part file b) (tab summed_size (body b)) (long ∙ sym (length_tab summed_size (body b)))
    (λ o m.
    let k : o < summed_size = omega (arith, long) in
    get_or-take summed_size (drop (block_size * b) file) o 0 k
    ∙ (get_or-drop (block_size * b) file o 0 ∙ (h o k ∙ sym (get_or_tab summed_size (body b) o k))))
  where
    long : length (summed_part file b) ≡ summed_size
    long = length-take-le summed_size (drop (block_size * b) file) (rw length-drop (omega arith))

module _ (body : ℕ → ℕ → ℕ) where
  -- the two kinds of byte
  pub stored_body : (b o : ℕ) → o < summed_size → stored body b o ≡ body b o
  unfolding stored
  stored_body b o l = rw (lt-ltb _ _ l)

  pub stored_check : (b k : ℕ)
      → stored body b (summed_size + k) ≡ byte_of (check (sums (tab summed_size (body b)) summed_words)) k
  unfolding stored
  stored_check b k = let e : summed_size + k - summed_size ≡ k =
      omega arith in rw (le-ltb (summed_size + k) summed_size (omega arith), e)

  pub file_byte_at : (b o : ℕ) → o < block_size → file_byte body (block_size * b + o) ≡ stored body b o
  unfolding file_byte
  file_byte_at b o l =
      let q : (block_size * b + o) / block_size ≡ b = omega arith in
      let r : (block_size * b + o) % block_size ≡ o = omega arith in
      rw (q, r)

  -- FROM the definition: byte o of block b, and every sum
  pub file_byte_lem : (n b o : ℕ) → b < n → o < block_size
      → get_or (file_of body n) (block_size * b + o) 0 ≡ stored body b o
  file_byte_lem n b o l m =
      get_or_tab (block_size * n) (file_byte body) (block_size * b + o) (omega arith) ∙ file_byte_at b o m

  pub body_byte : (n b o : ℕ) → b < n → o < summed_size → get_or (file_of body n) (block_size * b + o) 0 ≡ body b o
  body_byte n b o l m = file_byte_lem n b o l (omega arith) ∙ stored_body b o m

  check_byte : (n b k : ℕ) → b < n → k < 4
      → get_or (file_of body n) (block_size * b + summed_size + k) 0
      ≡ byte_of (check (sums (tab summed_size (body b)) summed_words)) k
  check_byte n b k l m =
      let e : block_size * b + summed_size + k ≡ block_size * b + (summed_size + k) = omega arith in
      rw e (file_byte_lem n b (summed_size + k) l (omega arith) ∙ stored_check b k)

  pub file_good : (n b : ℕ) → b < n → good (file_of body n) b ≡ true
  file_good n b l =
      check_good (file_of body n) b first_field
      (le32_is (file_of body n) (block_size * b + summed_size) c
      (omega (arith, sums_below (tab summed_size (body b)) summed_words)) (λ k m. check_byte n b k l m)
      ∙ rw over)
    where
      c : ℕ
      c = check (sums (tab summed_size (body b)) summed_words)

      over : summed_part (file_of body n) b ≡ tab summed_size (body b)
      over = checked_body body (file_of body n) b (rw length_tab (omega arith)) (λ o m. body_byte n b o l m)

      first_field : le16 (file_of body n) (block_size * b + summed_size) < 65536
      first_field =
          let e : block_size * b + summed_size + 0 ≡ block_size * b + summed_size = omega arith in
          let k : get_or (file_of body n) (block_size * b + summed_size) 0 ≡ byte_of c 0 =
          rw e at (check_byte n b 0 l (omega arith)) in
          omega (arith, check_byte n b 1 l (omega arith), byte_of_below c 0, byte_of_below c 1)

  -- TO the definition: good sums and the body's bytes are all there is
  module _ (file : List ℕ) (n : ℕ) (s : Bytes file) (e : length file ≡ block_size * n)
      (g : (b : ℕ) → b < n → good file b ≡ true)
      (h : (b o : ℕ) → b < n → o < summed_size → get_or file (block_size * b + o) 0 ≡ body b o) where
    check_is : (b k : ℕ) → b < n → k < 4
        → get_or file (block_size * b + summed_size + k) 0 ≡ byte_of
        (check (sums (tab summed_size (body b)) summed_words)) k
    check_is b k l m =
        let over : summed_part file b ≡ tab summed_size (body b) =
        checked_body body file b (omega arith) (λ o q. h b o l q) in
        let c : le32 file (block_size * b + summed_size) ≡ check (sums (tab summed_size (body b)) summed_words) =
        rw over at (good_check file b (g b l)) in
        sym (le32_byte file s (block_size * b + summed_size) k m) ∙ ap (λ (v : ℕ). byte_of v k) c

    stored_is : (b o : ℕ) → b < n → o < block_size → get_or file (block_size * b + o) 0 ≡ stored body b o
    stored_is b o l m =
        elim (dec_lt o summed_size) [
          | yes k ↦ h b o l k ∙ sym (stored_body b o k)
          | no k ↦
              let p : block_size * b + summed_size + (o - summed_size) ≡ block_size * b + o = omega arith in
              let q : summed_size + (o - summed_size) ≡ o = omega arith in
              let t : get_or file (block_size * b + summed_size + (o - summed_size)) 0
              ≡ stored body b (summed_size + (o - summed_size)) =
              check_is b (o - summed_size) l (omega arith) ∙ sym (stored_check b (o - summed_size)) in
              rw (p, q) at t
        ]

    pub file_is : file ≡ file_of body n
    unfolding file_byte
    file_is =
        ext_get_or 0 file (file_of body n) (e ∙ sym (length_tab (block_size * n) (file_byte body)))
        (λ i l.
        let q : block_size * (i / block_size) + i % block_size ≡ i = omega arith in
        let k : get_or file (block_size * (i / block_size) + i % block_size) 0
        ≡ stored body (i / block_size) (i % block_size) =
        stored_is (i / block_size) (i % block_size) (omega arith) (omega arith) in
        rw q at k ∙ sym (get_or_tab (block_size * n) (file_byte body) i (omega arith)))
