-- The laws of a run's bytes, both ways between a block's form and fields and these bytes.
use mathlib.Core.{Path.◌≡◌, Path.refl, Path.sym, Path.ap, Path.◌∙◌, Bool.true, Bool.cond, List.List}
use Rattle.std.specs.Prelude.{ℕ, zero, suc, ◌+◌, ◌-◌, ◌*◌, ◌/◌, ◌%◌, ◌^◌, ◌≤◌, ◌<◌}
use Rattle.std.proofs.Math.Nat.{mul-add-div, mul-add-mod_self_left, div-eq_of_lt, mod-eq_of_lt, div-add-mod, min-le_left, mul_comm}
use Rattle.std.proofs.Common.{mul-le-mul_left, mul-le-mul_right, mod-lt, le-div_iff_mul-le}
use native.Mathlib.{Decide.dec_lt, Omega.arith}
use lib.{ListN.length, ListN.get_or, Seq.ext_get_or, Dec.ltb}
use borrow.Author.Tests.{lt-ltb, le-ltb}
use Rattle.theory_loops.specs.Fill.{tab, length_tab, get_or_tab}
use Rattle.file_fields.specs.Fields.{Bytes, number, byte_of, number_byte_of, number_same}
use Rattle.file_fields.specs.Fields.{le16_byte, le32_byte, le16_is, le32_is}
use Rattle.file_blocks.specs.Place.{offset, blocks, entries_in, index_in, index_below, offset_at}
use Rattle.file_blocks.specs.Place.{block_below}
use Rattle.file_write.specs.Bytes.{file_of, body_byte}
use Rattle.file_forms.specs.Form.{formed, run_formed, Formed, formed_parts, parts_formed}
use Rattle.file_fields.specs.Block.{block_size, summed_size, head_size, entries_size}
use Rattle.file_write.specs.Run.{head_byte, entry_byte, run_body, BlockLaid, RunLaid}

-- a head's bytes, field by field
module _ (kind entries b : ℕ) where
  pub head_kind : head_byte kind entries b 0 ≡ kind
  unfolding head_byte
  head_kind = refl

  pub head_zero : head_byte kind entries b 1 ≡ 0
  unfolding head_byte
  head_zero = refl

  pub head_entries : (k : ℕ) → k < 2 → head_byte kind entries b (2 + k) ≡ byte_of entries k
  unfolding head_byte
  head_entries k l =
      let e : 2 + k - 2 ≡ k = omega arith in
      rw (le-ltb (2 + k) 2 (omega arith), lt-ltb (2 + k) 4 (omega arith), e)

  pub head_number : (k : ℕ) → head_byte kind entries b (4 + k) ≡ byte_of b k
  unfolding head_byte
  head_number k =
      let e : 4 + k - 4 ≡ k = omega arith in
      rw (le-ltb (4 + k) 2 (omega arith), le-ltb (4 + k) 4 (omega arith), e)

-- the kind and the zero after it as one field
pub head_first : (kind entries b : ℕ) → kind < 256 → (k : ℕ) → k < 2
    → head_byte kind entries b (0 + k) ≡ byte_of kind k
unfolding byte_of
head_first kind entries b l zero m = head_kind kind entries b ∙ omega arith
head_first kind entries b l (suc zero) m = head_zero kind entries b ∙ omega arith
head_first kind entries b l (suc (suc k)) m = absurd (omega arith)

-- the eight bytes of a head are these
head_cases : (P : ℕ → Type 0) → P 0 → P 1 → ((k : ℕ) → k < 2 → P (2 + k)) → ((k : ℕ) → k < 4 → P (4 + k))
    → (o : ℕ) → o < head_size → P o
head_cases P p q r s zero l = p
head_cases P p q r s (suc zero) l = q
head_cases P p q r s (suc (suc k)) l =
    elim (dec_lt k 2) [
      | yes m ↦
          let e : 2 + k ≡ suc (suc k) = omega arith in
          rw e at (r k m)
      | no m ↦
          let e : 4 + (k - 2) ≡ suc (suc k) = omega arith in
          rw e at (s (k - 2) (omega arith))
    ]

-- a block is laid out so exactly when it is formed and its entries have those bytes
module _ (file : List ℕ) (b kind entries size : ℕ) (g : ℕ → ℕ → ℕ) where
  pub formed_laid : Bytes file → formed file b kind entries (head_size + size * entries) ≡ true
      → ((e r : ℕ) → e < entries → r < size → get_or file (block_size * b + head_size + size * e + r) 0 ≡ g e r)
      → BlockLaid file b kind entries size g
  formed_laid s t h =
      let f : Formed file b kind entries (head_size + size * entries) =
      formed_parts file b kind entries (head_size + size * entries) t in
      record {
        head = head_cases (λ o. get_or file (block_size * b + o) 0 ≡ head_byte kind entries b o)
            (let e : block_size * b + 0 ≡ block_size * b = omega arith in rw e
            (f.kind_is ∙ sym (head_kind kind entries b)))
            (f.zero_is ∙ sym (head_zero kind entries b))
            (λ k l.
            let e : block_size * b + (2 + k) ≡ block_size * b + 2 + k = omega arith in
            rw e (sym (le16_byte file s (block_size * b + 2) k l)
            ∙ (ap (λ (v : ℕ). byte_of v k) f.entries_is ∙ sym (head_entries kind entries b k l))))
            (λ k l.
            let e : block_size * b + (4 + k) ≡ block_size * b + 4 + k = omega arith in
            rw e (sym (le32_byte file s (block_size * b + 4) k l)
            ∙ (ap (λ (v : ℕ). byte_of v k) f.number_is ∙ sym (head_number kind entries b k))));
        entry = h;
        fill = f.fill_is;
      }

  pub laid_formed : BlockLaid file b kind entries size g → b < 2 ^ 32 → entries < 65536
      → formed file b kind entries (head_size + size * entries) ≡ true
  laid_formed h m n =
      parts_formed file b kind entries (head_size + size * entries)
      (record {
        kind_is = let e : block_size * b + 0 ≡ block_size * b =
            omega arith in rw e at (h.head 0 (omega arith)) ∙ head_kind kind entries b;
        zero_is = h.head 1 (omega arith) ∙ head_zero kind entries b;
        entries_is = le16_is file (block_size * b + 2) entries n
            (λ k l.
            let e : block_size * b + 2 + k ≡ block_size * b + (2 + k) = omega arith in
            rw e (h.head (2 + k) (omega arith) ∙ head_entries kind entries b k l));
        number_is = le32_is file (block_size * b + 4) b m
            (λ k l.
            let e : block_size * b + 4 + k ≡ block_size * b + (4 + k) = omega arith in
            rw e (h.head (4 + k) (omega arith) ∙ head_number kind entries b k));
        fill_is = h.fill;
      })

-- an entry's byte, and a byte past the entries
module _ (size entries : ℕ) (g : ℕ → ℕ → ℕ) (some : 0 < size) where
  pub entry_byte_lem : (e r : ℕ) → e < entries → r < size → entry_byte size entries g (size * e + r) ≡ g e r
  unfolding entry_byte
  entry_byte_lem e r l m =
      let q : (size * e + r) / size ≡ e = mul-add-div some e r ∙ omega (arith, div-eq_of_lt m) in
      let p : (size * e + r) % size ≡ r = mul-add-mod_self_left size e r ∙ mod-eq_of_lt m in
      rw (q, p, lt-ltb e entries l)

  pub past_byte : (k : ℕ) → size * entries ≤ k → entry_byte size entries g k ≡ 0
  unfolding entry_byte
  past_byte k l = rw (le-ltb (k / size) entries
      ((le-div_iff_mul-le some).1 (omega (arith, mul_comm size entries))))

-- the same block by one function of its bytes, both ways
module _ (file : List ℕ) (b kind entries size : ℕ) (g : ℕ → ℕ → ℕ) (some : 0 < size) where
  abbrev byte : ℕ → ℕ
  byte o = cond (ltb o head_size) (head_byte kind entries b o) (entry_byte size entries g (o - head_size))

  low : (o : ℕ) → o < head_size → byte o ≡ head_byte kind entries b o
  low o l = rw (lt-ltb o head_size l)

  high : (k : ℕ) → byte (head_size + k) ≡ entry_byte size entries g k
  high k = let e : head_size + k - head_size ≡ k =
      omega arith in rw (le-ltb (head_size + k) head_size (omega arith), e)

  pub laid_bytes : BlockLaid file b kind entries size g → (o : ℕ) → o < summed_size
      → get_or file (block_size * b + o) 0 ≡ byte o
  laid_bytes h o l =
      elim (dec_lt o head_size) [
        | yes m ↦ h.head o m ∙ sym (low o m)
        | no m ↦
            let e : head_size + (o - head_size) ≡ o = omega arith in
            let t : get_or file (block_size * b + (head_size + (o - head_size))) 0
            ≡ byte (head_size + (o - head_size)) =
            after (o - head_size) (omega arith) ∙ sym (high (o - head_size)) in
            rw e at t
      ]
    where
      after : (k : ℕ) → k < entries_size
          → get_or file (block_size * b + (head_size + k)) 0 ≡ entry_byte size entries g k
      after k l =
          elim (dec_lt (k / size) entries) [
            | yes m ↦
                let q : size * (k / size) + k % size ≡ k = div-add-mod k size in
                let p : block_size * b + head_size + size * (k / size) + k % size ≡ block_size * b
                + (head_size + k) = omega arith in
                let t : get_or file (block_size * b + head_size + size * (k / size) + k % size) 0
                ≡ entry_byte size entries g (size * (k / size) + k % size) =
                h.entry (k / size) (k % size) m (mod-lt k some)
                ∙ sym (entry_byte_lem size entries g some (k / size) (k % size) m (mod-lt k some)) in
                rw (p, q) at t
            | no m ↦
                let n : entries ≤ k / size = omega arith in
                let q : size * entries ≤ k =
                omega (arith, (le-div_iff_mul-le some).0 n, mul_comm size entries) in
                h.fill (block_size * b + (head_size + k)) (omega arith) (omega arith)
                ∙ sym (past_byte size entries g some k q)
          ]

  pub bytes_laid : size * entries ≤ entries_size
      → ((o : ℕ) → o < summed_size → get_or file (block_size * b + o) 0 ≡ byte o)
      → BlockLaid file b kind entries size g
  bytes_laid fit h =
      record {
        head = λ o l. h o (omega arith) ∙ low o l;
        entry = λ e r l m.
            let n : size * (e + 1) ≤ size * entries = mul-le-mul_left size (omega arith) in
            let p : block_size * b + head_size + size * e + r ≡ block_size * b + (head_size + (size * e + r)) =
            omega arith in
            rw p (h (head_size + (size * e + r)) (omega arith)
            ∙ (high (size * e + r) ∙ entry_byte_lem size entries g some e r l m));
        fill = λ i l m.
            let p : block_size * b + (head_size + (i - (block_size * b + head_size))) ≡ i = omega arith in
            let t : get_or file (block_size * b + (head_size + (i - (block_size * b + head_size)))) 0 ≡ 0 =
            h (head_size + (i - (block_size * b + head_size))) (omega arith)
            ∙ (high (i - (block_size * b + head_size)) ∙ past_byte size entries g some
            (i - (block_size * b + head_size)) (omega arith)) in
            rw p at t;
      }

module _ (file : List ℕ) (from kind per size n : ℕ) (f : ℕ → ℕ → ℕ) (pos : 0 < per) (some : 0 < size)
    (fit : size * per ≤ entries_size) where
  fits : (j : ℕ) → size * entries_in per n j ≤ entries_size
  fits j = omega (arith, mul-le-mul_left size (min-le_left per (n - per * j)))

  -- a block of the run has the body's bytes exactly when it is laid out so
  pub laid_run : (j : ℕ) → RunLaid file from kind per size n f j → (o : ℕ) → o < summed_size
      → get_or file (block_size * (from + j) + o) 0 ≡ run_body kind per size n f from (from + j) o
  unfolding run_body
  laid_run j h o l =
      let e : from + j - from ≡ j = omega arith in
      rw e (laid_bytes file (from + j) kind (entries_in per n j) size (λ e r. f (per * j + e) r) some h o l)

  pub run_laid : (j : ℕ)
      → ((o : ℕ) → o < summed_size → get_or file (block_size * (from + j) + o) 0
      ≡ run_body kind per size n f from (from + j) o) → RunLaid file from kind per size n f j
  unfolding run_body
  run_laid j h =
      let e : from + j - from ≡ j = omega arith in
      bytes_laid file (from + j) kind (entries_in per n j) size (λ e r. f (per * j + e) r) some (fits j)
      (λ o l. rw e at (h o l))

  -- FROM the tests: a run that is formed, with these bytes at its entries' places
  pub run_formed_lem : Bytes file
      → ((i r : ℕ) → i < n → r < size → get_or file (offset from per size i + r) 0 ≡ f i r)
      → (j : ℕ) → run_formed file from kind per size n j ≡ true → RunLaid file from kind per size n f j
  run_formed_lem s h j t =
      formed_laid file (from + j) kind (entries_in per n j) size (λ e r. f (per * j + e) r) s t
      (λ e r l m. rw (← offset_at from per size pos j e (omega (arith, min-le_left per (n - per * j))))
      (h (per * j + e) r (index_below per pos n j e l) m))

  -- TO the tests: its blocks are formed, and the bytes of entry i stand at its place
  pub formed_run : (j : ℕ) → from + j < 2 ^ 32 → RunLaid file from kind per size n f j
      → run_formed file from kind per size n j ≡ true
  formed_run j l h = laid_formed file (from + j) kind (entries_in per n j) size (λ e r. f (per * j + e) r) h l
      (omega (arith, fits j, mul-le-mul_right (entries_in per n j) some))

  module _ (h : (j : ℕ) → j < blocks per n → RunLaid file from kind per size n f j) where
    module _ (i : ℕ) (l : i < n) where
      run_byte : (r : ℕ) → r < size → get_or file (offset from per size i + r) 0 ≡ f i r
      unfolding offset
      run_byte r m =
          let q : per * (i / per) + i % per ≡ i = div-add-mod i per in
          let t : get_or file (block_size * (from + i / per) + head_size + size * (i % per) + r) 0
          ≡ f (per * (i / per) + i % per) r =
          (h (i / per) (block_below from per size pos fit n i l)).entry (i % per) r (index_in per pos n i l)
          m in
          rw q at t

      -- so a field of entry i is the number that its bytes make
      run_field : (at w : ℕ) → at + w ≤ size
          → number w (λ k. get_or file (offset from per size i + at + k) 0) ≡ number w (λ k. f i (at + k))
      run_field at w m =
          number_same w (λ k. get_or file (offset from per size i + at + k) 0) (λ k. f i (at + k))
          (λ k q.
          let e : offset from per size i + at + k ≡ offset from per size i + (at + k) = omega arith in
          rw e (run_byte (at + k) (omega arith)))

      run_value : (at w v : ℕ) → at + w ≤ size → v < 256 ^ w → ((k : ℕ) → k < w → f i (at + k) ≡ byte_of v k)
          → number w (λ k. get_or file (offset from per size i + at + k) 0) ≡ v
      run_value at w v m q g =
          run_field at w m ∙ (number_same w (λ k. f i (at + k)) (byte_of v) g ∙ number_byte_of w v q)

    -- and the table of one field of all entries is the list of their values
    pub run_table : (at w : ℕ) (g : ℕ → ℕ) (s : List ℕ) → at + w ≤ size → length s ≡ n
        → ((i : ℕ) → get_or s i 0 < 256 ^ w)
        → ((i : ℕ) → g i ≡ number w (λ k. get_or file (offset from per size i + at + k) 0))
        → ((i k : ℕ) → k < w → f i (at + k) ≡ byte_of (get_or s i 0) k) → tab n g ≡ s
    run_table at w g s m e v t q =
        ext_get_or 0 (tab n g) s (length_tab n g ∙ sym e)
        (λ i l.
        let k : i < n = omega (arith, length_tab n g) in
        get_or_tab n g i k ∙ (t i ∙ run_value i k at w (get_or s i 0) m (v i) (q i)))

-- the run's blocks in a file whose body has them
pub file_run : (body : ℕ → ℕ → ℕ) (count from kind per size n : ℕ) (f : ℕ → ℕ → ℕ) → 0 < per → 0 < size
    → size * per ≤ entries_size → (j : ℕ) → from + j < count
    → body (from + j) ≡ run_body kind per size n f from (from + j)
    → RunLaid (file_of body count) from kind per size n f j
file_run body count from kind per size n f pos some fit j l e =
    run_laid (file_of body count) from kind per size n f pos some fit j
    (λ o k. body_byte body count (from + j) o l k ∙ ap (λ (g : ℕ → ℕ). g o) e)

-- A RUN GIVEN BY OTHER BYTES that agree where it has any: entries below n
module _ (kind per size n : ℕ) (f g : ℕ → ℕ → ℕ) (pos : 0 < per) (h : (i r : ℕ) → i < n → f i r ≡ g i r) where
  same_entries : (j k : ℕ)
      → entry_byte size (entries_in per n j) (λ e r. f (per * j + e) r) k
      ≡ entry_byte size (entries_in per n j) (λ e r. g (per * j + e) r) k
  unfolding entry_byte
  same_entries j k = elim (dec_lt (k / size) (entries_in per n j)) [
    | yes l ↦ rw (lt-ltb (k / size) (entries_in per n j) l)
        (h (per * j + k / size) (k % size) (index_below per pos n j (k / size) l))
    | no l ↦ rw (le-ltb (k / size) (entries_in per n j) (omega arith))
  ]

  pub same_body : (from b o : ℕ) → run_body kind per size n f from b o ≡ run_body kind per size n g from b o
  unfolding run_body
  same_body from b o =
      ap (λ (x : ℕ). cond (ltb o head_size) (head_byte kind (entries_in per n (b - from)) b o) x)
      (same_entries (b - from) (o - head_size))
