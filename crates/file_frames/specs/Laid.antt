-- A file in the making, block by block, whatever its entries mean: the bytes of each block but its check are
-- those of a body (`BodyLaid`), and an entry put at its place makes the body that has it too (`entry_laid`).
use mathlib.Core.{Path.◌≡◌, Path.refl, Path.sym, Path.◌∙◌, Path.ap, Bool.cond, List.List}
use Prim.Native.Nat.{ℕ, zero, suc, ◌+◌, ◌-◌, ◌*◌, ◌/◌, ◌%◌, ◌≤◌, ◌<◌}
use native.Mathlib.{Nat.mul-le-mul_left, Nat.mod-lt, Nat.div-add-mod, Omega.arith, Decide.dec_lt}
use lib.{ListN.length, ListN.get_or, Dec.ltb}
use borrow.Author.Tests.{lt-ltb, le-ltb}
use Rattle.theory_loops.specs.Fill.{Filled}
use Rattle.file_fields.specs.Block.{block_size, summed_size, head_size, entries_size}
use Rattle.file_fields.specs.{Fields.byte_of, Put.put, Put.put_filled}
use Rattle.file_blocks.specs.Place.{offset, blocks, entries_in, index_in, index_block, index_entry}
use Rattle.file_blocks.specs.Place.{block_below}
use Rattle.file_write.specs.{Run.entry_byte, Run.run_body, RunLaws.entry_byte_lem}

-- the first n blocks of a list have the body's bytes, what stands in their checks is anything, and the rest
-- is old
pub record BodyLaid (body : ℕ → ℕ → ℕ) (n : ℕ) (old new : List ℕ) : Type 0 where
  pub long : length new ≡ length old
  pub bytes : (b o : ℕ) → b < n → o < summed_size → get_or new (block_size * b + o) 0 ≡ body b o
  pub after : (i : ℕ) → block_size * n ≤ i → get_or new i 0 ≡ get_or old i 0

pub laid_start : (body : ℕ → ℕ → ℕ) (s : List ℕ) → BodyLaid body 0 s s
laid_start body s =
    record { long = refl; bytes = λ b o l m. absurd (omega arith); after = λ i l. refl }

pub laid_same : (body other : ℕ → ℕ → ℕ) (n : ℕ) (old new : List ℕ)
    → ((b o : ℕ) → b < n → o < summed_size → body b o ≡ other b o)
    → BodyLaid body n old new → BodyLaid other n old new
laid_same body other n old new e h =
    record { long = h.long; bytes = λ b o l m. h.bytes b o l m ∙ e b o l m; after = h.after }

-- entries of which the first q are in, and the others still zero
unfoldable pub up_to : ℕ → (ℕ → ℕ → ℕ) → ℕ → ℕ → ℕ
up_to q f i r = cond (ltb i q) (f i r) 0

abbrev pub none : ℕ → ℕ → ℕ
none i r = 0

module _ (f : ℕ → ℕ → ℕ) where
  pub up_to_none : up_to 0 f ≡ none
  unfolding up_to
  up_to_none = λ x i r. at i r x
    where
      at : (i r : ℕ) → up_to 0 f i r ≡ 0
      at i r = rw (le-ltb i 0 (omega arith))

  pub up_to_below : (n i r : ℕ) → i < n → up_to n f i r ≡ f i r
  unfolding up_to
  up_to_below n i r l = rw (lt-ltb i n l)

  up_to_other : (q i r : ℕ) → (i ≡ q → ⊥) → up_to q f i r ≡ up_to (q + 1) f i r
  unfolding up_to
  up_to_other q i r h = elim (dec_lt i q) [
    | yes l ↦ rw (lt-ltb i q l, lt-ltb i (q + 1) (omega arith))
    | no l ↦ rw (le-ltb i q (omega arith), le-ltb i (q + 1) (omega arith))
  ]

-- AN ENTRY AT ITS PLACE: entry q of a run of n, put as one number. Said once over the kind: `body` is the run
-- with the entries before q, `other` with entry q too, and outside of the run's blocks the two are one.
module _ (kind per size n : ℕ) (f : ℕ → ℕ → ℕ) (from q : ℕ) (pos : 0 < per) (some : 0 < size)
    (fit : size * per ≤ entries_size) (l : q < n) where
  -- the run at the bytes of entry q, and at all other bytes
  run_at : (g : ℕ → ℕ → ℕ) (r : ℕ) → r < size
      → run_body kind per size n g from (from + q / per) (head_size + size * (q % per) + r) ≡ g q r
  unfolding run_body
  run_at g r m =
      let e : from + q / per - from ≡ q / per = omega arith in
      let d : head_size + size * (q % per) + r - head_size ≡ size * (q % per) + r = omega arith in
      rw (e, le-ltb (head_size + size * (q % per) + r) head_size (omega arith), d)
      (entry_byte_lem size (entries_in per n (q / per)) (λ e r. g (per * (q / per) + e) r) some (q % per) r
      (index_in per pos n q l) m
      ∙ ap (λ (i : ℕ). g i r) (div-add-mod q per))

  run_other : (b o : ℕ) → from ≤ b
      → (b ≡ from + q / per → head_size + size * (q % per) ≤ o → o < head_size + size * (q % per) + size → ⊥)
      → run_body kind per size n (up_to q f) from b o ≡ run_body kind per size n (up_to (q + 1) f) from b o
  unfolding run_body entry_byte
  run_other b o a h = elim (dec_lt o head_size) [
    | yes m ↦ rw (lt-ltb o head_size m)
    | no m ↦
        let k = o - head_size in
        let j = b - from in
        rw (le-ltb o head_size (omega arith)) (elim (dec_lt (k / size) (entries_in per n j)) [
          | yes p ↦
              let i : k / size < per = omega arith in
              rw (lt-ltb (k / size) (entries_in per n j) p)
              (up_to_other f q (per * j + k / size) (k % size)
              (λ e.
              let u : q / per ≡ j = rw e at (index_block per pos j (k / size) i) in
              let v : q % per ≡ k / size = rw e at (index_entry per pos j (k / size) i) in
              let w : size * (q % per) ≡ size * (k / size) = ap (λ (x : ℕ). size * x) v in
              h (omega arith) (omega (arith, div-add-mod k size))
              (omega (arith, div-add-mod k size, mod-lt k some))))
          | no p ↦ rw (le-ltb (k / size) (entries_in per n j) (omega arith))
        ])
  ]

  module _ (body other : ℕ → ℕ → ℕ) (count : ℕ) (ends : from + blocks per n ≤ count)
      (before : (b : ℕ) → from ≤ b → b < from + blocks per n
      → body b ≡ run_body kind per size n (up_to q f) from b)
      (behind : (b : ℕ) → from ≤ b → b < from + blocks per n
      → other b ≡ run_body kind per size n (up_to (q + 1) f) from b)
      (below : (b : ℕ) → b < from → body b ≡ other b)
      (above : (b : ℕ) → from + blocks per n ≤ b → b < count → body b ≡ other b) where
    same : (b o : ℕ) → b < count
        → (b ≡ from + q / per → head_size + size * (q % per) ≤ o → o < head_size + size * (q % per) + size → ⊥)
        → body b o ≡ other b o
    same b o c h = elim (dec_lt b from) [
      | yes m ↦ ap (λ (g : ℕ → ℕ). g o) (below b m)
      | no m ↦ elim (dec_lt b (from + blocks per n)) [
        | yes p ↦ ap (λ (g : ℕ → ℕ). g o) (before b (omega arith) p)
            ∙ (run_other b o (omega arith) h ∙ sym (ap (λ (g : ℕ → ℕ). g o) (behind b (omega arith) p)))
        | no p ↦ ap (λ (g : ℕ → ℕ). g o) (above b (omega arith) c)
      ]
    ]

    there : (r : ℕ) → r < size → other (from + q / per) (head_size + size * (q % per) + r) ≡ f q r
    there r m =
        ap (λ (g : ℕ → ℕ). g (head_size + size * (q % per) + r))
        (behind (from + q / per) (omega arith) (omega (arith, block_below from per size pos fit n q l)))
        ∙ (run_at (up_to (q + 1) f) r m ∙ up_to_below f (q + 1) q r (omega arith))

    pub entry_laid : (v : ℕ) (old s t : List ℕ) → BodyLaid body count old s → block_size * count ≤ length old
        → ((r : ℕ) → r < size → f q r ≡ byte_of v r) → t ≡ put size s (offset from per size q) v
        → BodyLaid other count old t
    unfolding offset
    entry_laid v old s t h room g p =
        let at = block_size * (from + q / per) + head_size + size * (q % per) in
        let fits : size * (q % per) + size ≤ entries_size =
        omega (arith, mul-le-mul_left size (mod-lt q pos)) in
        let whole : at + size ≤ block_size * count =
        omega (arith, block_below from per size pos fit n q l) in
        let w : Filled at (at + size) (λ i. byte_of v (i - at)) s (put size s at v) =
        put_filled size s at v (omega (arith, h.long)) in
        rw p (record {
          long = w.long ∙ h.long;
          bytes = λ b o m y. elim (dec_lt (block_size * b + o) at) [
            | yes a ↦ w.before (block_size * b + o) a
                ∙ (h.bytes b o m y ∙ same b o m (λ x y z. omega arith))
            | no a ↦ elim (dec_lt (block_size * b + o) (at + size)) [
              | yes c ↦
                  let r = o - (head_size + size * (q % per)) in
                  let e : from + q / per ≡ b = omega arith in
                  let d : head_size + size * (q % per) + r ≡ o = omega arith in
                  let z : block_size * b + o - at ≡ r = omega arith in
                  let y : other (from + q / per) (head_size + size * (q % per) + r) ≡ byte_of v r =
                  there r (omega arith) ∙ g r (omega arith) in
                  let u : other b o ≡ byte_of v r = rw (e, d) at y in
                  w.written (block_size * b + o) (omega arith) c ∙ (ap (byte_of v) z ∙ sym u)
              | no c ↦ w.after (block_size * b + o) (omega arith)
                  ∙ (h.bytes b o m y ∙ same b o m (λ x y z. omega arith))
            ]
          ];
          after = λ i m. w.after i (omega arith) ∙ h.after i m;
        })

-- for code that has worked the place out
pub put_at : (s t : List ℕ) (o p : ℕ) → o ≡ p → (w v : ℕ) → t ≡ put w s o v → t ≡ put w s p v
put_at s t o p e w v f = rw e at f

-- the first n of these values put one after the other, each as an entry of a run
unfoldable pub entries_put : ℕ → ℕ → ℕ → List ℕ → ℕ → List ℕ → List ℕ
entries_put from per size values zero s = s
entries_put from per size values (suc i) s =
    put size (entries_put from per size values i s) (offset from per size i) (get_or values i 0)

module _ (from per size : ℕ) (values s : List ℕ) where
  pub put_none : s ≡ entries_put from per size values 0 s
  unfolding entries_put
  put_none = refl

  pub put_more : (i o v : ℕ) (t u : List ℕ) → t ≡ entries_put from per size values i s
      → o ≡ offset from per size i → v ≡ get_or values i 0 → u ≡ put size t o v
      → u ≡ entries_put from per size values (i + 1) s
  unfolding entries_put
  put_more i o v t u e f g h =
      let z : i + 1 ≡ suc i = omega arith in
      rw (z, entries_put, ← e, ← f, ← g) h

  pub put_end : (i n : ℕ) (t : List ℕ) → t ≡ entries_put from per size values i s → i ≤ n → n ≤ i
      → t ≡ entries_put from per size values n s
  put_end i n t e l m = let z : i ≡ n = omega arith in rw z at e
