-- The frames of a run of blocks, each a head and zeros up to its check (`Framed`), and the body that they
-- make: that of the run before any entry is in (`run_framed`).
use mathlib.Core.{Path.◌≡◌, Path.refl, Path.◌∙◌, Path.ap, Path.sym, List.List}
use Rattle.std.specs.Prelude.{Bool, true, false, cond, ℕ, ◌+◌, ◌-◌, ◌*◌, ◌/◌, ◌^◌, ◌≤◌, ◌<◌}
use native.Mathlib.{Omega.arith, Decide.dec_lt}
use lib.{ListN.length, ListN.get_or, Dec.ltb}
use Rattle.std.proofs.Common.{lt-ltb, le-ltb}
use Rattle.theory_loops.specs.Fill.{Filled, fill_within, fill_join}
use Rattle.file_fields.specs.Block.{block_size, summed_size, head_size, entries_size}
use Rattle.file_blocks.specs.Place.{blocks, entries_in, block_used}
use Rattle.file_write.specs.{Run.head_byte, Run.entry_byte, Run.run_body, Write.headed, Write.headed_filled}
use Rattle.file_frames.specs.Laid.{BodyLaid, none}

-- a run of n entries from block `from` on, whose frames a list of `room` bytes has room for
pub record FrameRoom (from per n room : ℕ) : Type 0 where
  pub pos : 0 < per
  pub most : per ≤ entries_size
  pub few : n < 2 ^ 32
  pub near : from + blocks per n ≤ 2 ^ 32
  pub whole : block_size * (from + blocks per n) ≤ room

-- byte o of block b that has no entry in yet, and the same byte by its place in the file
unfoldable pub frame_byte : ℕ → ℕ → ℕ → ℕ → ℕ
frame_byte kind entries b o = cond (ltb o head_size) (head_byte kind entries b o) 0

unfoldable pub block_byte : (ℕ → ℕ → ℕ) → ℕ → ℕ → ℕ
block_byte body b i = body b (i - block_size * b)

-- the first m blocks of a run of n entries have their frames, and the rest is old
pub record Framed (kind per n from m : ℕ) (old new : List ℕ) : Type 0 where
  pub long : length new ≡ length old
  pub bytes : (j o : ℕ) → j < m → o < summed_size
      → get_or new (block_size * (from + j) + o) 0 ≡ frame_byte kind (entries_in per n j) (from + j) o
  pub before : (i : ℕ) → i < block_size * from → get_or new i 0 ≡ get_or old i 0
  pub after : (i : ℕ) → block_size * (from + m) ≤ i → get_or new i 0 ≡ get_or old i 0

-- a head and zeros behind it
pub frame_written : (s t u : List ℕ) (b kind entries : ℕ) → kind < 256 → block_size * b + block_size ≤ length s
    → t ≡ headed s b kind entries
    → Filled (block_size * b + head_size) (block_size * b + summed_size) (λ _. 0) t u
    → Filled (block_size * b) (block_size * b + summed_size) (block_byte (frame_byte kind entries) b) s u
unfolding block_byte frame_byte
frame_written s t u b kind entries q l e h =
    let f : ℕ → ℕ = block_byte (frame_byte kind entries) b in
    fill_join f (block_size * b) (block_size * b + head_size) (block_size * b + summed_size) s t u (omega arith)
    (omega arith)
    (rw e (fill_within _ f (block_size * b) (block_size * b + head_size) s (headed s b kind entries)
    (λ i m n. rw (lt-ltb (i - block_size * b) head_size (omega arith)))
    (headed_filled s b kind entries q (omega arith))))
    (fill_within _ f (block_size * b + head_size) (block_size * b + summed_size) t u
    (λ i m n. rw (le-ltb (i - block_size * b) head_size (omega arith))) h)

-- FOR THE LOOP over the blocks
pub frame_starts : {from per n room : ℕ} → FrameRoom from per n room → (j m : ℕ) → m ≡ blocks per n → j < m
    → per * j ≤ n
frame_starts {from} {per} {n} r j m e l = omega (arith, block_used per r.pos n j (omega arith))

module _ (kind per n from : ℕ) where
  pub frame_start : (s : List ℕ) → Framed kind per n from 0 s s
  frame_start s = record {
    long = refl;
    bytes = λ j o l m. absurd (omega arith);
    before = λ i l. refl;
    after = λ i l. refl;
  }

  pub frame_more : (j entries : ℕ) (old s t : List ℕ) → Framed kind per n from j old s
      → entries ≡ entries_in per n j
      → Filled (block_size * (from + j)) (block_size * (from + j) + summed_size)
      (block_byte (frame_byte kind entries) (from + j)) s t
      → Framed kind per n from (j + 1) old t
  unfolding block_byte
  frame_more j entries old s t h e w = record {
    long = w.long ∙ h.long;
    bytes = λ i o l m. elim (dec_lt i j) [
      | yes p ↦ w.before (block_size * (from + i) + o) (omega arith) ∙ h.bytes i o p m
      | no p ↦
          let q : i ≡ j = omega arith in
          let z : block_size * (from + j) + o - block_size * (from + j) ≡ o = omega arith in
          rw (q, ← e) (w.written (block_size * (from + j) + o) (omega arith) (omega arith)
          ∙ ap (frame_byte kind entries (from + j)) z)
    ];
    before = λ i l. w.before i (omega arith) ∙ h.before i l;
    after = λ i l. w.after i (omega arith) ∙ h.after i (omega arith);
  }

  pub frame_end : (j m : ℕ) (old new : List ℕ) → Framed kind per n from j old new → j ≤ m → m ≤ j
      → m ≡ blocks per n → Framed kind per n from (blocks per n) old new
  frame_end j m old new h l k q = let e : j ≡ blocks per n = omega arith in rw e at h

-- A RUN FRAMED behind the blocks before it
zero_either : (t : Bool) → ◌≡◌ {A = ℕ} (cond t 0 0) 0
zero_either true = refl
zero_either false = refl

frame_body : (kind per size n from b : ℕ)
    → frame_byte kind (entries_in per n (b - from)) b ≡ run_body kind per size n none from b
unfolding frame_byte run_body entry_byte
frame_body kind per size n from b = λ x o. at o x
  where
    at : (o : ℕ) → frame_byte kind (entries_in per n (b - from)) b o ≡ run_body kind per size n none from b o
    at o = rw (zero_either (ltb ((o - head_size) / size) (entries_in per n (b - from))))

pub run_framed : (body : ℕ → ℕ → ℕ) (kind per size n from : ℕ) (old s t : List ℕ)
    → ((b : ℕ) → from ≤ b → b < from + blocks per n → body b ≡ run_body kind per size n none from b)
    → BodyLaid body from old s → Framed kind per n from (blocks per n) s t
    → BodyLaid body (from + blocks per n) old t
run_framed body kind per size n from old s t e h w = record {
  long = w.long ∙ h.long;
  bytes = λ b o l m. elim (dec_lt b from) [
    | yes p ↦ w.before (block_size * b + o) (omega arith) ∙ h.bytes b o p m
    | no p ↦
        let z : from + (b - from) ≡ b = omega arith in
        let q : get_or t (block_size * (from + (b - from)) + o) 0
        ≡ frame_byte kind (entries_in per n (b - from)) (from + (b - from)) o =
        w.bytes (b - from) o (omega arith) m in
        (rw z at q)
        ∙ ap (λ (g : ℕ → ℕ). g o) (frame_body kind per size n from b ∙ sym (e b (omega arith) l))
  ];
  after = λ i l. w.after i l ∙ h.after i (omega arith);
}
