-- Where a walk by bytes over the entries of a run stands before entry i: the byte at which that starts, and
-- how many entries its block has from it on. The laws say that a step takes it before entry i + 1, and what
-- code reads where it stands.
use mathlib.Core.{Path.◌≡◌, Path.refl, Path.◌∙◌, Path.ap, Bool.Bool, Bool.true, Bool.false, Bool.cond}
use Rattle.std.specs.Prelude.{List, ℕ, ◌+◌, ◌-◌, ◌*◌, ◌/◌, ◌%◌, ◌^◌, ◌≤◌, ◌<◌}
use native.Mathlib.{Nat.mod-lt, Nat.div-add-mod, Omega.arith}
use lib.{ListN.length, Dec.ltb}
use Rattle.std.proofs.Common.{ltb-true, ltb-false}
use Rattle.file_blocks.specs.Place.{offset, offset_in, index_block, index_entry, EntryInFile}
use Rattle.file_blocks.specs.Table.{entry}
use Rattle.file_blocks.specs.declared.walk.Walk.{Walk}
use Rattle.file_fields.specs.Block.{block_size, head_size, entries_size}

abbrev pub walk_at : ℕ → ℕ → ℕ → ℕ → Walk
walk_at from per size i = record { at = offset from per size i; left = per - i % per }

-- one entry on: the next of the block, or the first of the next block
unfoldable pub stepped : ℕ → ℕ → Walk → Walk
stepped per size c = cond (ltb 1 c.left) (record { at = c.at + size; left = c.left - 1 })
    (record { at = c.at + size + (block_size - size * per); left = per })

module _ (from per size i : ℕ) (pos : 0 < per) (fit : size * per ≤ entries_size) where
  pub walk_next : stepped per size (walk_at from per size i) ≡ walk_at from per size (i + 1)
  unfolding stepped offset
  walk_next = go (ltb 1 (per - i % per)) refl
    where
      is : per * (i / per) + i % per ≡ i
      is = div-add-mod i per

      go : (t : Bool) → ltb 1 (per - i % per) ≡ t
          → cond t (record { at = offset from per size i + size; left = per - i % per - 1 })
          (record { at = offset from per size i + size + (block_size - size * per); left = per })
          ≡ walk_at from per size (i + 1)
      go true e =
          let l : 1 < per - i % per = ltb-true _ _ e in
          let o : i % per + 1 < per = omega arith in
          let q : i + 1 ≡ per * (i / per) + (i % per + 1) = omega (arith, is) in
          let a : block_size * (from + i / per) + head_size + size * (i % per) + size
          ≡ block_size * (from + i / per) + head_size + size * (i % per + 1) = omega arith in
          let b : per - i % per - 1 ≡ per - (i % per + 1) = omega arith in
          rw (q, index_block per pos (i / per) (i % per + 1) o, index_entry per pos (i / per) (i % per + 1) o)
          (rw (a, b))
      go false e =
          let m : per - i % per ≤ 1 = ltb-false _ _ e in
          let z : i % per + 1 ≡ per = omega (arith, mod-lt i pos) in
          let q : i + 1 ≡ per * (i / per + 1) + 0 = omega (arith, is) in
          let w : size * (i % per + 1) ≡ size * per = ap (λ (n : ℕ). size * n) z in
          let a : block_size * (from + i / per) + head_size + size * (i % per) + size
          + (block_size - size * per) ≡ block_size * (from + (i / per + 1)) + head_size + size * 0 = omega (arith, w) in
          let b : per - 0 ≡ per = omega arith in
          rw (q, index_block per pos (i / per + 1) 0 pos, index_entry per pos (i / per + 1) 0 pos)
          (rw (a, b))

-- FOR CODE that steps from entry i + k, which stands in the file, to the next
pub walk_first : {c : Walk} (from per size i : ℕ) → c ≡ walk_at from per size i
    → c ≡ walk_at from per size (i + 0)
walk_first from per size i e = let z : i + 0 ≡ i = omega arith in rw z e

module _ {from per size : ℕ} {file : List ℕ} (i k : ℕ) (n : EntryInFile from per size (i + k) file)
    {c : Walk} (e : c ≡ walk_at from per size (i + k)) where
  pub walk_may : (0 < per) × (size * per ≤ entries_size) × (c.at + block_size < 2 ^ 64)
  walk_may =
      (n.pos, n.fit, rw e (omega (arith, n.near, offset_in from per size n.pos n.fit (i + k))))

  pub walk_on : {d : Walk} → d ≡ stepped per size c → d ≡ walk_at from per size (i + (k + 1))
  walk_on f =
      let z : i + (k + 1) ≡ i + k + 1 = omega arith in
      rw z (f ∙ ap (stepped per size) e ∙ walk_next from per size (i + k) n.pos n.fit)

-- FOR CODE that stands before entry i: its field of w bytes at byte `at` stands in the file, and what f reads
-- there is the entry's
module _ {from per size i : ℕ} {file : List ℕ} (n : EntryInFile from per size i file) {c : Walk}
    (e : c ≡ walk_at from per size i) where
  pub walk_there : (at w : ℕ) → at + w ≤ size → c.at + at + w ≤ length file
  walk_there at w l = rw e (omega (arith, n.room))

  pub walk_entry : (f : List ℕ → ℕ → ℕ) (at : ℕ) {r : ℕ} → r ≡ f file (c.at + at)
      → r ≡ entry f file from per size at i
  walk_entry f at q = rw e at q
