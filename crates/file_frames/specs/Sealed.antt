-- The checks of a file whose other bytes stand: each block in its order (`sealed_to`). A file in the making is
-- the body's file then (`laid_sealed`).
use mathlib.Core.{Path.◌≡◌, Path.refl, Path.sym, Path.◌∙◌, List.List}
use Prim.Native.Nat.{ℕ, zero, suc, ◌+◌, ◌-◌, ◌*◌, ◌≤◌}
use native.Mathlib.Omega.{arith}
use Rattle.std.specs.Prelude.{length}
use Rattle.std.proofs.Math.ListN.{get_or}
use Rattle.theory_loops.specs.Fill.{Filled, fill_none, fill_join, filled_list, length_tab, overwritten}
use Rattle.file_fields.specs.Block.{block_size, summed_size}
use Rattle.file_write.specs.Bytes.{file_byte, file_of, file_byte_at, stored_body}
use Rattle.file_write.specs.Write.{sealed, sealed_block}
use Rattle.file_frames.specs.Laid.{BodyLaid}

-- the checks of the first n blocks
unfoldable pub sealed_to : ℕ → List ℕ → List ℕ
sealed_to zero s = s
sealed_to (suc b) s = sealed (sealed_to b s) b

pub sealed_none : (s : List ℕ) → s ≡ sealed_to 0 s
unfolding sealed_to
sealed_none s = refl

pub sealed_more : (b : ℕ) (s t u : List ℕ) → t ≡ sealed_to b s → u ≡ sealed t b → u ≡ sealed_to (b + 1) s
unfolding sealed_to
sealed_more b s t u e f = let z : b + 1 ≡ suc b = omega arith in rw (z, sealed_to, ← e) f

pub sealed_end : (b n : ℕ) (s t : List ℕ) → t ≡ sealed_to b s → b ≤ n → n ≤ b → t ≡ sealed_to n s
sealed_end b n s t e l m = let z : b ≡ n = omega arith in rw z at e

module _ (body : ℕ → ℕ → ℕ) (n : ℕ) (old s : List ℕ) (h : BodyLaid body n old s)
    (room : block_size * n ≤ length old) where
  sealed_part : (b : ℕ) → b ≤ n → Filled 0 (block_size * b) (file_byte body) s (sealed_to b s)
  unfolding sealed_to
  sealed_part zero l = fill_none (file_byte body) s 0
  sealed_part (suc b) l =
      let z : b + 1 ≡ suc b = omega arith in
      let t = sealed_to b s in
      let g : Filled 0 (block_size * b) (file_byte body) s (sealed_to b s) = sealed_part b (omega arith) in
      let here : Filled (block_size * b) (block_size * b + summed_size) (file_byte body) t t = record {
        long = refl;
        written = λ i p q.
            let o = i - block_size * b in
            let e : block_size * b + o ≡ i = omega arith in
            let y : get_or s (block_size * b + o) 0 ≡ file_byte body (block_size * b + o) =
            h.bytes b o (omega arith) (omega arith)
            ∙ sym (file_byte_at body b o (omega arith) ∙ stored_body body b o (omega arith)) in
            g.after i p ∙ (rw e at y);
        before = λ i p. refl;
        after = λ i p. refl;
      } in
      fill_join (file_byte body) 0 (block_size * b) (block_size * suc b) s t (sealed t b) (omega arith)
      (omega arith) g (rw z at (sealed_block body b t t (omega (arith, g.long, h.long)) here))

  pub laid_sealed : (t : List ℕ) → t ≡ sealed_to n s → t ≡ overwritten (file_of body n) old
  laid_sealed t e =
      let g = sealed_part n (omega arith) in
      let w : Filled 0 (block_size * n) (file_byte body) old (sealed_to n s) = record {
        long = g.long ∙ h.long;
        written = g.written;
        before = λ i p. absurd (omega arith);
        after = λ i p. g.after i p ∙ h.after i p;
      } in
      e ∙ rw length_tab (filled_list (file_byte body) (block_size * n) old (sealed_to n s) room w)
