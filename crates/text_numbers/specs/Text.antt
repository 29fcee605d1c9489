-- Texts as bytes, and what code leaves that stores a text in lent bytes (`Stored`). Texts that are stored one
-- after the other are one text stored (`stored_then`).
use Prim.Native.{Nat.ℕ, Nat.◌+◌, Nat.◌≤◌, Char.code}
use Prim.Native.String.{String, [] as blank, ◌∷◌ as ◌before◌}
use mathlib.Core.{Path.◌≡◌, Path.refl, Path.sym, Path.◌∙◌, List.List, List.[], List.◌∷◌, List.◌++◌}
use native.Mathlib.{Nat.add-zero, Omega.arith}
use Rattle.std.specs.Prelude.{length, take, drop, slice_set}
use Rattle.std.proofs.Common.{length-append, append_assoc, drop-drop}
use Rattle.std.proofs.lemmas.List.Edits.{sets, sets-eq}
use borrow.Rule.Slice.PartMut.{put_mid}
use Rattle.theory_loops.specs.Stores.{sets_append}

-- the bytes of a text in ASCII
abbrev pub ascii : String → List ℕ
ascii blank = []
ascii (c before s) = code c ∷ ascii s

-- the byte that ends a line
abbrev pub line_feed : List ℕ
line_feed = ascii "\n"

-- The text stored from byte `at` on, up to `end`; the other bytes are the old ones.
pub record Stored (old new : List ℕ) (at end : ℕ) (text : List ℕ) : Type 0 where
  pub bytes : new ≡ sets old at text
  pub ends : end ≡ at + length text

-- a text after another
pub stored_then : (old mid new : List ℕ) (at next end : ℕ) (xs ys : List ℕ) → Stored old mid at next xs
    → Stored mid new next end ys → Stored old new at end (xs ++ ys)
stored_then old mid new at next end xs ys p q =
    record {
      bytes = q.bytes ∙ rw (p.bytes, p.ends) (sets_append xs ys old at);
      ends = simp length-append (omega (arith, p.ends, q.ends));
    }

-- nothing, and one byte after a text
pub stored_none : (old : List ℕ) (at : ℕ) → Stored old old at at []
stored_none old at = record { bytes = refl; ends = sym (add-zero at) }

pub stored_byte : (old mid : List ℕ) (at next b : ℕ) (xs : List ℕ) → Stored old mid at next xs
    → Stored old (slice_set mid next b) at (next + 1) (xs ++ (b ∷ []))
stored_byte old mid at next b xs p =
    stored_then old mid (slice_set mid next b) at next (next + 1) xs (b ∷ []) p
    (record { bytes = refl; ends = refl })

-- FOR THE CODE that writes a text over a part of the bytes
pub stored_part : (text old : List ℕ) (at n : ℕ) → n ≡ length text → at + length text ≤ length old
    → Stored old (put_mid at n old text) at (at + length text) text
stored_part text old at n e l = record {
  bytes =
      rw (e, drop-drop (length text) at old, ← append_assoc (take at old) text (drop (at + length text) old))
      (sym (sets-eq text old at l));
  ends = refl;
}
