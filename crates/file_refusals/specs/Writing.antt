-- What an operation that writes a file answers and leaves: the file's length. The lent bytes are written only
-- where nothing is refused, and then the first of them alone, which become the file.
use mathlib.Core.{Path.◌≡◌, Bool.cond, List.List}
use Rattle.std.specs.Prelude.{ℕ, ◌≤◌, ◌<◌, Result, Ok, Err}
use lib.{ListN.length, Dec.ltb}
use Rattle.std.proofs.Common.{lt-ltb, le-ltb}
use Rattle.theory_loops.specs.Fill.{overwritten}
use Rattle.file_refusals.specs.declared.Refusal.{Refusal}
use Rattle.file_refusals.specs.Refusal.{refused}

-- 31: fewer lent bytes than the file has; else its length
unfoldable pub written_into : ℕ → ℕ → Result ℕ Refusal
written_into long room = cond (ltb room long) (refused 31 0) (Ok long)

-- the lent bytes at exit, by the answer
abbrev pub bytes_after : Result ℕ Refusal → List ℕ → List ℕ → List ℕ
bytes_after (Ok long) file old = overwritten file old
bytes_after (Err r) file old = old

-- an answer with the bytes that it leaves: the first of them the file's, or all as they were
pub record Writes (told : Result ℕ Refusal) (file before after : List ℕ) (r : Result ℕ Refusal) : Type 0 where
  pub answer : r ≡ told
  pub written : after ≡ bytes_after r file before

-- FOR THE CODE: a refusal leaves the bytes as they are
pub writes_refused : (told : Result ℕ Refusal) (file old : List ℕ) (number : ℕ) (r : Result ℕ Refusal)
    → r ≡ refused number 0 → r ≡ told → Writes told file old old r
writes_refused told file old number r e f = record { answer = f; written = rw e }

-- 31
module _ (file before : List ℕ) where
  pub into_short : (r : Result ℕ Refusal) → length before < length file → r ≡ refused 31 0
      → Writes (written_into (length file) (length before)) file before before r
  unfolding written_into
  into_short r l e = writes_refused _ file before 31 r e (rw (lt-ltb (length before) (length file) l) e)

  pub into_whole : (after : List ℕ) → length file ≤ length before → after ≡ overwritten file before
      → Writes (written_into (length file) (length before)) file before after (Ok (length file))
  unfolding written_into
  into_whole after l e = record { answer = rw (le-ltb (length before) (length file) l); written = e }
