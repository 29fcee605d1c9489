-- What an operation that fills a lent list leaves. It answers how many entries it has filled; the list is
-- written only where nothing is refused, and then its first entries alone.
use Rattle.std.specs.Prelude.{List, ℕ, Result, Ok, Err}
use Rattle.theory_loops.specs.Fill.{overwritten}
use Rattle.file_refusals.specs.declared.Refusal.{Refusal}

-- the lent list at exit, by the answer
abbrev pub list_after : Result ℕ Refusal → List ℕ → List ℕ → List ℕ
list_after (Ok count) entries old = overwritten entries old
list_after (Err r) entries old = old
