-- Too little room for an answer is refused first, and nothing is written.
use Rattle.std.specs.Prelude.{cond, ℕ, ltb}

-- an answer that takes w entries is refused with 31 where fewer are lent, before all else
unfoldable pub roomed : ℕ → ℕ → ℕ → ℕ
roomed w room code = cond (ltb room w) 31 code

-- and then what is lent stays as it was
unfoldable pub kept : {A : Type 0} → ℕ → ℕ → A → A → A
kept w room old new = cond (ltb room w) old new
