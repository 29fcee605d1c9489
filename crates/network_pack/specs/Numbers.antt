-- Which numbers Pack's refusals have: 4, 7 to 10, 37, 30 or 31 (`pack_numbers`).
use mathlib.Core.{Path.◌≡◌, Logic.◌⊎◌}
use Rattle.std.specs.Prelude.{ℕ}
use Rattle.network.specs.{Numbers.RuleNumber}

-- the papers' numbers for Pack
abbrev pub PackNumber : ℕ → Type 0
PackNumber n = (n ≡ 4) ⊎ (RuleNumber n ⊎ ((n ≡ 30) ⊎ (n ≡ 31)))
