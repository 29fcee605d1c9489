-- The rules 17 to 19 that a plan's tables keep, as tests and as one ladder: the lowest number that fails
-- anywhere, then its lowest place. Points are numbered through all profiles, so the lowest point is the
-- lowest of the first profile that has one.
use mathlib.Core.{Path.◌≡◌, Path.sym, Bool.Bool, Bool.false, Bool.cond, Bool.not}
use Rattle.file_refusals.specs.Refusal.{refused}
use Rattle.std.specs.Prelude.{ℕ, ◌+◌, ◌*◌, ◌/◌, ◌^◌, ◌≤◌, ◌<◌, Result, Ok, ⊤}
use native.Mathlib.{Nat.div-eq_of_lt, Nat.le-div_iff_mul-le, Decide.dec_lt, Omega.arith}
use lib.{Pow.pow_pos, Dec.leb, Dec.ltb, Dec.eqb}
use Rattle.std.proofs.lemmas.Bool.{lt-leb}
use Rattle.std.proofs.Common.{le-leb, ne_eqb}
use Rattle.theory_loops.specs.{First.first, First.any, Pick.first_rung}
use Rattle.theory_travel.specs.Ticks.{bad_tick}
use Rattle.network.specs.{Network.Network, Network.nodes, Network.arcs, Town.partition_of, Limits.most_cells}
use Rattle.plan.specs.declared.header.PlanHeader.{PlanHeader}
use Rattle.plan.specs.{Border.border_count, Plan.Plan, Plan.point_count, Plan.point_start, Plan.point_ticks}
use Rattle.file_refusals.specs.declared.Refusal.{Refusal}
use Rattle.plan.specs.{PlanLayout.profile_count, PlanDecode.flag_word, PlanDecode.point_total}

-- 17: a flag at the count of cells or above
abbrev pub bad_flags : ℕ → Plan → ℕ → Bool
bad_flags cells p a = leb (2 ^ cells) (flag_word p a)

-- 18: more points than ticks
abbrev pub bad_count : ℕ → Plan → ℕ → Bool
bad_count period p k = ltb period (point_count p k)

-- 19: profile k has a bad tick (`bad_tick` of the crate `theory_travel`), and the first of them is this
-- point's
unfoldable pub bad_profile : ℕ → Plan → ℕ → Bool
bad_profile period p k = any (point_count p k) (bad_tick period (point_ticks p k))

unfoldable pub first_bad_point : ℕ → Plan → ℕ → ℕ
first_bad_point period p k = point_start p k + first (point_count p k) (bad_tick period (point_ticks p k))

-- The ladder, rung by rung from its end: the ticks, the counts' sum, the counts, the flags.
unfoldable pub judged_ticks : ℕ → ℕ → Plan → Result ⊤ Refusal
judged_ticks period profiles p =
    first_rung (λ k. refused 19 (first_bad_point period p k)) profiles (bad_profile period p) (Ok tt)

unfoldable pub judged_sum : ℕ → ℕ → Plan → Result ⊤ Refusal
judged_sum period profiles p =
    cond (eqb (point_start p profiles) (point_total p)) (judged_ticks period profiles p) (refused 18 profiles)

unfoldable pub judged_counts : ℕ → ℕ → Plan → Result ⊤ Refusal
judged_counts period profiles p =
    first_rung (refused 18) profiles (bad_count period p) (judged_sum period profiles p)

unfoldable pub judged_flags : ℕ → ℕ → ℕ → ℕ → Plan → Result ⊤ Refusal
judged_flags arcs cells period profiles p =
    first_rung (refused 17) arcs (bad_flags cells p) (judged_counts period profiles p)

-- by the numbers of a plan's header, and by a network, which has a profile for each border and each node
abbrev pub judged_by : PlanHeader → Plan → Result ⊤ Refusal
judged_by k p = judged_flags k.arcs k.cells k.period (profile_count k) p

abbrev pub profiles : Network → ℕ
profiles n = border_count (partition_of n) * nodes n

abbrev pub plan_judged : Network → Plan → Result ⊤ Refusal
plan_judged n p = judged_flags (arcs n) n.cells n.period (profiles n) p

-- FOR CODE that looks at a flag word: 64 cells leave no bit over, and fewer leave those that a shift keeps
pub no_high : (cells word : ℕ) → 64 ≤ cells → cells ≤ most_cells → word < 2 ^ 64 → false ≡ leb (2 ^ cells) word
no_high cells word a b l = let q : cells ≡ 64 = omega arith in rw q (sym (lt-leb (2 ^ 64) word l))

pub high_shift : (cells word : ℕ) → not (eqb (word / 2 ^ cells) 0) ≡ leb (2 ^ cells) word
high_shift cells word = elim (dec_lt word (2 ^ cells)) [
  | yes h ↦ rw (div-eq_of_lt h, lt-leb (2 ^ cells) word h)
  | no h ↦
      let m : 2 ^ cells ≤ word = omega arith in
      let q : 1 ≤ word / 2 ^ cells = (le-div_iff_mul-le (pow_pos cells)).1 (omega arith) in
      rw (ne_eqb (word / 2 ^ cells) 0 (omega arith), le-leb (2 ^ cells) word m)
]
