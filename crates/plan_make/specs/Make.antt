-- Making a plan of a network: the answer, what becomes of the lent work list and of the lent bytes, and the
-- call (`MakeCall`). The bytes that are written become the plan's file.
use mathlib.Core.{Path.◌≡◌, Bool.cond, List.List}
use Rattle.file_refusals.specs.Refusal.{refused}
use Rattle.std.specs.Prelude.{ℕ, Result, Ok, Err}
use lib.{ListN.length, Dec.ltb}
use Rattle.file_refusals.specs.Writing.{written_into, bytes_after}
use Rattle.network.specs.{Network.Network, Decode.decode, Validate.validated}
use Rattle.plan.specs.{PlanDecode.point_total, PlanLimits.most_profile_points}
use Rattle.plan_made.specs.File.{made_plan, made_file}
use Rattle.file_refusals.specs.declared.Refusal.{Refusal}
use Rattle.network.specs.declared.header.Header.{Header}
use Rattle.toward_list.specs.Work.{work_size, cleared}

-- 33: more points than a plan can hold; then 31
unfoldable pub made_into : Network → ℕ → Result ℕ Refusal
made_into n room =
    cond (ltb most_profile_points (point_total (made_plan n))) (refused 33 0)
    (written_into (length (made_file n)) room)

-- 34: a work list that is too short
unfoldable pub made_with : Network → ℕ → ℕ → Result ℕ Refusal
made_with n work room = cond (ltb work (work_size n)) (refused 34 0) (made_into n room)

-- 1 to 10 with 37
abbrev pub made_over : Result Header Refusal → Network → ℕ → ℕ → Result ℕ Refusal
made_over (Err r) n work room = Err r
made_over (Ok h) n work room = made_with n work room

-- the answer by the network's bytes, and the lengths of the work list and of the lent bytes
abbrev pub making : List ℕ → ℕ → ℕ → Result ℕ Refusal
making network work room = made_over (validated network) (decode network) work room

-- the work list at exit: as it was up to 34, and past it the first entries are zero
unfoldable pub zeroed : Network → List ℕ → List ℕ
zeroed n old = cond (ltb (length old) (work_size n)) old (cleared n old)

abbrev pub zeroed_over : Result Header Refusal → Network → List ℕ → List ℕ
zeroed_over (Err r) n old = old
zeroed_over (Ok h) n old = zeroed n old

abbrev pub work_after : List ℕ → List ℕ → List ℕ
work_after network old = zeroed_over (validated network) (decode network) old

-- the same for a network that opens
pub record MakesOpened (n : Network) (work₀ work₁ out₀ out₁ : List ℕ) (r : Result ℕ Refusal) : Type 0 where
  pub answer : r ≡ made_with n (length work₀) (length out₀)
  pub work : work₁ ≡ zeroed n work₀
  pub written : out₁ ≡ bytes_after r (made_file n) out₀

-- THE CALL: what Make plan answers for any bytes and lent lists, and what it leaves in these
pub record MakeCall (network work₀ work₁ out₀ out₁ : List ℕ) (r : Result ℕ Refusal) : Type 0 where
  pub answer : r ≡ making network (length work₀) (length out₀)
  pub work : work₁ ≡ work_after network work₀
  pub written : out₁ ≡ bytes_after r (made_file (decode network)) out₀
