-- What is known of an arc that was looked at: it adds nothing and is passed, or it is met.
use Rattle.std.specs.Prelude.{◌≡◌, List, ℕ, ◌+◌, ◌*◌, ◌<◌, Option, MatchOption}
use Rattle.network.specs.{Network.head, Decode.decode, Town.partition_of, Town.travel_at}
use Rattle.plan.specs.{Plan.flag, Plan.point_count, PlanDecode.decode_plan}
use Rattle.arc_runs.specs.Brief.{Brief}
use Rattle.plan_tests.specs.declared.tests.{Layouts.Layouts, Target.Target}
use Rattle.node_runs.specs.declared.Meeting.{Meeting}
use Rattle.node_runs.specs.{Bytes.same_bits, Adds.Met}

-- what an arc is met with
pub record Known (network plan : List ℕ) (l : Layouts) (b : Target) (a : ℕ) (m : Meeting) : Type 0 where
  pub head : m.head ≡ head (decode network) a
  pub some : 0 < point_count (decode_plan plan) (b.number * l.plan.nodes + m.head)
  pub brief : Brief (travel_at (decode network) a) l.network.period m.brief
  pub same : m.same ≡ same_bits (flag (decode_plan plan) a b.cell)

-- an arc that was looked at: where there is no meeting it adds nothing to any list of bytes, and else it is
-- known what it is met with
abbrev pub Seen : (network plan : List ℕ) (l : Layouts) (b : Target) (a : ℕ) → Option Meeting → Type 0
Seen network plan l b a m =
    MatchOption m
    ((old : List ℕ)
    → Met (partition_of (decode network)) (decode_plan plan) b.cell b.number a l.network.period old old)
    (Known network plan l b a)
