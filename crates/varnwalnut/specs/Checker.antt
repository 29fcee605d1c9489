-- What the C check tells, read off its answer: where that has five numbers, the call returns the verdict's
-- number, and the two words behind the places come to a count of finds within wish 4's bounds
-- (`checked_call`).
use mathlib.Core.{Path.◌≡◌, Path.◌∙◌, Path.ap, List.List}
use Rattle.std.specs.Prelude.{ℕ, ◌+◌, ◌*◌, ◌^◌, ◌≤◌, length, get_or}
use native.Mathlib.Omega.{arith}
use Rattle.std.proofs.Common.{le-ltb}
use Rattle.theory_loops.specs.Fill.{overwritten}
use Rattle.file_refusals.specs.Says.{numbers_of}
use Rattle.plan_check.specs.{Answer.checking_says, Answer.report_says, CheckPlan.checking, Finds.Finds}
use Rattle.varnwalnut.specs.{Replies.CheckReply, Room.roomed, Room.kept}

-- the count that an answer tells
abbrev pub finds_told : List ℕ → ℕ
finds_told answer = get_or answer 3 0 + 2 ^ 32 * get_or answer 4 0

module _ {network plan before after : List ℕ} {returned : ℕ} (room : 5 ≤ length before)
    (m : CheckReply network plan before after returned) where
  told : finds_told after ≡ m.finds
  unfolding kept
  told =
      let g : after ≡ overwritten (numbers_of (report_says (checking network plan) m.finds)) before =
      rw (le-ltb (length before) 5 room) at m.reply.numbers in
      ap finds_told g ∙ omega arith

  pub checked_call : (returned ≡ (checking_says (checking network plan)).number)
      × Finds network plan (checking network plan) (finds_told after)
  unfolding roomed
  checked_call = (rw (le-ltb (length before) 5 room) at m.reply.code, rw told (m.counted room))
