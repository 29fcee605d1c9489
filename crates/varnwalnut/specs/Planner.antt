-- What a plan of our own is good for, said of the C calls: where varnwalnut_make_plan returns 0, the bytes
-- that it has written are a plan that the check accepts, and every flagged trip with it is as good as any way
-- (`made_call`).
use mathlib.Core.{Path.◌≡◌, Path.refl, Logic.inl, Logic.inr, List.List}
use Rattle.std.specs.Prelude.{ℕ, ◌≤◌, ◌<◌, length, get_or, take, Result, Ok}
use Rattle.std.proofs.Common.{arith, le-ltb}
use Rattle.theory_paths.specs.Graph.{all}
use Rattle.file_fields.specs.Fields.{Bytes}
use Rattle.network.specs.{Network.nodes, Decode.decode, Town.graph_of}
use Rattle.plan_check.specs.CheckPlan.{checking}
use Rattle.plan_make.specs.{Make.making, Make.MakeCall, Numbers.MakeNumber, Numbers.make_numbers}
use Rattle.plan_make.specs.Promise.{made_plan_lem}
use Rattle.trip.specs.{Calls.flagged_call, Calls.flagged_path, Promise.AsGoodAsAny}
use Rattle.trip.specs.FlaggedPromise.{accepted_call}
use Rattle.file_refusals.specs.declared.Refusal.{Refusal}
use Rattle.varnwalnut.specs.{Replies.MakeReply, Returned.returned_length, Room.kept}

-- The check accepts the plan, and each flagged trip with it, from whatever place to whatever place at
-- whatever tick of the day, is as good as any way over any roads.
pub record GoodPlan (network plan : List ℕ) : Type 0 where
  pub accepted : checking network plan ≡ Ok tt
  pub trips : (from to departure : ℕ) → from < nodes (decode network) → to < nodes (decode network)
      → departure < (decode network).period
      → AsGoodAsAny (graph_of (decode network)) all from departure to
      (flagged_path network plan from to departure) (flagged_call network plan from to departure)

some_number : (n : ℕ) → MakeNumber n → 1 ≤ n
some_number n (inl (inl r)) = r.0
some_number n (inl (inr r)) = omega arith
some_number n (inr (inl r)) = omega arith
some_number n (inr (inr (inl r))) = omega arith
some_number n (inr (inr (inr r))) = omega arith

module _ {network work₀ work₁ out₀ out₁ before after : List ℕ} {returned : ℕ} (s : Bytes network)
    (room : 4 ≤ length before) (m : MakeReply network work₀ work₁ out₀ out₁ before after returned)
    (ok : returned ≡ 0) where
  abbrev answer : Result ℕ Refusal
  answer = making network (length work₀) (length out₀)

  call : MakeCall network work₀ work₁ out₀ out₁ answer
  unfolding kept
  call = record {
    answer = refl;
    work = rw (le-ltb (length before) 4 room) at m.work;
    written = rw (le-ltb (length before) 4 room) at m.written;
  }

  pub made_call : GoodPlan network (take (get_or after 3 0) out₁)
  made_call =
      let (y, e, g) = returned_length answer before after returned
      (λ r q. some_number r.number (make_numbers network (length work₀) (length out₀) r q)) room
      m.reply ok in
      let p = (made_plan_lem s call y e).accepted in
      rw g (record { accepted = p; trips = λ from to departure. accepted_call network _ from to departure p })
