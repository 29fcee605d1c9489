-- What a day sheet is good for, said of the C calls: where varnwalnut_day_sheet returns 0, its answer has P,
-- and its list the arrivals that varnwalnut_plain_trip tells at each tick, and varnwalnut_flagged_trip under
-- a plan that varnwalnut_check_plan accepts (`sheet_call`).
use mathlib.Core.{Path.◌≡◌, Path.refl, Path.◌∙◌, Logic.inl, Logic.inr, List.List}
use Rattle.std.specs.Prelude.{ℕ, ◌≤◌, ◌<◌, length, get_or, Result, Ok}
use Rattle.std.proofs.Common.{arith, le-ltb}
use Rattle.network.specs.Decode.{decode}
use Rattle.plan_check.specs.CheckPlan.{checking}
use Rattle.trip.specs.Calls.{plain_call, flagged_call}
use Rattle.day_arrivals.specs.{Sheet.listing, Sheet.DaySheet, Numbers.SheetNumber}
use Rattle.day_arrivals.proofs.Numbers.{sheet_numbers}
use Rattle.day_arrivals.specs.Promise.{ArrivesAt, HoldsDay}
use Rattle.day_arrivals.proofs.Promise.{sheet_listed, sheet_plain_call}
use Rattle.day_arrivals.proofs.Promise.{sheet_flagged_call}
use Rattle.file_refusals.specs.declared.Refusal.{Refusal}
use Rattle.varnwalnut.specs.{Replies.SheetReply, Returned.returned_count, Room.kept}

-- An answer and a list as the wish wants them.
pub record GoodSheet (network : List ℕ) (from to : ℕ) (list₀ list₁ answer : List ℕ) : Type 0 where
  pub count : get_or answer 3 0 ≡ (decode network).period
  pub holds : HoldsDay network from to list₀ list₁
  pub plain : (t : ℕ) → t < (decode network).period
      → ArrivesAt (plain_call network from to t) (get_or list₁ t 0)
  pub flagged : (plan : List ℕ) → checking network plan ≡ Ok tt → (t : ℕ) → t < (decode network).period
      → ArrivesAt (flagged_call network plan from to t) (get_or list₁ t 0)

some_number : (n : ℕ) → SheetNumber n → 1 ≤ n
some_number n (inl (inl (inl r))) = r.0
some_number n (inl (inl (inr r))) = omega arith
some_number n (inl (inr (inl r))) = omega arith
some_number n (inl (inr (inr (inl r)))) = omega arith
some_number n (inl (inr (inr (inr r)))) = omega arith
some_number n (inr r) = omega arith

module _ (network : List ℕ) {from to : ℕ} {work₀ work₁ list₀ list₁ before after : List ℕ} {returned : ℕ}
    (room : 4 ≤ length before)
    (m : SheetReply network from to work₀ work₁ list₀ list₁ before after returned) (ok : returned ≡ 0) where
  abbrev told : Result ℕ Refusal
  told = listing network from to (length work₀) (length list₀)

  call : DaySheet network from to work₀ work₁ list₀ list₁ told
  unfolding kept
  call = record {
    answer = refl;
    work = rw (le-ltb (length before) 4 room) at m.work;
    list = rw (le-ltb (length before) 4 room) at m.list;
  }

  pub sheet_call : GoodSheet network from to list₀ list₁ after
  sheet_call =
      let (y, e, g) = returned_count told before after returned
      (λ r q. some_number r.number (sheet_numbers network from to (length work₀) (length list₀) r q)) room
      m.reply ok in
      let (p, holds) = sheet_listed network call e in
      record {
        count = g ∙ p;
        holds = holds;
        plain = λ t h. sheet_plain_call network call e t h;
        flagged = λ plan a t h. sheet_flagged_call network call e plan a t h;
      }
