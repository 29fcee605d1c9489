-- Which numbers the refusals of Make plan have: 1 to 10, 37, 31, 33 or 34 (`make_numbers`).
use mathlib.Core.{Path.◌≡◌, Path.refl, Logic.◌⊎◌, Logic.inl, Logic.inr, List.List}
use Rattle.file_refusals.specs.Apart.{same_number}
use Rattle.std.specs.Prelude.{ℕ, Result, Ok, Err}
use Rattle.std.proofs.Common.{arith}
use lib.{Dec.ltb, ListN.length}
use Rattle.theory_loops.specs.Pick.{cond_holds}
use Rattle.file_refusals.specs.{Numbered.Numbered, Refusal.refusal, Writing.written_into}
use Rattle.file_refusals.specs.declared.Refusal.{Refusal}
use Rattle.network.specs.{Network.Network, Decode.decode, Numbers.NetworkNumber, Numbers.validated_numbers}
use Rattle.network.specs.Validate.{validated}
use Rattle.plan.specs.{PlanDecode.point_total, PlanLimits.most_profile_points}
use Rattle.plan_made.specs.File.{made_plan, made_file}
use Rattle.toward_list.specs.Work.{work_size}
use Rattle.network.specs.declared.header.Header.{Header}
use Rattle.plan_make.specs.Make.{made_into, made_with, made_over, making}

-- document 02's numbers for Make plan
abbrev pub MakeNumber : ℕ → Type 0
MakeNumber n = NetworkNumber n ⊎ ((n ≡ 31) ⊎ ((n ≡ 33) ⊎ (n ≡ 34)))

-- an answer that, where it is refused, has such a number
abbrev Fine : Result ℕ Refusal → Type 0
Fine a = (r : Refusal) → a ≡ Err r → MakeNumber r.number

fine : (number : ℕ) → MakeNumber number → Fine (Err (refusal number 0))
fine number n r e = rw (← same_number (refusal number 0) r e) n

into_fine : (n : Network) (room : ℕ) → Fine (made_into n room)
unfolding made_into written_into
into_fine n room =
    cond_holds Fine (ltb most_profile_points (point_total (made_plan n))) _ _ (fine 33 (inr (inr (inl refl))))
    (cond_holds Fine (ltb room (length (made_file n))) _ _ (fine 31 (inr (inl refl))) written)
  where
    written : Fine (Ok (length (made_file n)))
    written r e = let z : ◌≡◌ {A = ℕ} 0 1 = cc in absurd (omega arith)

over_fine : (o : Result Header Refusal) → Numbered NetworkNumber o → (n : Network) (work room : ℕ)
    → Fine (made_over o n work room)
unfolding made_with
over_fine (Err q) m n work room = λ r e. rw (← same_number q r e) (inl (m q refl))
over_fine (Ok h) m n work room =
    cond_holds Fine (ltb work (work_size n)) _ _ (fine 34 (inr (inr (inr refl)))) (into_fine n room)

pub make_numbers : (network : List ℕ) (work room : ℕ) (r : Refusal) → making network work room ≡ Err r
    → MakeNumber r.number
make_numbers network work room r e =
    over_fine (validated network) (validated_numbers network) (decode network) work room r e
