-- Laws for the code that writes an answer in numbers: they are those of the answer's case.
use mathlib.Core.{Path.◌≡◌, Path.sym, Path.◌∙◌, Path.ap, List.List}
use Rattle.std.specs.Prelude.{ℕ, Result, ⊤}
use Rattle.theory_loops.specs.Fill.{overwritten}
use Rattle.file_refusals.specs.Says.{Says, numbers_of}
use Rattle.trip_call.specs.Visit.{visit_says}
use Rattle.file_refusals.specs.declared.Refusal.{Refusal}
use Rattle.search_path.specs.declared.answer.Arrival.{Arrival}
use Rattle.plan_check.specs.Answer.{report_says}

-- AN ANSWER o THAT IS THE CASE k: the number that is returned, and the numbers that are written
module _ {A : Type 0} (says : A → Says) (o k : A) (e : o ≡ k) where
  pub case_number : (says k).number ≡ (says o).number
  case_number = rw e

  pub case_numbers : (old new : List ℕ) → new ≡ overwritten (numbers_of (says k)) old
      → new ≡ overwritten (numbers_of (says o)) old
  case_numbers old new f = f ∙ ap (λ (v : A). overwritten (numbers_of (says v)) old) (sym e)

-- and the check's, whose finds are the same in either case
pub report_numbers : (finds : ℕ) (o k : Result ⊤ Refusal) → o ≡ k → (old new : List ℕ)
    → new ≡ overwritten (numbers_of (report_says k finds)) old
    → new ≡ overwritten (numbers_of (report_says o finds)) old
report_numbers finds = case_numbers (λ v. report_says v finds)

-- and a trip's, whose target's hours are the same in either case
pub visit_numbers : (opens : ℕ) (o k : Result Arrival Refusal) → o ≡ k → (old new : List ℕ)
    → new ≡ overwritten (numbers_of (visit_says k opens)) old
    → new ≡ overwritten (numbers_of (visit_says o opens)) old
visit_numbers opens = case_numbers (λ v. visit_says v opens)

pub visit_number : (opens : ℕ) (o k : Result Arrival Refusal) → o ≡ k → (visit_says k opens).number ≡ (visit_says o opens).number
visit_number opens = case_number (λ v. visit_says v opens)
