-- Which numbers the refusals of a day sheet have: 1 to 10, 37, 25, 34 or 31 before its work
-- (`begin_numbers`), and 28 after it (`sheet_numbers`).
use mathlib.Core.{Path.◌≡◌, Path.refl, Logic.inl, Logic.inr, List.List}
use Rattle.file_refusals.specs.Apart.{same_refusal, same_number}
use Rattle.std.specs.Prelude.{ℕ, ◌*◌, eqb, leb, ltb, Result, Ok, Err}
use Rattle.std.proofs.Common.{arith}
use Rattle.theory_loops.specs.Pick.{cond_holds}
use Rattle.theory_paths.specs.{Earliest.never, Least.least_ticks}
use Rattle.file_refusals.specs.{Numbered.Numbered, Refusal.refusal}
use Rattle.file_refusals.specs.declared.Refusal.{Refusal}
use Rattle.network.specs.declared.header.Header.{Header}
use Rattle.network.specs.{Network.Network, Decode.decode, Numbers.NetworkNumber, Numbers.validated_numbers}
use Rattle.network.specs.{Town.graph_of, Validate.validated}
use Rattle.trip_call.specs.Trip.{and_then}
use Rattle.day_arrivals.specs.Sheet.{sheet_asked, sheet_begin, listed, sheet_answer, listing}
use Rattle.day_arrivals.specs.Numbers.{BeginNumber, SheetNumber}

-- BEFORE THE WORK
abbrev Begins : Result Header Refusal → Type 0
Begins b = (r : Refusal) → b ≡ Err r → BeginNumber r.number

begins : (number place : ℕ) → BeginNumber number → Begins (Err (refusal number place))
begins number place n r e = rw (← same_number (refusal number place) r e) n

asked_begins : (h : Header) (from to work list : ℕ) → Begins (sheet_asked h from to work list)
unfolding sheet_asked
asked_begins h from to work list =
    cond_holds Begins (leb h.nodes from) _ _ (begins 25 from (inr (inl refl)))
    (cond_holds Begins (leb h.nodes to) _ _ (begins 25 to (inr (inl refl)))
    (cond_holds Begins (ltb work (h.nodes * h.period)) _ _ (begins 34 0 (inr (inr (inl refl))))
    (cond_holds Begins (ltb list h.period) _ _ (begins 31 0 (inr (inr (inr refl)))) opened)))
  where
    opened : Begins (Ok h)
    opened r e = let z : ◌≡◌ {A = ℕ} 0 1 = cc in absurd (omega arith)

pub begin_numbers : (network : List ℕ) (from to work list : ℕ) (r : Refusal)
    → sheet_begin network from to work list ≡ Err r → BeginNumber r.number
begin_numbers network from to work list = go (validated network) (validated_numbers network)
  where
    go : (o : Result Header Refusal) → Numbered NetworkNumber o
        → Begins (and_then o (λ h. sheet_asked h from to work list))
    go (Err q) n r e = inl (n r e)
    go (Ok h) n r e = asked_begins h from to work list r e

-- AND AFTER IT
abbrev Fine : Result ℕ Refusal → Type 0
Fine a = (r : Refusal) → a ≡ Err r → SheetNumber r.number

listed_fine : (n : Network) (from to : ℕ) → Fine (listed n from to)
unfolding listed
listed_fine n from to = cond_holds Fine (eqb (least_ticks (graph_of n) to from 0) never) _ _ no_way some
  where
    no_way : Fine (Err (refusal 28 0))
    no_way r e = inr (sym_number (same_refusal (refusal 28 0) r e))
      where
        sym_number : refusal 28 0 ≡ r → r.number ≡ 28
        sym_number z = rw (← z)

    some : Fine (Ok n.period)
    some r e = let z : ◌≡◌ {A = ℕ} 0 1 = cc in absurd (omega arith)

pub sheet_numbers : (network : List ℕ) (from to work list : ℕ) (r : Refusal)
    → listing network from to work list ≡ Err r → SheetNumber r.number
sheet_numbers network from to work list =
    go (sheet_begin network from to work list) (begin_numbers network from to work list)
  where
    go : (b : Result Header Refusal) → Begins b → Fine (sheet_answer b (listed (decode network) from to))
    go (Err q) n r e = rw (← same_refusal q r e) (inl (n q refl))
    go (Ok h) n r e = listed_fine (decode network) from to r e
