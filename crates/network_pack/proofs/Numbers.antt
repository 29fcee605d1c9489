-- Which numbers Pack's refusals have: 4, 7 to 10, 37, 30 or 31 (`pack_numbers`).
use mathlib.Core.{Path.◌≡◌, Path.refl, Logic.inl, Logic.inr}
use Rattle.file_refusals.specs.Apart.{same_number}
use Rattle.std.specs.Prelude.{ℕ, Result, Ok, Err, Option, Some, None, ⊤}
use Rattle.std.proofs.Common.{arith}
use lib.{Dec.ltb, ListN.length}
use Rattle.theory_loops.specs.Pick.{cond_holds}
use Rattle.file_refusals.specs.{Numbered.Numbered, Refusal.refusal, Writing.written_into}
use Rattle.file_refusals.specs.declared.{Refusal.Refusal}
use Rattle.network.specs.declared.header.{Header.Header}
use Rattle.network.specs.{Numbers.RuleNumber, Numbers.judged_numbers, Tables.Tables, Tables.network_of}
use Rattle.network.specs.Rules.{judged}
use Rattle.network_open.specs.Open.{too_short}
use Rattle.network_encode.specs.Encode.{encode}
use Rattle.network_pack.specs.Pack.{packed_rules, packed_tables, packed_made, made_of, packing}
use Rattle.network_pack.specs.Numbers.{PackNumber}

-- an answer that, where it is refused, has such a number
abbrev Fine : Result ℕ Refusal → Type 0
Fine a = (r : Refusal) → a ≡ Err r → PackNumber r.number

fine : (number : ℕ) → PackNumber number → Fine (Err (refusal number 0))
fine number n r e = rw (← same_number (refusal number 0) r e) n

rules_fine : (j : Result ⊤ Refusal) → Numbered RuleNumber j → (long room : ℕ) → Fine (packed_rules j long room)
unfolding written_into
rules_fine (Ok _) n long room = cond_holds Fine (ltb room long) _ _ (fine 31 (inr (inr (inr refl)))) packed
  where
    packed : Fine (Ok long)
    packed r e = let z : ◌≡◌ {A = ℕ} 0 1 = cc in absurd (omega arith)
rules_fine (Err q) n long room = λ r e. rw (← same_number q r e) (inr (inl (n q refl)))

made_fine : (m : Option Header) (t : Tables) (room : ℕ) → Fine (packed_made m t room)
unfolding packed_tables
made_fine None t room = fine 4 (inl refl)
made_fine (Some h) t room =
    let n = network_of h t in
    cond_holds Fine (too_short h t) _ _ (fine 30 (inr (inr (inl refl))))
    (rules_fine (judged n) (judged_numbers n) (length (encode n)) room)

pub pack_numbers : (h : Header) (t : Tables) (room : ℕ) (r : Refusal) → packing h t room ≡ Err r
    → PackNumber r.number
pack_numbers h t room r e = made_fine (made_of h) t room r e
