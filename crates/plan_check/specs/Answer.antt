-- What the check answers, in document 01's terms: accepted, which answers no values. Beside the verdict it
-- tells how many finds it made, in two words, the low one first (wish 4); beside a refusal too.
use Rattle.std.specs.Prelude.{List, [], ◌∷◌, ℕ, ◌^◌, ◌/◌, ◌%◌, Result, Ok, Err, ⊤}
use Rattle.file_refusals.specs.declared.Refusal.{Refusal}
use Rattle.file_refusals.specs.Says.{Says, answers, refuses}

abbrev pub checking_says : Result ⊤ Refusal → Says
checking_says (Ok _) = answers []
checking_says (Err r) = refuses 0 r

-- a number of 64 bits in words of 32
abbrev pub words : ℕ → List ℕ
words n = n % 2 ^ 32 ∷ n / 2 ^ 32 ∷ []

-- a verdict with its count of finds
abbrev pub report_says : Result ⊤ Refusal → ℕ → Says
report_says c finds =
    record {
      number = (checking_says c).number;
      first = (checking_says c).first;
      second = (checking_says c).second;
      third = (checking_says c).third;
      values = words finds;
    }
