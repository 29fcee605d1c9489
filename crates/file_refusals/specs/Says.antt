-- What an answer says, in document 01's terms: the number of its refusal, or 0, the three places, and the
-- values that it gives. Beside each kind of answer stands the definition that gives this for every case;
-- replies, promises and the worked example use it.
use Rattle.std.specs.Prelude.{List, [], ◌∷◌, ℕ, replicate, Result, Ok, Err}
use Rattle.file_refusals.specs.declared.Refusal.{Refusal}

pub record Says : Type 0 where
  pub number : ℕ
  pub first : ℕ
  pub second : ℕ
  pub third : ℕ
  pub values : List ℕ

-- an answer that is no refusal: number and places are 0
abbrev pub answers : List ℕ → Says
answers values = record { number = 0; first = 0; second = 0; third = 0; values = values }

-- a refusal, where an answer would give so many values: they are 0
abbrev pub refuses : ℕ → Refusal → Says
refuses count r =
    record {
      number = r.number;
      first = r.first;
      second = r.second;
      third = r.third;
      values = replicate count 0;
    }

-- the answer of an operation that writes a file or fills a lent list: one number, the file's length or how many
-- entries were filled
abbrev pub number_says : Result ℕ Refusal → Says
number_says (Ok number) = answers (number ∷ [])
number_says (Err r) = refuses 1 r

-- in lent numbers: the three places, then the values
abbrev pub numbers_of : Says → List ℕ
numbers_of s = s.first ∷ s.second ∷ s.third ∷ s.values
