-- A call that returns 0: where it writes a file its answer is a length, and where it fills a list a count;
-- it stands behind the three places.
use mathlib.Core.{Path.◌≡◌, Path.refl, Path.sym, Path.◌∙◌, Path.ap, List.List}
use Rattle.file_refusals.specs.Says.{number_says}
use Rattle.std.specs.Prelude.{ℕ, ◌≤◌, length, get_or, Result, Ok, Err}
use Rattle.std.proofs.Common.{arith, le-ltb}
use Rattle.theory_loops.specs.Fill.{overwritten}
use Rattle.file_refusals.specs.declared.Refusal.{Refusal}
use Rattle.file_refusals.specs.{Says.Says, Says.numbers_of}
use Rattle.varnwalnut.specs.{Replies.DeskReply, Room.roomed, Room.kept}

-- what a call with room for its answer returns and writes
returned_says : (says : Says) (before after : List ℕ) (returned : ℕ) → 4 ≤ length before
    → DeskReply 4 says before after returned
    → (returned ≡ says.number) × (after ≡ overwritten (numbers_of says) before)
unfolding roomed kept
returned_says says before after returned room m =
    let t = le-ltb (length before) 4 room in
    (rw t at m.code, rw t at m.numbers)

-- an answer whose number is 0 is a length, where no refusal has that number
is_written : (a : Result ℕ Refusal) → ((r : Refusal) → a ≡ Err r → 1 ≤ r.number) → (number_says a).number ≡ 0
    → (y : ℕ) × (a ≡ Ok y)
is_written (Ok y) f e = (y, refl)
is_written (Err r) f e = absurd (omega (arith, f r refl))

told : (a : Result ℕ Refusal) (y : ℕ) (before : List ℕ) → a ≡ Ok y
    → get_or (overwritten (numbers_of (number_says a)) before) 3 0 ≡ y
told a y before e = rw e

pub returned_length : (a : Result ℕ Refusal) (before after : List ℕ) (returned : ℕ)
    → ((r : Refusal) → a ≡ Err r → 1 ≤ r.number) → 4 ≤ length before
    → DeskReply 4 (number_says a) before after returned → returned ≡ 0
    → (y : ℕ) × (a ≡ Ok y) × (get_or after 3 0 ≡ y)
returned_length a before after returned f room m ok =
    let (n, g) = returned_says (number_says a) before after returned room m in
    let (y, e) = is_written a f (sym n ∙ ok) in
    (y, e, ap (λ (w : List ℕ). get_or w 3 0) g ∙ told a y before e)

-- and the same of a count
is_listed : (a : Result ℕ Refusal) → ((r : Refusal) → a ≡ Err r → 1 ≤ r.number)
    → (number_says a).number ≡ 0 → (y : ℕ) × (a ≡ Ok y)
is_listed (Ok y) f e = (y, refl)
is_listed (Err r) f e = absurd (omega (arith, f r refl))

counted : (a : Result ℕ Refusal) (y : ℕ) (before : List ℕ) → a ≡ Ok y
    → get_or (overwritten (numbers_of (number_says a)) before) 3 0 ≡ y
counted a y before e = rw e

pub returned_count : (a : Result ℕ Refusal) (before after : List ℕ) (returned : ℕ)
    → ((r : Refusal) → a ≡ Err r → 1 ≤ r.number) → 4 ≤ length before
    → DeskReply 4 (number_says a) before after returned → returned ≡ 0
    → (y : ℕ) × (a ≡ Ok y) × (get_or after 3 0 ≡ y)
returned_count a before after returned f room m ok =
    let (n, g) = returned_says (number_says a) before after returned room m in
    let (y, e) = is_listed a f (sym n ∙ ok) in
    (y, e, ap (λ (w : List ℕ). get_or w 3 0) g ∙ counted a y before e)
