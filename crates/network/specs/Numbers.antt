-- The numbers of refusals: those of a network file are 1 to 10 and 37, and those of its rules 7 to 10 and 37.
use mathlib.Core.{Path.◌≡◌, Path.refl, Logic.◌⊎◌, Logic.inl, Logic.inr, Logic.⊎_elim, List.List}
use Rattle.std.specs.Prelude.{ℕ, ◌+◌, ◌*◌, ◌≤◌, Result, Ok, Err, Option, Some, None, ⊤}
use Rattle.std.proofs.Common.{arith}
use lib.{ListN.length, Dec.eqb, Dec.ltb}
use Rattle.theory_loops.specs.Pick.{cond_holds, rung_holds}
use Rattle.file_forms.specs.Form.{formed, bad_length}
use Rattle.file_blocks.specs.Kind.{network_kind, network_size}
use Rattle.file_refusals.specs.declared.{Refusal.Refusal}
use Rattle.network.specs.declared.header.{Header.Header}
use Rattle.network.specs.{Layout.all_blocks, Layout.most_bytes, Decode.decode}
use Rattle.network.specs.Network.{Network, arcs, points, start}
use Rattle.file_refusals.specs.Refusal.{refusal}
use Rattle.file_refusals.specs.Numbered.{Between, Numbered, numbered}
use Rattle.network.specs.Rules.{first_point, bad_point_of, overtaken_of, judged_points, judged_sum}
use Rattle.network.specs.Rules.{judged_arcs, judged_hours, judged}
use Rattle.network.specs.Validate.{first_unformed, made_at, validated_rules, validated_form}
use Rattle.network.specs.Validate.{validated_length, validated_header, validated_first, validated}
use Rattle.file_fields.specs.Block.{block_size, head_size}

abbrev pub RuleNumber : ℕ → Type 0
RuleNumber number = Between 7 10 number ⊎ (number ≡ 37)

abbrev pub NetworkNumber : ℕ → Type 0
NetworkNumber number = Between 1 10 number ⊎ (number ≡ 37)

abbrev Judges : Result ⊤ Refusal → Type 0
Judges = Numbered RuleNumber

pub judged_numbers : (n : Network) → Numbered RuleNumber (judged n)
unfolding judged judged_hours judged_arcs judged_sum judged_points
judged_numbers n =
    rung_holds Judges _ _ _ _ (λ i. is 7 i (omega arith) (omega arith))
    (rung_holds Judges _ _ _ _ (λ i. numbered RuleNumber (refusal 37 i) (inr refl))
    (rung_holds Judges _ _ _ _ (λ i. is 8 i (omega arith) (omega arith))
    (cond_holds Judges (eqb (start n (arcs n)) (points n)) _ _
    (cond_holds Judges (ltb bad (points n)) _ _ (is 9 bad (omega arith) (omega arith))
    (cond_holds Judges (ltb overtaken (points n)) _ _ (is 10 overtaken (omega arith) (omega arith)) sound))
    (is 8 (arcs n) (omega arith) (omega arith)))))
  where
    bad : ℕ
    bad = first_point n (bad_point_of n) (arcs n)

    overtaken : ℕ
    overtaken = first_point n (overtaken_of n) (arcs n)

    is : (number place : ℕ) → 7 ≤ number → number ≤ 10 → Judges (Err (refusal number place))
    is number place l h = numbered RuleNumber (refusal number place) (inl (l, h))

    sound : Judges (Ok tt)
    sound r e = let z : ◌≡◌ {A = ℕ} 0 1 = cc in absurd (omega arith)

abbrev Opens : Result Header Refusal → Type 0
Opens = Numbered NetworkNumber

is_numbered : (number place : ℕ) → 1 ≤ number → number ≤ 10 → Opens (Err (refusal number place))
is_numbered number place l h = numbered NetworkNumber (refusal number place) (inl (l, h))

pub validated_numbers : (file : List ℕ) → Numbered NetworkNumber (validated file)
unfolding validated validated_first validated_length validated_form
validated_numbers file =
    cond_holds Opens (bad_length most_bytes (length file)) _ _ (is_numbered 1 0 (omega arith) (omega arith))
    (rung_holds Opens _ _ _ _ (λ i. is_numbered 2 i (omega arith) (omega arith))
    (cond_holds Opens (formed file 0 network_kind 1 (head_size + network_size)) _ _ (by_header (made_at file))
    (is_numbered 3 0 (omega arith) (omega arith))))
  where
    by_rules : (h : Header) (j : Result ⊤ Refusal) → Judges j → Opens (validated_rules h j)
    by_rules h (Ok _) n = λ r e. let z : ◌≡◌ {A = ℕ} 0 1 = cc in absurd (omega arith)
    by_rules h (Err q) n = numbered NetworkNumber q
        (⊎_elim (λ k. inl (omega (arith, k.0), k.1)) (λ k. inr k) (n q refl))

    by_header : (m : Option Header) → Opens (validated_header file m)
    by_header (Some h) =
        cond_holds Opens (eqb (length file) (block_size * all_blocks h)) _ _
        (cond_holds Opens (ltb (first_unformed file h) (all_blocks h)) _ _
        (is_numbered 6 (first_unformed file h) (omega arith) (omega arith))
        (by_rules h (judged (decode file)) (judged_numbers (decode file))))
        (is_numbered 5 0 (omega arith) (omega arith))
    by_header None = is_numbered 4 0 (omega arith) (omega arith)
