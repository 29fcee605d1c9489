-- Quay town in one theorem: the answer to every row's question is the row's answer (`quay_town`). A test
-- computes it for all rows, by the quick forms of validation, and a law turns the test into the rule.
use Rattle.std.proofs.Math.Logic.Or
use mathlib.Core.{Path.◌≡◌, Path.refl, Path.sym, Path.◌∙◌}
use Rattle.std.specs.Prelude.{Option, Some, None, Bool, true, false, cond, ◌&&◌, ℕ, Result, Ok, Err, ⊤}
use Rattle.std.proofs.Math.Bool.{and-eq-true_iff, So-prop}
use Rattle.std.proofs.Common.{true≢false, eqb-true}
use mathlib.Core.List.{List, [], ◌∷◌, ◌++◌, Mem, not-mem-nil, eq-or-mem_of_mem-cons}
use lib.{ListN.length, ListN.take, Dec.eqb, Dec.ltb}
use Rattle.theory_loops.specs.{First.first, Pick.first_rung, Triple.first_triple_rung}
use Rattle.theory_loops.specs.{Select.select, Fill.tab}
use Rattle.theory_loops.specs.Total.{total}
use Rattle.theory_paths.specs.{Graph.all, Graph.ends, Labels.relaxed, Labels.rounds, Labels.labels, Hops.hops}
use Rattle.theory_paths.specs.Chosen.{lowest, back, traced, chosen}
use Rattle.theory_travel.specs.{Line.line, Points.segment, Points.value, Day.closed, Day.day_value}
use Rattle.theory_travel.specs.{Table.entry_at, Ticks.bad_tick}
use Rattle.file_blocks.specs.Place.{offset}
use Rattle.file_forms.specs.Form.{bad_length}
use Rattle.network.specs.declared.header.Header.{Header}
use Rattle.network.specs.{Limits.most_nodes, Limits.most_roads, Limits.made}
use Rattle.network.specs.{Answer.opening_says, Decode.decode}
use Rattle.network.specs.{Network.Network, Network.start, Validate.validated}
use Rattle.network.specs.Rules.{
  judged,
  judged_hours,
  part_of_day,
  bad_hours,
  judged_arcs,
  judged_sum,
  judged_points,
  bad_ends,
  first_point,
  bad_point,
  overtaken,
}
use Rattle.network.specs.Node.{node_kind, node_size, node_per, node_blocks}
use Rattle.network.specs.Town.{graph_of, partition_of, travel_at}
use Rattle.network_open.specs.Open.{opened_in, too_short, too_short_by}
use Rattle.plan.specs.{Border.borders, Border.is_border, Plan.point_start, Plan.profile_value}
use Rattle.plan.specs.{PlanDecode.decode_plan, PlanValidate.matching, PlanValidate.planned}
use Rattle.plan.specs.PlanRules as rules
use Rattle.plan_tests.specs.Tests.{fails, fails22, given}
use Rattle.plan_check.specs.{Answer.checking_says, Check.checked, Check.triple_rung, CheckPlan.checked_by}
use Rattle.trip_call.specs.Trip.{asked, and_then, trip_answer}
use Rattle.search_path.specs.Answer.{searched}
use Rattle.trip.specs.{Flagged.planned_then, Flagged.flagged_arcs, Calls.plain_path, Calls.flagged_path}
use Rattle.text_numbers.specs.{Text.ascii, Number.decimal, Number.digits_of}
use Rattle.sheet_line.specs.declared.line.Asking.{Asking}
use Rattle.text_spaced.specs.Fold.{folded}
use Rattle.text_spaced.specs.Scanning.{scanned, space_scanned, digit_scanned, whole}
use Rattle.sheet_line.specs.Line.{ended}
use Rattle.sheet_text.specs.Numbers.{spaced}
use Rattle.sheet_text.specs.Head.{most, head_text, verdict_text, is_accepted, reads}
use Rattle.sheet_text.specs.TripText.{line_text, trip_text, trip_of, path_for, asking_text, answer_text}
use Rattle.text_lines.specs.Lines.{lines_of, lines_from}
use Rattle.sheet.specs.{Reading.texts_of, Sheet.sheet_text}
use Rattle.example_theorem.specs.Files.{network_file, plan_file}
use Rattle.example_theorem.specs.Quick.{summed, blank, quick_formed}
use Rattle.example_theorem.specs.Validation.{
  quick_validated,
  quick_planned,
  validated_quick,
  planned_quick,
}
use Rattle.file_refusals.specs.declared.Refusal.{Refusal}
use Rattle.plan.specs.declared.header.PlanHeader.{PlanHeader}
use Rattle.search_path.specs.declared.answer.Arrival.{Arrival}
use Rattle.example_theorem.specs.Rows.{
  Question,
  blocks,
  bordering,
  travel,
  drives,
  opens,
  plain,
  checks,
  flagged,
  prints,
  numbers_told,
  trip_told,
  lent,
  answer_to,
  Row,
  rows,
}

-- THE ANSWERS with the validation of networks and of plans as arguments
module _ (opened : List ℕ → Result Header Refusal) (planning : Header → Network → List ℕ → Result PlanHeader Refusal) where
  abbrev plain_by : List ℕ → ℕ → ℕ → ℕ → Result Arrival Refusal
  plain_by network from to departure =
      trip_answer (and_then (opened network) (λ h. asked h from to departure most_nodes))
      (searched (graph_of (decode network)) all from to departure most_roads)

  abbrev flagged_by : List ℕ → List ℕ → ℕ → ℕ → ℕ → Result Arrival Refusal
  flagged_by network file from to departure =
      trip_answer
      (and_then (opened network)
      (λ h. planned_then (planning h (decode network) file) (asked h from to departure most_nodes)))
      (searched (graph_of (decode network)) (flagged_arcs network file to) from to departure most_roads)

  abbrev checked_over : List ℕ → List ℕ → Result Header Refusal → Result ⊤ Refusal
  checked_over network file (Err r) = Err r
  checked_over network file (Ok h) =
      checked_by (partition_of (decode network)) (decode_plan file) (planning h (decode network) file)

  abbrev check_by : List ℕ → List ℕ → Result ⊤ Refusal
  check_by network file = checked_over network file (opened network)

  -- the run sheet, of files that are not too large
  abbrev line_by : List ℕ → List ℕ → Option Asking → List ℕ
  line_by network file (Some a) =
      asking_text a ++ answer_text (flagged_by network file a.from a.to a.leave)
      (path_for network file a)
  line_by network file None = ascii "refused 32\n"

  abbrev sheet_by : List ℕ → List ℕ → List ℕ → List ℕ
  sheet_by network file input =
      let large = ltb most (length network) in
      let too = ltb most (length file) in
      cond large (ascii "too large\n") (cond too (ascii "too large\n") (verdict_text (check_by network file)))
      ++ cond (cond large false (cond too false (is_accepted (check_by network file))))
      (texts_of (line_by network file) (take 64 (lines_of input))) []

  abbrev answer_by : Question → List ℕ
  answer_by (blocks file) = answer_to (blocks file)
  answer_by (bordering network) = answer_to (bordering network)
  answer_by (travel network road tick) = answer_to (travel network road tick)
  answer_by (drives network roads tick) = answer_to (drives network roads tick)
  answer_by (opens network) = numbers_told (opening_says (opened_in (opened network) (λ h. too_short h lent)))
  answer_by (plain network from to departure) =
      trip_told (plain_by network from to departure) (plain_path network from to departure)
  answer_by (checks network file) = numbers_told (checking_says (check_by network file))
  answer_by (flagged network file from to departure) =
      trip_told (flagged_by network file from to departure) (flagged_path network file from to departure)
  answer_by (prints network file input) = sheet_by network file input

line_by_lem : (network file : List ℕ) (line : Option Asking)
    → line_text network file line ≡ line_by validated planned network file line
unfolding line_text trip_text trip_of
line_by_lem network file (Some a) = refl
line_by_lem network file None = refl

answer_by_lem : (q : Question) → answer_to q ≡ answer_by validated planned q
unfolding sheet_text head_text reads
answer_by_lem (blocks file) = refl
answer_by_lem (bordering network) = refl
answer_by_lem (travel network road tick) = refl
answer_by_lem (drives network roads tick) = refl
answer_by_lem (opens network) = refl
answer_by_lem (plain network from to departure) = refl
answer_by_lem (checks network file) = refl
answer_by_lem (flagged network file from to departure) = refl
answer_by_lem (prints network file input) = λ i.
    head_text network file
    ++ cond (reads network file)
    (texts_of (λ line. line_by_lem network file line i) (take 64 (lines_of input))) []

abbrev quick_answer : Question → List ℕ
quick_answer q = answer_by quick_validated quick_planned q

answer_quick : (q : Question) → answer_to q ≡ quick_answer q
answer_quick q =
    answer_by_lem q ∙ (λ i. answer_by (λ f. validated_quick f i) (λ h n f. planned_quick h n f i) q)

-- THE TEST: two lists have the same numbers; a row's answer is the answer to its question; and all rows' are
same : List ℕ → List ℕ → Bool
same [] [] = true
same [] (y ∷ t) = false
same (x ∷ s) [] = false
same (x ∷ s) (y ∷ t) = eqb x y && same s t

agrees : Row → Bool
agrees r = same (quick_answer r.question) r.answer

all_agree : List Row → Bool
all_agree [] = true
all_agree (r ∷ l) = agrees r && all_agree l

rows_agree : all_agree rows ≡ true
unfolding all_agree agrees same rows first first_rung select total tab offset line segment value closed
    day_value entry_at ends relaxed rounds labels hops lowest back traced chosen made start decode
    node_kind node_size node_per node_blocks judged judged_hours part_of_day bad_hours
    judged_arcs judged_sum judged_points bad_ends first_point bad_point bad_tick overtaken bad_length
    too_short_by travel_at borders is_border point_start profile_value decode_plan rules.bad_profile
    rules.first_bad_point rules.judged_ticks rules.judged_sum rules.judged_counts rules.judged_flags
    matching fails fails22 given checked triple_rung first_triple_rung asked network_file plan_file summed
    blank quick_formed head_text verdict_text is_accepted reads texts_of lines_from folded scanned
    space_scanned digit_scanned whole ended asking_text answer_text path_for spaced decimal digits_of
rows_agree = refl

-- THE RULE
same_lists : (s t : List ℕ) → same s t ≡ true → s ≡ t
unfolding same
same_lists [] [] h = refl
same_lists [] (y ∷ t) h = absurd (true≢false (sym h))
same_lists (x ∷ s) [] h = absurd (true≢false (sym h))
same_lists (x ∷ s) (y ∷ t) h =
    let (e, f) = (and-eq-true_iff (eqb x y) (same s t)).0 h in
    λ i. eqb-true x y e i ∷ same_lists s t f i

each_agrees : (l : List Row) → all_agree l ≡ true → (r : Row) → Mem r l → agrees r ≡ true
unfolding all_agree
each_agrees [] h r m = absurd (not-mem-nil m)
each_agrees (k ∷ l) h r m =
    let (e, f) = (and-eq-true_iff (agrees k) (all_agree l)).0 h in
    Or.elim (So-prop (agrees r)) (eq-or-mem_of_mem-cons m) (λ q. rw q e) (each_agrees l f r)

pub quay_town : (r : Row) → Mem r rows → answer_to r.question ≡ r.answer
unfolding agrees
quay_town r m = answer_quick r.question ∙ same_lists _ _ (each_agrees rows rows_agree r m)
