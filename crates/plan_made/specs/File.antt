-- The file of the plan that is made of a network (`made_file`): it decodes to that plan (`made_decodes`), and
-- none of 11 to 19 applies to it (`made_valid`), where its points are no more than a plan can hold.
use mathlib.Core.{Path.◌≡◌, Path.refl, Path.sym, Path.◌∙◌, List.List}
use Rattle.std.specs.Prelude.{ℕ, ◌/◌, ◌%◌, ◌^◌, ◌≤◌, ◌<◌}
use native.Mathlib.{Nat.pow-le-pow_right, Nat.mod-lt, Nat.lt_of_lt_of_le, Omega.arith}
use lib.{Dec.lit<, ListN.length, ListN.get_or, ListN.get_or-eq_default}
use Rattle.std.proofs.Math.Decide.{dec_lt, ℕ_discrete}
use Rattle.theory_loops.specs.{Fill.tab, Fill.get_or_tab, Fill.length_tab}
use Rattle.theory_loops.specs.Joined.{joined, joined_length, joined_below}
use Rattle.theory_paths.specs.{Partition.Partition, Earliest.never, Least.Modest}
use Rattle.theory_paths.proofs.Least.{least_capped}
use Rattle.theory_travel.specs.Turns.{turn_tick, turn_value, turns_few, turns_day}
use Rattle.file_fields.specs.Fields.{Bytes}
use Rattle.network.specs.declared.header.Header.{Header}
use Rattle.network.specs.{Network.Network, Network.nodes, Network.arcs, Decode.decode}
use Rattle.network.specs.{Town.graph_of, Town.partition_of, Valid.ValidFile}
use Rattle.plan.specs.declared.header.PlanHeader.{PlanHeader}
use Rattle.plan.specs.{Border.border_count, Border.border_at, Plan.Plan, Word.word_of, Word.word_below}
use Rattle.plan.specs.{PlanDecode.decode_plan, PlanDecode.point_total, PlanHeader.PlanWithin}
use Rattle.plan.specs.{PlanLimits.most_profile_points, PlanValid.ValidPlan}
use Rattle.plan.specs.PlanMatch.{Matches, matches_within, borders_few, valid_headed}
use Rattle.plan_encode.specs.PlanEncode.{encode_plan, PlanProper}
use Rattle.plan_encode.specs.PlanRoundTrip.{decode_encode_plan, encode_valid}
use Rattle.plan_made.specs.Made.{plan_of, made_profiles, made_travel, made_count, made_ticks, made_travels}
use Rattle.plan_made.specs.Made.{made_flag, count_none, count_some, part_is, made_formed}

-- the plan, its header and its file
abbrev pub made_plan : Network → Plan
made_plan n = plan_of n.cells (partition_of n)

unfoldable pub made_header : Network → PlanHeader
made_header n = record {
  number = n.number;
  period = n.period;
  nodes = nodes n;
  arcs = arcs n;
  cells = n.cells;
  borders = border_count (partition_of n);
  points = point_total (made_plan n);
}

abbrev pub made_file : Network → List ℕ
made_file n = encode_plan (made_header n) (made_plan n)

-- an entry beyond the end is 0
below_all : (s : List ℕ) (m : ℕ) → 0 < m → ((q : ℕ) → q < length s → get_or s q 0 < m) → (q : ℕ) → get_or s q 0
    < m
below_all s m some h q = elim (dec_lt q (length s)) [
  | yes l ↦ h q l
  | no l ↦ rw (get_or-eq_default s 0 {n = q} (omega arith)) some
]

tab_below : (n : ℕ) (f : ℕ → ℕ) (m : ℕ) → 0 < m → ((k : ℕ) → k < n → f k < m) → (q : ℕ) → get_or (tab n f) q
    0 < m
tab_below n f m some h =
    below_all (tab n f) m some
    (λ q l.
    let k : q < n = omega (arith, length_tab n f) in
    rw (get_or_tab n f q k) (h q k))

module _ {network : List ℕ} {h : Header} (v : ValidFile network h) where
  abbrev n : Network
  n = decode network

  abbrev G : Partition
  G = partition_of n

  period_few : n.period ≤ 2880
  period_few = omega (arith, (valid_headed v).period, v.within.period_most)

  period_some : 0 < n.period
  period_some = omega (arith, (valid_headed v).period, v.within.period_some)

  cells_few : n.cells ≤ 64
  cells_few = omega (arith, (valid_headed v).cells, v.within.cells_most)

  count_few : (k : ℕ) → made_count G k ≤ n.period
  count_few k = elim (ℕ_discrete (made_travel G k 0) never) [
    | yes e ↦ omega (arith, count_none n.cells G k e)
    | no e ↦ omega (arith, count_some n.cells G k e, turns_few (made_travel G k) n.period)
  ]

  -- point i of profile k has a tick of the period
  tick_below : (k i : ℕ) → i < made_count G k → turn_tick (made_travel G k) n.period i < n.period
  tick_below k i l = elim (ℕ_discrete (made_travel G k 0) never) [
    | yes e ↦ absurd (omega (arith, count_none n.cells G k e))
    | no e ↦ (turns_day (made_travel G k) n.period period_some).below i
        (omega (arith, count_some n.cells G k e))
  ]

  parts_below : (f : ℕ → ℕ → ℕ) (m : ℕ) → 0 < m
      → ((k i : ℕ) → k < made_profiles G → i < made_count G k → f k i < m) → (q : ℕ)
      → get_or (joined (made_profiles G) (λ k. tab (made_count G k) (f k))) q 0 < m
  parts_below f m some h =
      below_all (joined (made_profiles G) (λ k. tab (made_count G k) (f k))) m some
      (joined_below (λ k. tab (made_count G k) (f k)) m (made_profiles G) (λ k i a b.
      let j : i < made_count G k = omega (arith, length_tab (made_count G k) (f k)) in
      rw (get_or_tab (made_count G k) (f k) i j) (h k i a j)))

  pub made_matches : point_total (made_plan n) ≤ most_profile_points → Matches h (border_count G) (made_header n)
  unfolding made_header decode
  made_matches few =
      let d = valid_headed v in
      record {
        number = rw v.is;
        period = sym d.period;
        nodes = sym d.nodes_are;
        arcs = sym d.arcs_are;
        cells = sym d.cells;
        borders_are = refl;
        points_most = few;
      }

  -- its numbers fit their fields
  module _ (m : Modest (graph_of (decode network))) (b : Bytes network)
      (few : point_total (made_plan (decode network)) ≤ most_profile_points) where
    number_fits : n.number < 2 ^ 32
    unfolding decode
    number_fits = omega (arith, b.byte 8, b.byte 9, b.byte 10, b.byte 11)

    -- the travel of a profile's tick is that of the node that it is numbered by
    travel_capped : (k x : ℕ) → k < made_profiles G → x < n.period → made_travel G k x ≤ never
    travel_capped k x l h =
        least_capped m (border_at G (k / nodes n)) {u = k % nodes n} {x = x} (mod-lt k (nodes_some k l)) h
      where
        nodes_some : (k : ℕ) → k < made_profiles G → 0 < nodes n
        nodes_some k l = omega (arith, (valid_headed v).nodes_are, v.within.nodes_some)

    made_within : PlanWithin (made_header n)
    made_within =
        matches_within h (border_count G) (made_header n) v.within
        (omega (arith, (valid_headed v).nodes_are, borders_few G)) (made_matches few)

    pub made_proper : PlanProper (made_header (decode network)) (made_plan (decode network))
    unfolding made_header plan_of
    made_proper = record {
      within = made_within;
      number_fits = number_fits;
      flags_long = length_tab _ _;
      counts_long = length_tab _ _;
      ticks_long = refl;
      travels_long = joined_length (made_travels G) (made_profiles G)
          ∙ part_is n.cells G (λ j. turn_value (made_travel G j) n.period) (made_profiles G)
          ∙ sym (joined_length (made_ticks G) (made_profiles G)
          ∙ part_is n.cells G (λ j. turn_tick (made_travel G j) n.period) (made_profiles G));
      flags_fit = tab_below (arcs n) (λ a. word_of n.cells (made_flag G a)) (2 ^ 64) (lit< tt)
          (λ a _. lt_of_lt_of_le (word_below n.cells (made_flag G a))
          (pow-le-pow_right (lit< tt) cells_few));
      counts_fit = tab_below (made_profiles G) (made_count G) 65536 (lit< tt)
          (λ k _. omega (arith, count_few k, period_few));
      ticks_fit = parts_below (λ k. turn_tick (made_travel G k) n.period) 65536 (lit< tt)
          (λ k i _ l. omega (arith, tick_below k i l, period_few));
      travels_fit = parts_below (λ k. turn_value (made_travel G k) n.period) (2 ^ 32) (lit< tt)
          (λ k i a l. omega (
            arith,
            travel_capped k (turn_tick (made_travel G k) n.period i) a (tick_below
                k i l),
          ));
    }

    pub made_decodes : decode_plan (made_file (decode network)) ≡ made_plan (decode network)
    made_decodes = decode_encode_plan made_proper

    pub made_valid : ValidPlan h (decode network) (made_file (decode network)) (made_header (decode network))
    made_valid = encode_valid made_proper (made_matches few) (made_formed n period_some)
