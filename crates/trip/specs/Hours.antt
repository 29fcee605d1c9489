-- What the hours of places have to do with a trip. On arrival the tick beside it is the first from then on at
-- which the target is open (`plain_opens`, `flagged_opens`); and nothing else looks at hours: two networks
-- that are alike but for them give the same trips and the same verdicts on plans (`hours_apart`).
use mathlib.Core.{Path.◌≡◌, Path.refl, Path.sym, Path.◌∙◌, Path.ap, List.List, List.[]}
use Rattle.file_refusals.specs.Refusal.{refused}
use Rattle.std.specs.Prelude.{Bool, true, false, cond, ℕ, Result, Ok, Err}
use lib.{Dec.leb, Dec.ltb, ListN.length}
use Rattle.theory_paths.specs.{Graph.all, Partition.Partition}
use Rattle.network.specs.declared.header.Header.{Header}
use Rattle.network.specs.{Limits.most_nodes, Limits.most_roads, Decode.decode, Town.partition_of, Town.travel_at}
use Rattle.network.specs.Network.{Network, nodes, arcs, points, start}
use Rattle.network.specs.{Validate.validated, Valid.ValidFile}
use Rattle.network.proofs.Valid.{valid_exactly}
use Rattle.network_hours.specs.Hours.{FirstOpen}
use Rattle.plan.specs.{Plan.towards, PlanDecode.decode_plan}
use Rattle.plan.specs.PlanValidate.{planned, planned_first, planned_header, matching}
use Rattle.plan_check.specs.CheckPlan.{checked_by, checking}
use Rattle.search_path.specs.Answer.{path_of, searched}
use Rattle.search_path.specs.declared.answer.{Arrival.Arrival}
use Rattle.trip_call.specs.{Trip.asked, Trip.trip_answer, Drive.drive_points, Visit.open_tick, Visit.visit_open}
use Rattle.trip_call.specs.Drive.{drive_number, drive_period, drive_nodes, drive_arcs, drive_cells}
use Rattle.trip_plain.specs.Plain.{PlainTrip, begun}
use Rattle.trip.specs.Flagged.{FlaggedTrip, flagged_arcs, planned_then, flagged_begun}
use Rattle.trip.specs.Calls.{plain_call, plain_path, flagged_call, flagged_path}
use Rattle.file_refusals.specs.declared.Refusal.{Refusal}
use Rattle.plan.specs.declared.header.PlanHeader.{PlanHeader}
use Rattle.trip.specs.{Promise.trip_arrived, Numbers.plain_begins, Numbers.flagged_begins}

-- WHEN THE TARGET IS OPEN, beside the answer a of a trip
module _ (network : List ℕ) {from to departure : ℕ} {arrivals₀ arrivals₁ roads₀ roads₁ : List ℕ} {a : Result Arrival Refusal}
    {opens : ℕ} (e : opens ≡ open_tick (decode network) to a) where
  pub plain_opens : PlainTrip network from to departure arrivals₀ arrivals₁ roads₀ roads₁ a
      → (r : Arrival) → a ≡ Ok r → FirstOpen (decode network) to r.tick opens
  plain_opens c r q =
      let w = plain_begins network from to departure (length arrivals₀) in
      let (h, f) = (trip_arrived w all (length roads₀) c.answer r q).passed in
      let d = begun network h from to departure (length arrivals₀) f in
      rw (e, q) (visit_open d.valid to d.asks.to_node r)

  pub flagged_opens : (plan : List ℕ)
      → FlaggedTrip network plan from to departure arrivals₀ arrivals₁ roads₀ roads₁ a
      → (r : Arrival) → a ≡ Ok r → FirstOpen (decode network) to r.tick opens
  flagged_opens plan c r q =
      let w = flagged_begins network from to departure (length arrivals₀) plan in
      let (h, f) =
      (trip_arrived w (flagged_arcs network plan to) (length roads₀) c.answer r q).passed in
      let d = flagged_begun network plan h from to departure (length arrivals₀) f in
      rw (e, q) (visit_open d.valid to d.asks.to_node r)

-- TWO NETWORKS ALIKE BUT FOR HOURS: the same once these are taken off
abbrev pub without_hours : Network → Network
without_hours n = record {
  number = n.number;
  period = n.period;
  cells = n.cells;
  hours = 0;
  cell_of = n.cell_of;
  opens = [];
  closes = [];
  tails = n.tails;
  heads = n.heads;
  counts = n.counts;
  ticks = n.ticks;
  travels = n.travels;
}

-- have the same graph and cells
bare_partition : (n : Network) → partition_of n ≡ partition_of (without_hours n)
unfolding travel_at start
bare_partition n = refl

pub same_partition : (n m : Network) → without_hours n ≡ without_hours m → partition_of n ≡ partition_of m
same_partition n m e = bare_partition n ∙ (ap partition_of e ∙ sym (bare_partition m))

-- the header's numbers but for hours, and those of a network
abbrev bare_header : Header → Header
bare_header h = record {
  number = h.number;
  period = h.period;
  nodes = h.nodes;
  arcs = h.arcs;
  cells = h.cells;
  points = h.points;
  hours = 0;
}

abbrev counts : Network → Header
counts n = record {
  number = n.number;
  period = n.period;
  nodes = nodes n;
  arcs = arcs n;
  cells = n.cells;
  points = points n;
  hours = 0;
}

header_counts : {file : List ℕ} {h : Header} → ValidFile file h → counts (decode file) ≡ bare_header h
header_counts v = λ i. record {
  number = drive_number v i;
  period = drive_period v i;
  nodes = drive_nodes v i;
  arcs = drive_arcs v i;
  cells = drive_cells v i;
  points = drive_points v i;
  hours = 0;
}

-- What comes before a trip's search, and the validation of a plan, look at no more than that.
bare_asked : (h : Header) (from to departure room : ℕ) (found : Result Arrival Refusal)
    → trip_answer (asked h from to departure room) found
    ≡ trip_answer (asked (bare_header h) from to departure room) found
unfolding asked
bare_asked h from to departure room found =
    go (leb h.nodes from) (leb h.nodes to) (leb h.period departure) (ltb room h.nodes)
  where
    rungs : Header → Bool → Bool → Bool → Bool → Result Header Refusal
    rungs j a b c d =
        cond a (refused 25 from)
        (cond b (refused 25 to) (cond c (refused 26 0) (cond d (refused 27 0) (Ok j))))

    go : (a b c d : Bool) → trip_answer (rungs h a b c d) found
        ≡ trip_answer (rungs (bare_header h) a b c d) found
    go true b c d = refl
    go false true c d = refl
    go false false true d = refl
    go false false false true = refl
    go false false false false = refl

bare_planned : (h : Header) (n : Network) (plan : List ℕ)
    → planned h n plan ≡ planned (bare_header h) (without_hours n) plan
unfolding planned planned_first planned_header matching travel_at start
bare_planned h n plan = refl

-- A trip and a verdict by the counts, the graph with its cells, and what the plan's validation says.
abbrev plain_by : Header → Partition → ℕ → ℕ → ℕ → Result Arrival Refusal
plain_by h G from to departure =
    trip_answer (asked h from to departure most_nodes) (searched G.graph all from to departure most_roads)

abbrev flagged_by : Header → Partition → List ℕ → Result PlanHeader Refusal → ℕ → ℕ → ℕ → Result Arrival Refusal
flagged_by h G plan m from to departure =
    trip_answer (planned_then m (asked h from to departure most_nodes))
    (searched G.graph (towards G (decode_plan plan) to) from to departure most_roads)

bare_flagged : (h : Header) (G : Partition) (plan : List ℕ) (m : Result PlanHeader Refusal) (from to departure : ℕ)
    → flagged_by h G plan m from to departure ≡ flagged_by (bare_header h) G plan m from to departure
bare_flagged h G plan (Err r) from to departure = refl
bare_flagged h G plan (Ok k) from to departure =
    bare_asked h from to departure most_nodes _

-- THE SAME TRIPS AND VERDICTS, with fresh lists, for two networks that open and are alike but for hours
pub record HoursApart (network other : List ℕ) : Type 0 where
  pub plain : (from to departure : ℕ)
      → (plain_call network from to departure ≡ plain_call other from to departure)
      × (plain_path network from to departure ≡ plain_path other from to departure)
  pub flagged : (plan : List ℕ) (from to departure : ℕ)
      → (flagged_call network plan from to departure ≡ flagged_call other plan from to departure)
      × (flagged_path network plan from to departure ≡ flagged_path other plan from to departure)
  pub verdict : (plan : List ℕ) → checking network plan ≡ checking other plan

pub hours_apart : (network other : List ℕ) {h k : Header} → validated network ≡ Ok h
    → validated other ≡ Ok k → without_hours (decode network) ≡ without_hours (decode other)
    → HoursApart network other
hours_apart network other {h} {k} e f q = record {
  plain = λ from to departure. (
    rw (e, f)
        (bare_asked h from to departure most_nodes _
        ∙ (cong₂ (λ (j : Header) (G : Partition). plain_by j G from to departure)
        ∙ sym (bare_asked k from to departure most_nodes _))),
    ap (λ (G : Partition). path_of G.graph all from to departure) parts,
  );
  flagged = λ plan from to departure. (
    rw (e, f)
        (bare_flagged h (partition_of n) plan (planned h n plan) from to departure
        ∙ (flagged_same plan from to departure
        ∙ sym (bare_flagged k (partition_of m) plan (planned k m plan) from to departure))),
    ap (λ (G : Partition). path_of G.graph (towards G (decode_plan plan) to) from to departure) parts,
  );
  verdict = λ plan. rw (e, f) (verdict_same plan);
}
  where
    n : Network
    n = decode network

    m : Network
    m = decode other

    parts : partition_of (decode network) ≡ partition_of (decode other)
    parts = same_partition (decode network) (decode other) q

    heads : bare_header h ≡ bare_header k
    heads = sym (header_counts ((valid_exactly network h).0 e)) ∙ (ap counts q
        ∙ header_counts ((valid_exactly other k).0 f))

    cong₂ : {A : Type 0} (F : Header → Partition → A)
        → F (bare_header h) (partition_of (decode network)) ≡ F (bare_header k) (partition_of (decode other))
    cong₂ F = λ i. F (heads i) (parts i)

    plans : (plan : List ℕ) → planned h (decode network) plan ≡ planned k (decode other) plan
    plans plan =
        bare_planned h (decode network) plan
        ∙ ((λ i. planned (heads i) (q i) plan) ∙ sym (bare_planned k (decode other) plan))

    flagged_same : (plan : List ℕ) (from to departure : ℕ)
        → flagged_by (bare_header h) (partition_of (decode network)) plan (planned h (decode network) plan)
        from to departure
        ≡ flagged_by (bare_header k) (partition_of (decode other)) plan (planned k (decode other) plan)
        from to departure
    flagged_same plan from to departure =
        λ i. flagged_by (heads i) (parts i) plan (plans plan i) from to departure

    verdict_same : (plan : List ℕ)
        → checked_by (partition_of (decode network)) (decode_plan plan) (planned h (decode network) plan)
        ≡ checked_by (partition_of (decode other)) (decode_plan plan) (planned k (decode other) plan)
    verdict_same plan = λ i. checked_by (parts i) (decode_plan plan) (plans plan i)
