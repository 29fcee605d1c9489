-- The plan that is made of a network alone (`plan_of`): each profile has the points at which the least travels
-- turn, none where there is no path, and an arc has the flag of a cell exactly when both ends lie in it or it
-- starts a least path to some border of it at some tick. It is well-formed (`made_formed`), its profiles are
-- true (`made_true`) and its flags enough (`made_enough`): so the check accepts it.
use mathlib.Core.{Path.◌≡◌, Path.sym, Path.◌∙◌, Path.ap, Logic.◌≢◌, Bool.Bool, Bool.cond, List.List}
use Rattle.std.specs.Prelude.{ℕ, ◌+◌, ◌*◌, ◌/◌, ◌%◌, ◌≤◌, ◌<◌}
use Rattle.std.proofs.Math.Nat.{mul-add-div_right, mul-add-mod_self_right, div-eq_of_lt}
use Rattle.std.proofs.Common.{mod-eq_of_lt, add-zero, eq-eqb, ne_eqb}
use native.Mathlib.{Omega.arith, Decide.ℕ_discrete}
use lib.{ListN.length, ListN.get_or, Dec.eqb}
use Rattle.theory_loops.specs.{Fill.tab, Fill.get_or_tab, Fill.length_tab, Total.total, Total.total_same}
use Rattle.theory_loops.specs.Grid.{grid_in}
use Rattle.theory_loops.specs.Joined.{joined, part_start, joined_length, joined_at}
use Rattle.theory_paths.specs.{Partition.Partition, Earliest.never, Profiles.ticks, Profiles.TrueProfile}
use Rattle.theory_paths.specs.Flags.{EnoughFlags, TrueProfiles}
use Rattle.theory_paths.specs.Least.{Modest, least_ticks, least_travel}
use Rattle.theory_paths.proofs.Least.{travel_never, travel_ticks}
use Rattle.theory_paths.proofs.Least.{least_capped, never_always, least_exactly}
use Rattle.theory_paths.specs.Planned.{Borders, Flagged, planned}
use Rattle.theory_paths.proofs.Planned.{planned_enough}
use Rattle.theory_travel.specs.{Day.Day, Table.entry_at}
use Rattle.theory_travel.specs.Turns.{turn_count, turn_tick, turn_value, turns_few, turned_day, turned_value}
use Rattle.network.specs.{Network.Network, Network.nodes, Town.partition_of}
use Rattle.plan.specs.{Border.border_count, Border.border_at, Border.border_index, Plan.profile, Plan.profile_to}
use Rattle.plan.specs.Borders.{border_exactly, at_border_lem, at_index, index_below, border_below, every_border}
use Rattle.plan.specs.Plan.{Plan, flag, point_count, point_start, point_ticks, point_travels, profile_value}
use Rattle.plan.specs.{Word.word_of, Word.word_bit, Word.word_below, WellFormed.WellFormed}
use Rattle.plan.specs.PlanDecode.{flag_word, point_total}

-- a profile for each border and each node
abbrev pub made_profiles : Partition → ℕ
made_profiles G = border_count G * G.graph.nodes

-- the least travels, tick by tick, that profile number k has: to its border from its node
abbrev pub made_travel : Partition → ℕ → ℕ → ℕ
made_travel G k x = least_ticks G.graph (border_at G (k / G.graph.nodes)) (k % G.graph.nodes) x

-- how many points it has, and their ticks and travels
unfoldable pub made_count : Partition → ℕ → ℕ
made_count G k = cond (eqb (made_travel G k 0) never) 0 (turn_count (made_travel G k) G.graph.period)

abbrev pub made_ticks : Partition → ℕ → List ℕ
made_ticks G k = tab (made_count G k) (turn_tick (made_travel G k) G.graph.period)

abbrev pub made_travels : Partition → ℕ → List ℕ
made_travels G k = tab (made_count G k) (turn_value (made_travel G k) G.graph.period)

-- arc a's flag of cell c
abbrev pub made_flag : Partition → ℕ → ℕ → Bool
made_flag G a c = planned G.graph G.cell (border_count G) (border_at G) a c

-- the plan, with flags of so many cells
unfoldable pub plan_of : ℕ → Partition → Plan
plan_of cells G = record {
  flag_words = tab G.graph.arcs (λ a. word_of cells (made_flag G a));
  counts = tab (made_profiles G) (made_count G);
  ticks = joined (made_profiles G) (made_ticks G);
  travels = joined (made_profiles G) (made_travels G);
}

module _ (cells : ℕ) (G : Partition) where
  abbrev made : Plan
  made = plan_of cells G

  abbrev period : ℕ
  period = G.graph.period

  -- ITS ENTRIES
  pub made_count_lem : (k : ℕ) → k < made_profiles G → point_count made k ≡ made_count G k
  unfolding plan_of
  made_count_lem k l = get_or_tab (made_profiles G) (made_count G) k l

  pub start_is : (k : ℕ) → k ≤ made_profiles G → point_start made k ≡ total k (made_count G)
  unfolding point_start
  start_is k l = total_same (point_count made) (made_count G) k (λ i m. made_count_lem i (omega arith))

  pub part_is : (f : ℕ → ℕ → ℕ) (k : ℕ) → part_start (λ i. tab (made_count G i) (f i)) k ≡ total k (made_count G)
  part_is f k =
      total_same (λ i. length (tab (made_count G i) (f i))) (made_count G) k
      (λ i m. length_tab (made_count G i) (f i))

  -- entry i of part k
  part_at : (f : ℕ → ℕ → ℕ) (k i : ℕ) → k < made_profiles G → i < made_count G k
      → get_or (joined (made_profiles G) (λ j. tab (made_count G j) (f j))) (point_start made k + i) 0 ≡ f k i
  part_at f k i l m =
      rw (start_is k (omega arith), ← (part_is f k))
      (joined_at (λ j. tab (made_count G j) (f j)) (made_profiles G) k i l
      (rw (length_tab (made_count G k) (f k)) m)
      ∙ get_or_tab (made_count G k) (f k) i m)

  pub made_tick : (k i : ℕ) → k < made_profiles G → i < made_count G k
      → point_ticks made k i ≡ turn_tick (made_travel G k) period i
  unfolding entry_at plan_of
  made_tick k i l m = part_at (λ j. turn_tick (made_travel G j) period) k i l m

  pub made_travel_lem : (k i : ℕ) → k < made_profiles G → i < made_count G k
      → point_travels made k i ≡ turn_value (made_travel G k) period i
  unfolding entry_at plan_of
  made_travel_lem k i l m = part_at (λ j. turn_value (made_travel G j) period) k i l m

  pub made_word : (a : ℕ) → a < G.graph.arcs → flag_word made a ≡ word_of cells (made_flag G a)
  unfolding plan_of
  made_word a l = get_or_tab G.graph.arcs (λ a. word_of cells (made_flag G a)) a l

  pub made_total : point_total made ≡ total (made_profiles G) (made_count G)
  unfolding plan_of
  made_total =
      joined_length (made_ticks G) (made_profiles G)
      ∙ part_is (λ j. turn_tick (made_travel G j) period) (made_profiles G)

  -- a profile has no points, or those at which its travels turn
  pub count_none : (k : ℕ) → made_travel G k 0 ≡ never → made_count G k ≡ 0
  unfolding made_count
  count_none k e = rw (eq-eqb (made_travel G k 0) never e)

  pub count_some : (k : ℕ) → made_travel G k 0 ≢ never → made_count G k ≡ turn_count (made_travel G k) period
  unfolding made_count
  count_some k e = rw (ne_eqb (made_travel G k 0) never e)

  made_day : 0 < period → (k : ℕ) → k < made_profiles G → 0 < point_count made k
      → Day (point_ticks made k) (point_count made k) period
  made_day some k l h = elim (ℕ_discrete (made_travel G k 0) never) [
    | yes e ↦ absurd (omega (arith, made_count_lem k l, count_none k e))
    | no e ↦
        turned_day (made_travel G k) period some (made_count_lem k l ∙ count_some k e)
        (λ i m. made_tick k i l (omega (arith, made_count_lem k l)))
  ]

  made_most : (k : ℕ) → k < made_profiles G → point_count made k ≤ period
  made_most k l = elim (ℕ_discrete (made_travel G k 0) never) [
    | yes e ↦ omega (arith, made_count_lem k l, count_none k e)
    | no e ↦ omega (arith, made_count_lem k l, count_some k e, turns_few (made_travel G k) period)
  ]

  made_sum : point_start made (made_profiles G) ≡ point_total made
  made_sum = start_is (made_profiles G) (omega arith) ∙ sym made_total

  -- PROFILES: the value at each tick is the least travel
  module _ (m : Modest G.graph) (k x : ℕ) (l : k < made_profiles G)
      (u : k % G.graph.nodes < G.graph.nodes) (h : x < period) where
    abbrev border : ℕ
    border = border_at G (k / G.graph.nodes)

    abbrev node : ℕ
    node = k % G.graph.nodes

    made_never : made_travel G k 0 ≡ never
        → profile_value period made k x ≡ least_travel G.graph border node x
    unfolding profile_value
    made_never e =
        rw (eq-eqb (point_count made k) 0 (made_count_lem k l ∙ count_none k e))
        (sym (travel_never (never_always m border node 0 x u (omega arith) h e)))

    made_number : made_travel G k 0 ≢ never → made_travel G k x < never
    made_number ne = elim (ℕ_discrete (made_travel G k x) never) [
      | yes e ↦ absurd (ne (never_always m border node x 0 u h (omega arith) e))
      | no e ↦ omega (arith, least_capped m border {u = node} {x = x} u h)
    ]

    made_ticks_lem : made_travel G k 0 ≢ never
        → profile_value period made k x ≡ least_travel G.graph border node x
    unfolding profile_value
    made_ticks_lem ne =
        let c = made_count_lem k l ∙ count_some k ne in
        let r : (i : ℕ) → i < point_count made k → point_ticks made k i ≡ turn_tick (made_travel G k) period i =
        λ i j. made_tick k i l (omega (arith, made_count_lem k l)) in
        let d = turned_day (made_travel G k) period (omega arith) c r in
        rw (ne_eqb (point_count made k) 0 (omega (arith, d.some)))
        (ap ticks (turned_value (made_travel G k) period (omega arith) c r
        (λ i j. made_travel_lem k i l (omega (arith, made_count_lem k l))) x h)
        ∙ sym (travel_ticks (made_number ne)))

    made_value : profile_value period made k x ≡ least_travel G.graph border node x
    made_value = elim (ℕ_discrete (made_travel G k 0) never) [ yes e ↦ made_never e | no e ↦ made_ticks_lem e ]

-- profile number i × nodes + u is that of border number i and node u
pub number_border : (nodes i u : ℕ) → u < nodes → (i * nodes + u) / nodes ≡ i
number_border nodes i u h =
    mul-add-div_right (omega arith) i u ∙ (ap (λ (k : ℕ). i + k) (div-eq_of_lt h) ∙ add-zero i)

pub number_node : (nodes i u : ℕ) → u < nodes → (i * nodes + u) % nodes ≡ u
number_node nodes i u h = mul-add-mod_self_right i nodes u ∙ mod-eq_of_lt h

module _ (cells : ℕ) (G : Partition) (m : Modest G.graph) where
  made_profile : (i u x : ℕ) → i < border_count G → u < G.graph.nodes → x < G.graph.period
      → profile G.graph (plan_of cells G) i u x ≡ least_travel G.graph (border_at G i) u x
  made_profile i u x l h k =
      let n = G.graph.nodes in
      let q = number_node n i u h in
      rw (number_border n i u h, q) at
      (made_value cells G m (i * n + u) x (grid_in n (border_count G) i u l h) (rw q h) k)

  pub made_true : TrueProfiles G.graph G.cell (profile_to G (plan_of cells G))
  made_true =
      (every_border m.lawful (λ i b. TrueProfile G.graph b (profile G.graph (plan_of cells G) i))).0
      (λ i l. (least_exactly m (border_at G i)).1 (λ u x h k. made_profile i u x l h k))

  -- FLAGS
  pub made_borders : Borders G.graph G.cell (border_count G) (border_at G)
  made_borders = record {
    is = λ i l. (border_exactly G (border_at G i)).0 (at_border_lem G i l);
    number = λ b r.
        let l = border_below m.lawful r in
        let e = (border_exactly G b).1 r in
        (border_index G b, index_below G b l e, at_index G b l e);
  }

  made_flagged : ((v : ℕ) → v < G.graph.nodes → G.cell v < cells)
      → Flagged G.graph G.cell (border_count G) (border_at G) (flag (plan_of cells G))
  made_flagged below = record {
    same = λ a v l h. rw (made_word cells G a l) (word_bit cells (made_flag G a) (G.cell v) (below v h));
  }

  pub made_enough : ((v : ℕ) → v < G.graph.nodes → G.cell v < cells)
      → EnoughFlags G.graph G.cell (flag (plan_of cells G))
  made_enough below = planned_enough m G.cell made_borders (made_flagged below)

-- it is well-formed
pub made_formed : (n : Network) → 0 < n.period → WellFormed n (plan_of n.cells (partition_of n))
made_formed n some =
    let G = partition_of n in
    record {
      flags_below = λ a l. rw (made_word n.cells G a l) (word_below n.cells (made_flag G a));
      counts_most = made_most n.cells G;
      sum = made_sum n.cells G;
      days = made_day n.cells G some;
    }
