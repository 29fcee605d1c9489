-- The two rounds over the borders, for the code: what the first round counts (`Counted`), and what the second
-- has put after the first i borders (`PutTo`). Each border's rows of least travels have the points of its
-- profiles in the plan that is made.
use mathlib.Core.{Path.◌≡◌, Path.refl, Path.sym, Path.◌∙◌, Path.ap, Logic.◌≢◌, Bool.true, List.List}
use Rattle.std.specs.Prelude.{ℕ, ◌+◌, ◌-◌, ◌*◌, ◌≤◌, ◌<◌, length, get_or}
use native.Mathlib.{Nat.mul-le-mul, Nat.mul-le-mul_right, Omega.arith, Decide.ℕ_discrete}
use Rattle.theory_loops.specs.{Count.count, Count.count_same, Grid.grid_at, Grid.grid_in}
use Rattle.theory_loops.specs.Total.{total, total_add, total_same, total_up, total_none}
use Rattle.theory_paths.specs.{Partition.Partition, Earliest.never}
use Rattle.theory_travel.specs.Table.{entry_at}
use Rattle.theory_travel.specs.Turns.{turns, turns_same, turn_count_same, turn_at, turn_rank}
use Rattle.network.specs.declared.header.Layout.{Layout}
use Rattle.network.specs.{Limits.most_nodes, Limits.most_period, Network.Network, Network.nodes}
use Rattle.network.specs.{Decode.decode, Decode.Small, Town.graph_of, Town.partition_of}
use Rattle.search_chains.specs.Town.{Town}
use Rattle.plan.specs.declared.header.PlanLayout.{PlanLayout}
use Rattle.plan.specs.{Border.border_count, Border.border_at, Border.Listed, Borders.at_node}
use Rattle.plan.specs.{PlanLimits.most_profile_points, PlanLimits.most_profiles, PlanMatch.borders_few}
use Rattle.plan_encode.specs.{Places.PlanRoom, PlanWritten.Entered}
use Rattle.plan_encode.specs.PlanWritten as written
use Rattle.toward_list.specs.Rows.{Worked}
use Rattle.toward_node.specs.Turn.{modest}
use Rattle.toward_start.specs.Start.{known_row, known_small}
use Rattle.plan_flags.specs.Words.{Flags, FlagsAfter}
use Rattle.plan_rows.specs.Rows.{row_points, LowRows, HasRow, RowsPut, points_none, points_some, rows_few}
use Rattle.plan_made.specs.Made.{made_profiles, made_travel, made_count, number_border, number_node}
use Rattle.plan_made.specs.Made.{count_none, count_some, made_count_lem, made_tick, made_travel_lem, start_is}
use Rattle.plan_made.specs.File.{made_plan}

-- border number i is b, and the list holds the least travels to it
pub record Aimed (n : Network) (i : ℕ) (W : List ℕ) (b : ℕ) : Type 0 where
  pub border : b ≡ border_at (partition_of n) i
  pub worked : Worked (graph_of n) (border_at (partition_of n) i) W

-- r is how many points all profiles have, or both are more than a plan can hold
pub record Counted (G : Partition) (r : ℕ) : Type 0 where
  pub exact : r ≤ most_profile_points → r ≡ total (made_profiles G) (made_count G)
  pub many : most_profile_points < r → most_profile_points < total (made_profiles G) (made_count G)

-- a layout with the counts of the plan that is made
pub record Held (n : Network) (k : PlanLayout) : Type 0 where
  pub borders : k.borders ≡ border_count (partition_of n)
  pub profiles : k.profiles ≡ made_profiles (partition_of n)
  pub points : k.points ≡ total (made_profiles (partition_of n)) (made_count (partition_of n))

-- where the points of border number i start, and its profiles
abbrev pub profiles_before : Network → ℕ → ℕ
profiles_before n i = i * nodes n

abbrev pub points_before : Network → ℕ → ℕ
points_before n i = total (profiles_before n i) (made_count (partition_of n))

-- The counts and points of the first i borders are in, and the words have their flags.
pub record PutTo (n : Network) (k : PlanLayout) (i : ℕ) (words s t : List ℕ) : Type 0 where
  pub flags : Flags n i words
  pub long : length t ≡ length s
  pub entered : Entered k (made_plan n) 0 0 s (profiles_before n i) (points_before n i) t

-- FOR CODE that takes border number i from the list
module _ {file : List ℕ} {l : Layout} (town : Town file l) {i : ℕ}
    (h : i < border_count (partition_of (decode file))) where
  pub border_index_lem : i < most_nodes
  border_index_lem =
      omega (arith, borders_few (partition_of (decode file)), town.sizes.nodes, town.small.nodes_most)

  pub aimed_node : {W : List ℕ} {b : ℕ} → Aimed (decode file) i W b → b < l.nodes
  aimed_node a = omega (arith, a.border, at_node (partition_of (decode file)) i h, town.sizes.nodes)

  module _ {borders : List ℕ} (all : Listed (partition_of (decode file)) borders) {b : ℕ}
      (e : b ≡ get_or borders i 0) where
    pub border_is : b ≡ border_at (partition_of (decode file)) i
    border_is = e ∙ all.at i h

    pub border_node : b < l.nodes
    border_node = omega (arith, border_is, at_node (partition_of (decode file)) i h, town.sizes.nodes)

    pub border_aimed : {W : List ℕ} → Worked (graph_of (decode file)) b W → Aimed (decode file) i W b
    border_aimed w = record { border = border_is; worked = rw border_is at w }

-- A BORDER'S ROWS: node u's has the points of its profile
module _ {file : List ℕ} {l : Layout} (t : Town file l) {i : ℕ} {W : List ℕ}
    (h : i < border_count (partition_of (decode file)))
    (w : Worked (graph_of (decode file)) (border_at (partition_of (decode file)) i) W) where
  abbrev n : Network
  n = decode file

  abbrev G : Partition
  G = partition_of n

  same : l.period ≡ n.period
  same = t.sizes.period

  some : 0 < n.period
  some = omega (arith, same, t.small.period_some)

  -- every row has no number, or small ones
  pub rows_low : LowRows l.nodes l.period W
  rows_low = record {
    some = omega (arith, t.small.period_some);
    few = t.small.period_most;
    entry = λ u x a b ne.
        let p : u < nodes n = omega (arith, t.sizes.nodes) in
        let q : x < n.period = omega (arith, same) in
        let m = modest t in
        let e : nodes n ≤ most_nodes = omega (arith, t.sizes.nodes, t.small.nodes_most) in
        let f : n.period ≤ most_period = omega (arith, same, t.small.period_most) in
        let z = known_small m w u x p q (known_row m w u p some (rw same at ne)) in
        let g : nodes n - 1 ≤ nodes n = omega arith in
        rw same (omega (arith, z, mul-le-mul e f, mul-le-mul_right n.period g));
  }

  module _ (u : ℕ) (a : u < nodes n) where
    abbrev number : ℕ
    number = i * nodes n + u

    in_plan : i * nodes n + u < made_profiles G
    in_plan = grid_in (nodes n) (border_count G) i u h a

    row_is : (x : ℕ) → x < n.period → grid_at n.period W u x ≡ made_travel G (i * nodes n + u) x
    row_is x b =
        w.at u x a b
        ∙ sym (rw (number_border (nodes n) i u a, number_node (nodes n) i u a))

    pub row_points_lem : row_points l.period W u ≡ made_count G (i * nodes n + u)
    row_points_lem = rw same (elim (ℕ_discrete (grid_at n.period W u 0) never) [
      | yes e ↦ points_none n.period W u e
          ∙ sym (count_none n.cells G number (sym (row_is 0 some) ∙ e))
      | no e ↦ points_some n.period W u e
          ∙ turn_count_same (grid_at n.period W u) (made_travel G number) n.period row_is
          ∙ sym (count_some n.cells G number (λ z. e (row_is 0 some ∙ z)))
    ])

    -- tick x, which is a point, stands at its place
    module _ (ne : grid_at n.period W u 0 ≢ never) (x : ℕ) (b : x < n.period)
        (y : turns (grid_at n.period W u) n.period x ≡ true) where
      abbrev rank : ℕ
      rank = count x (turns (made_travel G number) n.period)

      rank_is : count x (turns (grid_at n.period W u) n.period) ≡ rank
      rank_is =
          count_same _ _ x
          (λ j c. turns_same (grid_at n.period W u) (made_travel G number) n.period row_is j (omega
          arith))

      point_is : turns (made_travel G number) n.period x ≡ true
      point_is =
          sym (turns_same (grid_at n.period W u) (made_travel G number) n.period row_is x b) ∙ y

      rank_in : rank < made_count G number
      rank_in =
          rw (count_some n.cells G number (λ z. ne (row_is 0 some ∙ z)))
          (turn_rank (made_travel G number) n.period x b point_is)

      tick_there : get_or (made_plan n).ticks
          (total number (made_count G) + count x (turns (grid_at n.period W u) n.period)) 0 ≡ x
      unfolding entry_at
      tick_there =
          rw (rank_is, ← (start_is n.cells G number (omega (arith, in_plan))))
          (made_tick n.cells G number rank in_plan rank_in
          ∙ turn_at (made_travel G number) n.period x b point_is)

      travel_there : get_or (made_plan n).travels
          (total number (made_count G) + count x (turns (grid_at n.period W u) n.period)) 0
          ≡ grid_at n.period W u x
      unfolding entry_at
      travel_there =
          rw (rank_is, ← (start_is n.cells G number (omega (arith, in_plan))))
          (made_travel_lem n.cells G number rank in_plan rank_in
          ∙ ap (made_travel G number) (turn_at (made_travel G number) n.period x b point_is)
          ∙ sym (row_is x b))

    row_there : HasRow (made_plan n) l.period W u (i * nodes n + u) (total (i * nodes n + u) (made_count G))
    row_there = rw same (record {
      counted = made_count_lem n.cells G number in_plan ∙ sym (rw same at row_points_lem);
      tick = tick_there;
      travel = travel_there;
    })

  -- all rows together
  rows_points : (u : ℕ) → u ≤ nodes n
      → total u (row_points l.period W) ≡ total u (λ j. made_count G (i * nodes n + j))
  rows_points u a = total_same _ _ u (λ j b. row_points_lem j (omega arith))

  points_to : (u : ℕ) → u ≤ nodes n
      → total (i * nodes n + u) (made_count G) ≡ points_before n i + total u (row_points l.period W)
  points_to u a = total_add (made_count G) (i * nodes n) u ∙ omega (arith, rows_points u a)

  pub border_points : {r : ℕ} → r ≡ total l.nodes (row_points l.period W)
      → points_before n i + r ≡ points_before n (i + 1)
  border_points {r} e =
      let z : (i + 1) * nodes n ≡ i * nodes n + nodes n = omega arith in
      let f : r ≡ total (nodes n) (row_points l.period W) = rw t.sizes.nodes at e in
      rw (z, points_to (nodes n) (omega arith), ← f)

  rows_there : (u : ℕ) → u < l.nodes
      → HasRow (made_plan n) l.period W u (profiles_before n i + u)
      (points_before n i + total u (row_points l.period W))
  rows_there u a =
      let b : u < nodes n = omega (arith, t.sizes.nodes) in
      rw (← (points_to u (omega arith))) (row_there u b)

-- FOR THE FIRST ROUND
module _ (file : List ℕ) where
  pub counted_none : 0 ≡ points_before (decode file) 0
  counted_none =
      let z : 0 * nodes (decode file) ≡ 0 = omega arith in
      rw z (total_none (made_count (partition_of (decode file))))

  -- border number i has r points more
  pub counted_more : {l : Layout} {i seen r : ℕ} {W : List ℕ} → Town file l
      → i < border_count (partition_of (decode file)) → {b : ℕ} → Aimed (decode file) i W b
      → seen ≡ points_before (decode file) i → r ≡ total l.nodes (row_points l.period W)
      → seen + r ≡ points_before (decode file) (i + 1)
  counted_more t h a e f = omega (arith, border_points t h a.worked f)

  -- few of them
  pub counted_few : {l : Layout} {i b r : ℕ} {W : List ℕ} → Small l → Aimed (decode file) i W b
      → r ≡ total l.nodes (row_points l.period W) → r ≤ 1474560
  counted_few {l} {W = W} s a e =
      omega (arith, rows_few l.period W l.nodes, mul-le-mul s.nodes_most s.period_most)

  pub counted_all : {i seen : ℕ} → seen ≡ points_before (decode file) i
      → i ≤ border_count (partition_of (decode file)) → border_count (partition_of (decode file)) ≤ i
      → Counted (partition_of (decode file)) seen
  counted_all {i} e l m =
      let z : i ≡ border_count (partition_of (decode file)) = omega arith in
      let f = rw z at e in
      record { exact = λ _. f; many = λ h. omega (arith, f) }

  -- the points of some borders are more than a plan can hold
  pub counted_many : {i seen : ℕ} → seen ≡ points_before (decode file) i
      → i ≤ border_count (partition_of (decode file)) → most_profile_points < seen
      → Counted (partition_of (decode file)) seen
  counted_many {i} e l h = record {
    exact = λ m. absurd (omega arith);
    many = λ _. omega (
      arith,
      total_up (made_count (partition_of (decode file))) _ _ (mul-le-mul_right (nodes (decode file)) l),
    );
  }

-- FOR THE SECOND
module _ {file : List ℕ} {l : Layout} (t : Town file l) {k : PlanLayout} (held : Held (decode file) k) where
  pub put_none : {words s : List ℕ} → Flags (decode file) 0 words → PutTo (decode file) k 0 words s s
  put_none {s = s} f = record {
    flags = f;
    long = refl;
    entered =
        let z : 0 * nodes (decode file) ≡ 0 = omega arith in
        rw (z, ← (total_none (made_count (partition_of (decode file))))) written.start;
  }

  module _ {i : ℕ} (h : i < k.borders) where
    pub listed : i < border_count (partition_of (decode file))
    listed = omega (arith, held.borders)

    next_profiles : (i + 1) * nodes (decode file) ≡ i * nodes (decode file) + nodes (decode file)
    next_profiles = omega arith

    profiles_same : i * l.nodes ≡ i * nodes (decode file)
    profiles_same = ap (λ (m : ℕ). i * m) t.sizes.nodes

    pub profiles_few : i * l.nodes ≤ most_profiles
    profiles_few =
        let m : i ≤ most_nodes =
        omega (
          arith,
          listed,
          borders_few (partition_of (decode file)),
          t.sizes.nodes,
          t.small.nodes_most,
        ) in
        mul-le-mul m t.small.nodes_most

    -- there is room for the profiles of border number i, and for their points
    pub profiles_room : {c : ℕ} → c ≡ i * l.nodes → c + l.nodes ≤ k.profiles
    profiles_room e =
        let m : i + 1 ≤ border_count (partition_of (decode file)) = omega (arith, listed) in
        let p : k.profiles ≡ border_count (partition_of (decode file)) * nodes (decode file) =
        held.profiles in
        omega (arith, t.sizes.nodes, profiles_same, mul-le-mul_right (nodes (decode file)) m)

    module _ {W : List ℕ}
        (w : Worked (graph_of (decode file)) (border_at (partition_of (decode file)) i) W) where
      pub points_room : {q : ℕ} → q ≡ points_before (decode file) i
          → q + total l.nodes (row_points l.period W) ≤ k.points
      points_room e =
          let m : i + 1 ≤ border_count (partition_of (decode file)) = omega (arith, listed) in
          omega (
            arith,
            border_points t listed w refl,
            held.points,
            total_up (made_count (partition_of (decode file))) _ _ (mul-le-mul_right (nodes (decode file)) m),
          )

      pub put_more : {words more s u v : List ℕ} {c q r : ℕ} → PutTo (decode file) k i words s u
          → FlagsAfter (decode file) (border_at (partition_of (decode file)) i) words more
          → c ≡ i * l.nodes → q ≡ points_before (decode file) i
          → RowsPut k l.period W l.nodes c q u v r
          → (r ≡ points_before (decode file) (i + 1)) × PutTo (decode file) k (i + 1) more s v
      put_more {s = s} {v = v} {c = c} {q = q} {r = r} p f a b y =
          let d : c ≡ profiles_before (decode file) i = a ∙ profiles_same in
          let o : l.nodes ≡ nodes (decode file) = t.sizes.nodes in
          let e : r ≡ points_before (decode file) (i + 1) =
          omega (arith, y.next, border_points t listed w refl) in
          let z : c + l.nodes ≡ profiles_before (decode file) (i + 1) = omega (arith, next_profiles) in (
            e,
            record {
              flags = f.more i refl p.flags;
              long = y.long ∙ p.long;
              entered = rw (← e, ← z)
                  (y.entered (made_plan (decode file))
                  (λ x g. rw (d, b) (rows_there t listed w x g)) 0 0 s
                  (rw (d, b) p.entered));
            },
          )

-- the file keeps its room
pub put_kept : {n : Network} {k : PlanLayout} {i : ℕ} {words s t : List ℕ} → PlanRoom k (length s)
    → PutTo n k i words s t → PlanRoom k (length t)
put_kept r p = rw p.long r

pub put_end : {n : Network} {k : PlanLayout} {i m : ℕ} {words s t : List ℕ} → PutTo n k i words s t → i ≤ m
    → m ≤ i → PutTo n k m words s t
put_end {i = i} {m = m} p l h = let e : i ≡ m = omega arith in rw e at p
