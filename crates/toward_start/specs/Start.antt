-- Whether an arc starts a least path, told by lowering: the row of its tail with one more at each tick falls
-- exactly where the arc gives the tail's number, since no arc gives less.
use mathlib.Core.{Path.◌≡◌, Path.refl, Path.sym, Path.◌∙◌, Path.ap, Logic.◌≢◌, List.List}
use Rattle.std.specs.Prelude.{Bool, true, false, ℕ, ◌+◌, ◌-◌, ◌*◌, ◌%◌, ◌≤◌, ◌<◌}
use native.Mathlib.{Nat.mod-lt, Nat.le_antisymm, Nat.mul-le-mul, Omega.arith, Decide.dec_lt, Decide.ℕ_discrete}
use lib.{ListN.length, ListN.get_or, ListN.take, ListN.drop, Dec.ltb}
use borrow.Author.Tests.{eq-eqb, ne_eqb, lt-ltb, le-ltb}
use Rattle.theory_loops.specs.{First.yes_any, First.any_clear, Fill.Filled, Grid.grid_at}
use Rattle.theory_paths.specs.{Graph.Graph, Earliest.never}
use Rattle.theory_paths.proofs.Least.{least_reach, least_bound}
use Rattle.theory_paths.specs.Least.{Modest, least_ticks}
use Rattle.theory_paths.proofs.Least.{least_travels_lem, least_capped, never_always}
use Rattle.theory_paths.specs.{Settled.gives_ticks, Planned.starts, Planned.starts_at}
use Rattle.theory_paths.proofs.Planned.{gives_no_less}
use Rattle.network.specs.declared.header.Layout.{Layout}
use Rattle.network.specs.{Limits.most_period, Limits.most_nodes, Network.tail, Network.head, Decode.decode}
use Rattle.network.specs.Town.{graph_of, travel_at}
use Rattle.search_chains.specs.Town.{Town, lawful}
use Rattle.toward_row.specs.{Arcs.Primed, Cut.Cut}
use Rattle.toward_row.specs.Lower.{entries, lowest, lowered, offer, Capped, Known}
use Rattle.toward_list.specs.Rows.{Worked, row_long, row_entry}
use Rattle.toward_node.specs.Turn.{modest}

-- a row with one more at each tick
unfoldable pub raised : ℕ → List ℕ → ℕ → ℕ → ℕ
raised wide W u x = grid_at wide W u x + 1

-- the same from place p of the list on
unfoldable pub raised_from : List ℕ → ℕ → ℕ → ℕ
raised_from W p x = get_or W (p + x) 0 + 1

-- a row that has numbers
pub record HasNumbers (wide : ℕ) (W : List ℕ) (u : ℕ) : Type 0 where
  pub entry : (x : ℕ) → x < wide → grid_at wide W u x < never

module _ {g : Graph} (m : Modest g) {b : ℕ} {W : List ℕ} (w : Worked g b W) where
  number : (u x : ℕ) → u < g.nodes → x < g.period → grid_at g.period W u x ≤ never
  number u x n h = omega (arith, w.at u x n h, least_capped m b {u = u} {x = x} n h)

  -- a number at tick 0 is one at every tick
  pub known_row : (u : ℕ) → u < g.nodes → 0 < g.period → grid_at g.period W u 0 ≢ never
      → HasNumbers g.period W u
  known_row u n some e = record {
    entry = λ x h. elim (ℕ_discrete (grid_at g.period W u x) never) [
      | yes q ↦ absurd (e (w.at u 0 n some
          ∙ never_always m b u x 0 n h some (sym (w.at u x n h) ∙ q)))
      | no q ↦ omega (arith, number u x n h)
    ];
  }

  -- and it is small
  pub known_small : (u x : ℕ) → u < g.nodes → x < g.period → HasNumbers g.period W u
      → grid_at g.period W u x ≤ (g.nodes - 1) * g.period
  known_small u x n h k =
      omega (
        arith,
        w.at u x n h,
        least_bound m b {u = u} {x = x} n h
            ((least_reach m b {u = u} {x = x} n h).0 (omega (arith, w.at u x n h, k.entry x h))),
      )

  -- what arc a gives, by the list
  module _ (a : ℕ) (l : a < g.arcs) where
    pub gives_is : (x : ℕ) → x < g.period
        → gives_ticks g (least_ticks g b) a x
        ≡ g.travel a x + grid_at g.period W (g.head a) ((x + g.travel a x) % g.period)
    unfolding gives_ticks
    gives_is x h =
        let y = (x + g.travel a x) % g.period in
        omega (arith, w.at (g.head a) y (m.lawful.heads a l) (mod-lt (x + g.travel a x) (omega arith)))

    -- where the arc gives the tail's number nowhere, it starts nothing
    pub start_nowhere : ((x : ℕ) → x < g.period
        → gives_ticks g (least_ticks g b) a x ≢ least_ticks g b (g.tail a) x)
        → false ≡ starts g (least_ticks g b) a
    unfolding starts_at
    start_nowhere e =
        sym ((any_clear (starts_at g (least_ticks g b) a) g.period).1 (λ x h. ne_eqb _ _ (e x h)))

    tail_capped : (x : ℕ) → x < g.period → least_ticks g b (g.tail a) x ≤ never
    tail_capped x h = least_capped m b {u = g.tail a} {x = x} (m.lawful.tails a l) h

    -- no number at its head
    pub start_none : 0 < g.period → grid_at g.period W (g.head a) 0 ≡ never
        → false ≡ starts g (least_ticks g b) a
    start_none some e = start_nowhere (λ x h q.
        let y = (x + g.travel a x) % g.period in
        let k : y < g.period = mod-lt (x + g.travel a x) some in
        let n = m.lawful.heads a l in
        let z : grid_at g.period W (g.head a) y ≡ never =
        w.at (g.head a) y n k
        ∙ never_always m b (g.head a) 0 y n some k (sym (w.at (g.head a) 0 n some) ∙ e) in
        omega (arith, gives_is x h, m.lawful.takes a x l h, tail_capped x h))

    -- a number there is one at its tail
    pub known_tail : g.nodes * g.period < never → HasNumbers g.period W (g.head a)
        → HasNumbers g.period W (g.tail a)
    known_tail early k = record {
      entry = λ x h.
          let y = (x + g.travel a x) % g.period in
          let p : y < g.period = mod-lt (x + g.travel a x) (omega arith) in
          let e : (g.nodes - 1 + 1) * g.period ≡ g.nodes * g.period =
          ap (λ (i : ℕ). i * g.period) (omega (arith, m.lawful.heads a l)) in
          omega (
            arith,
            w.at (g.tail a) x (m.lawful.tails a l) h,
            gives_no_less m (least_travels_lem m b) a l x h,
            gives_is x h,
            known_small (g.head a) y (m.lawful.heads a l) p k,
            m.bounded a x l h,
            e,
          );
    }

    -- the tail's row raised by one, and lowered by the arc: an entry fell exactly where the arc starts a path
    module _ (hs : List ℕ) {row new after : List ℕ} {r : ℕ} (some : 0 < g.period)
        (held : (y : ℕ) → y < g.period → get_or hs y 0 ≡ grid_at g.period W (g.head a) y)
        (up : Filled 0 g.period (raised g.period W (g.tail a)) after row)
        (c : Cut false 0 g.period (lowered false (g.travel a) (entries hs) g.period row) row new r)
      where
        offered : (x : ℕ) → x < g.period
            → offer (g.travel a) (entries hs) g.period x ≡ gives_ticks g (least_ticks g b) a x
        unfolding offer entries
        offered x h =
            let y = (x + g.travel a x) % g.period in
            omega (arith, held y (mod-lt (x + g.travel a x) some), gives_is x h)

        stood : (x : ℕ) → x < g.period → get_or row x 0 ≡ least_ticks g b (g.tail a) x + 1
        unfolding raised
        stood x h =
            omega (arith, up.written x (omega arith) h, w.at (g.tail a) x (m.lawful.tails a l) h)

        pub start_quiet : r ≡ 0 → false ≡ starts g (least_ticks g b) a
        unfolding lowered lowest
        start_quiet z = start_nowhere (λ x h q.
            omega (
              arith,
              c.none refl z x (omega arith) h,
              c.filled.written x (omega arith) h,
              offered x h,
              stood x h,
            ))

        pub start_fell : 0 < r → true ≡ starts g (least_ticks g b) a
        unfolding lowered lowest starts_at
        start_fell z =
            let f = c.some refl z in
            let x = f.at in
            let h : x < g.period = f.to in
            sym (yes_any (starts_at g (least_ticks g b) a) g.period x h
            (eq-eqb _ _ (le_antisymm
            (omega (arith, f.less, c.filled.written x f.from h, offered x h, stood x h))
            (gives_no_less m (least_travels_lem m b) a l x h))))

        pub start_told : {t : Bool} → t ≡ ltb 0 r → t ≡ starts g (least_ticks g b) a
        start_told e = elim (dec_lt 0 r) [
          | yes z ↦ e ∙ lt-ltb 0 r z ∙ start_fell z
          | no z ↦ e ∙ le-ltb 0 r (omega arith) ∙ start_quiet (omega arith)
        ]

-- FOR THE LOOP that raises a row from place p on
pub raise_entry : (W : List ℕ) (p x : ℕ) → get_or W (p + x) 0 + 1 ≡ raised_from W p x
unfolding raised_from
raise_entry W p x = refl

pub raise_row_lem : (W old new : List ℕ) (p u wide : ℕ) → p ≡ u * wide → Filled 0 wide (raised_from W p) old new
    → Filled 0 wide (raised wide W u) old new
unfolding raised_from raised grid_at
raise_row_lem W old new p u wide e f = rw e at f

pub known_at : (wide : ℕ) (W : List ℕ) (u p x : ℕ) → HasNumbers wide W u → p ≡ u * wide → x < wide
    → get_or W (p + x) 0 < never
unfolding grid_at
known_at wide W u p x k e h = rw e (k.entry x h)

-- FOR CODE at an arc of a town: u is its tail and v its head
module _ {file : List ℕ} {l : Layout} {first : List ℕ} (t : Primed file l first) {b : ℕ} {W : List ℕ}
    (w : Worked (graph_of (decode file)) b W) {a u v : ℕ} (h : a < l.arcs) (e : u ≡ tail (decode file) a)
    (f : v ≡ head (decode file) a) where
  abbrev g : Graph
  g = graph_of (decode file)

  town : Town file l
  town = t.town

  arc : a < g.arcs
  arc = omega (arith, town.sizes.arcs)

  same : l.period ≡ g.period
  same = town.sizes.period

  some : 0 < g.period
  some = omega (arith, same, town.small.period_some)

  early : g.nodes * g.period ≤ 1474560
  early =
      let n : g.nodes ≤ most_nodes = omega (arith, town.sizes.nodes, town.small.nodes_most) in
      let p : g.period ≤ most_period = omega (arith, same, town.small.period_most) in
      omega (arith, mul-le-mul n p)

  -- what stands at the place of v's row
  at_first : (p r : ℕ) → p ≡ v * l.period → r ≡ get_or W p 0 → r ≡ grid_at g.period W (g.head a) 0
  unfolding grid_at
  at_first p r q z =
      let y : v * l.period + 0 ≡ v * l.period = omega arith in
      rw (← same, ← f, y, ← q) z

  pub no_start : (p r : ℕ) → p ≡ v * l.period → r ≡ get_or W p 0 → r ≡ never
      → false ≡ starts g (least_ticks g b) a
  no_start p r q z d = start_none (modest town) w a arc some (sym (at_first p r q z) ∙ d)

  module _ (p r : ℕ) (q : p ≡ v * l.period) (z : r ≡ get_or W p 0) (d : r ≢ never) where
    head_known : HasNumbers g.period W (g.head a)
    head_known =
        known_row (modest town) w (g.head a) ((lawful town).heads a arc) some (λ y. d (at_first p r q z ∙ y))

    pub tail_row : HasNumbers l.period W u
    tail_row =
        rw (same, e)
        (known_tail (modest town) w a arc (omega (arith, early)) head_known)

    -- the tail's row with one more at each tick: numbers, not written for the first time
    pub raised_known : {after row : List ℕ} → Filled 0 l.period (raised l.period W u) after row
        → Known false row 0 l.period
    unfolding raised
    raised_known i = record {
      numbers = λ _. record {
        entry = λ x lo n.
            let m : x < g.period = omega (arith, same) in
            let j : (g.nodes - 1 + 1) * g.period ≡ g.nodes * g.period =
            ap (λ (i : ℕ). i * g.period) (omega (arith, (lawful town).heads a arc)) in
            let k = known_small (modest town) w (g.tail a) x ((lawful town).tails a arc) m
            (known_tail (modest town) w a arc (omega (arith, early)) head_known) in
            let o : grid_at l.period W u x ≡ grid_at g.period W (g.tail a) x = rw (same, e) in
            omega (arith, i.written x (omega arith) n, k, j, o, early);
      };
    }

    pub head_capped : {o : ℕ} → o ≡ p + l.period → o ≤ length W
        → Capped (take (o - p) (drop p W)) l.period
    head_capped {o} to fits = record {
      long = omega (arith, row_long l.period W v p o q to fits);
      entry = λ y n.
          let m : y < g.period = omega (arith, same) in
          let i : grid_at l.period W v y ≡ grid_at g.period W (g.head a) y = rw (same, f) in
          let j : (g.nodes - 1 + 1) * g.period ≡ g.nodes * g.period =
          ap (λ (i : ℕ). i * g.period) (omega (arith, (lawful town).heads a arc)) in
          omega (
            arith,
            row_entry l.period W v p o q to fits y n,
            i,
            known_small (modest town) w (g.head a) y ((lawful town).heads a arc) m head_known,
            j,
            early,
          );
    }

  pub start_is : {p o r : ℕ} {after row new : List ℕ} {t : Bool} → p ≡ v * l.period → o ≡ p + l.period
      → o ≤ length W → Filled 0 l.period (raised l.period W u) after row
      → Cut false 0 l.period
      (lowered false (travel_at (decode file) a) (entries (take (o - p) (drop p W))) l.period row) row new r
      → t ≡ ltb 0 r → t ≡ starts g (least_ticks g b) a
  start_is {p} {o} q to fits i c d =
      start_told (modest town) w a arc (take (o - p) (drop p W)) some
      (rw (same, f) at (row_entry l.period W v p o q to fits)) (rw (same, e) at i) (rw same at c) d
