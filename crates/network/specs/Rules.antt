-- The rules 7 to 10 and 37 that a network's tables keep, as tests and as one ladder, in which 37 stands
-- straight after 7: the first number that fails anywhere, then its lowest place. Points are numbered through
-- all arcs, so the lowest point is the lowest of the first arc that has one.
use mathlib.Core.{Path.◌≡◌, Bool.Bool, Bool.false, Bool.cond, Bool.not, Bool.◌||◌, List.List}
use Rattle.file_refusals.specs.Refusal.{refused}
use Rattle.std.specs.Prelude.{ℕ, suc, ◌+◌, leb, ltb, eqb, Result, Ok, ⊤}
use Rattle.theory_loops.specs.{First.first, First.any, Pick.first_rung}
use Rattle.theory_travel.specs.{Ticks.bad_tick, Day.closed, Table.entry_at}
use Rattle.network.specs.declared.header.Layout.{Layout}
use Rattle.network.specs.{Decode.decode, Decode.Laid, Decode.laid_sizes, Network.count, Network.start}
use Rattle.file_refusals.specs.declared.Refusal.{Refusal}
use Rattle.network.specs.Network.{Network, nodes, arcs, points, cell, opens_at, closes_at, tail, head}

-- 7: a cell that is not below the count of cells
abbrev pub bad_cell : Network → ℕ → Bool
bad_cell n v = leb n.cells (cell n v)

-- where no hours are held: a node that is not open all day
unfoldable pub part_of_day : ℕ → ℕ → ℕ → ℕ → Bool
part_of_day hours period opens closes =
    cond (eqb hours 0) (not (eqb opens 0) || not (eqb closes period)) false

-- 37: a node that does not open before it closes, or closes after the period's end; or whose hours are not
-- held
unfoldable pub bad_hours : ℕ → ℕ → ℕ → ℕ → Bool
bad_hours hours period opens closes =
    leb closes opens || (ltb period closes || part_of_day hours period opens closes)

abbrev pub bad_hours_of : Network → ℕ → Bool
bad_hours_of n v = bad_hours n.hours n.period (opens_at n v) (closes_at n v)

-- 8: an end that is no node, two ends that are one, no point, or more points than ticks
unfoldable pub bad_ends : ℕ → ℕ → ℕ → ℕ → ℕ → Bool
bad_ends nodes period tail head count =
    leb nodes tail || (leb nodes head || (eqb tail head || (ltb count 1 || ltb period count)))

abbrev pub bad_arc : Network → ℕ → Bool
bad_arc n a = bad_ends (nodes n) n.period (tail n a) (head n a) (count n a)

-- the ticks and travels of arc a's points, from 0
abbrev pub ticks_of : Network → ℕ → ℕ → ℕ
ticks_of n a = entry_at n.ticks (start n a)

abbrev pub travels_of : Network → ℕ → ℕ → ℕ
travels_of n a = entry_at n.travels (start n a)

-- 9: a bad tick (`bad_tick` of the crate `theory_travel`), or a travel that is not 1 to the period
unfoldable pub bad_point : ℕ → (ℕ → ℕ) → (ℕ → ℕ) → ℕ → Bool
bad_point period t v i = bad_tick period t i || (ltb (v i) 1 || ltb period (v i))

-- 10: a van that leaves at the next of m points, the next day's first after the last, arrives before one that
-- leaves at point i
unfoldable pub overtaken : ℕ → (ℕ → ℕ) → (ℕ → ℕ) → ℕ → ℕ → Bool
overtaken period t v m i = ltb (closed m t period (suc i) + closed m v (v 0) (suc i)) (t i + v i)

abbrev pub bad_point_of : Network → ℕ → ℕ → Bool
bad_point_of n a = bad_point n.period (ticks_of n a) (travels_of n a)

abbrev pub overtaken_of : Network → ℕ → ℕ → Bool
overtaken_of n a = overtaken n.period (ticks_of n a) (travels_of n a) (count n a)

-- the first point of the first k arcs at which a test holds; where there is none, the count of all points
unfoldable pub first_point : Network → (ℕ → ℕ → Bool) → ℕ → ℕ
first_point n test k =
    let a = first k (λ a. any (count n a) (test a)) in
    cond (ltb a k) (start n a + first (count n a) (test a)) (points n)

-- The ladder, rung by rung from its end: the points, the counts' sum, the arcs, the nodes' hours, and their
-- cells.
unfoldable pub judged_points : Network → Result ⊤ Refusal
judged_points n =
    cond (ltb (first_point n (bad_point_of n) (arcs n)) (points n))
    (refused 9 (first_point n (bad_point_of n) (arcs n)))
    (cond (ltb (first_point n (overtaken_of n) (arcs n)) (points n))
    (refused 10 (first_point n (overtaken_of n) (arcs n)))
    (Ok tt))

unfoldable pub judged_sum : Network → Result ⊤ Refusal
judged_sum n = cond (eqb (start n (arcs n)) (points n)) (judged_points n) (refused 8 (arcs n))

unfoldable pub judged_arcs : Network → Result ⊤ Refusal
judged_arcs n = first_rung (refused 8) (arcs n) (bad_arc n) (judged_sum n)

unfoldable pub judged_hours : Network → Result ⊤ Refusal
judged_hours n = first_rung (refused 37) (nodes n) (bad_hours_of n) (judged_arcs n)

unfoldable pub judged : Network → Result ⊤ Refusal
judged n = first_rung (refused 7) (nodes n) (bad_cell n) (judged_hours n)

-- FOR CODE that has read the file of a network
module _ {file : List ℕ} {l : Layout} (s : Laid file l) where
  pub cell_judged : (v : ℕ) {r : ℕ} → r ≡ cell (decode file) v → leb l.cells r ≡ bad_cell (decode file) v
  cell_judged v e = rw ((laid_sizes s).cells, e)

  pub hours_judged : (v : ℕ) {o c : ℕ} {r : Bool} → o ≡ opens_at (decode file) v → c ≡ closes_at (decode file) v
      → r ≡ bad_hours l.hours l.period o c → r ≡ bad_hours_of (decode file) v
  hours_judged v e f q = rw ((laid_sizes s).hours, (laid_sizes s).period, e, f) at q

  pub arc_judged : (a : ℕ) {t h c : ℕ} {r : Bool} → t ≡ tail (decode file) a → h ≡ head (decode file) a
      → c ≡ count (decode file) a
      → r ≡ bad_ends l.nodes l.period t h c → r ≡ bad_arc (decode file) a
  arc_judged a e f g q = rw ((laid_sizes s).nodes, (laid_sizes s).period, e, f, g) at q

-- for `search judges` where code judges an entry
pub ruleset judges = (cell_judged, hours_judged, arc_judged)
