-- The sheet for the whole day, from one place to another: the arrivals that it lists, the refusals in their
-- order, what becomes of the lent work list and of the lent list, and the call (`DaySheet`).
use mathlib.Core.{Path.◌≡◌, Bool.cond, List.List}
use Rattle.file_refusals.specs.Refusal.{refused}
use Rattle.std.specs.Prelude.{ℕ, ◌+◌, ◌*◌, Result, Ok, Err}
use lib.{ListN.length, Dec.eqb, Dec.leb, Dec.ltb}
use Rattle.theory_loops.specs.Fill.{tab}
use Rattle.theory_paths.specs.{Earliest.never, Least.least_ticks}
use Rattle.file_refusals.specs.Listing.{list_after}
use Rattle.network.specs.declared.header.Header.{Header}
use Rattle.network.specs.{Network.Network, Decode.decode, Town.graph_of, Validate.validated}
use Rattle.toward_list.specs.Work.{cleared}
use Rattle.file_refusals.specs.declared.Refusal.{Refusal}
use Rattle.trip_call.specs.Trip.{and_then}

-- the arrival at `to` of who leaves `from` at tick t: a full tick, which may lie past the day's end
abbrev pub arrival_at : Network → ℕ → ℕ → ℕ → ℕ
arrival_at n from to t = t + least_ticks (graph_of n) to from t

-- those of all ticks of the day
abbrev pub day_arrivals : Network → ℕ → ℕ → List ℕ
day_arrivals n from to = tab n.period (arrival_at n from to)

-- 25: from, then to, is no node (that number); 34: the work list has no room for a number for each node and
-- tick; 31: the list has none for a number for each tick
unfoldable pub sheet_asked : Header → ℕ → ℕ → ℕ → ℕ → Result Header Refusal
sheet_asked h from to work list =
    cond (leb h.nodes from) (refused 25 from)
    (cond (leb h.nodes to) (refused 25 to)
    (cond (ltb work (h.nodes * h.period)) (refused 34 0)
    (cond (ltb list h.period) (refused 31 0)
    (Ok h))))

-- what comes before the work: 1 to 10 with 37, then these, by the lengths of the two lists
abbrev pub sheet_begin : List ℕ → ℕ → ℕ → ℕ → ℕ → Result Header Refusal
sheet_begin network from to work list = and_then (validated network) (λ h. sheet_asked h from to work list)

-- 28: no way at tick 0, and so at no tick (`sheet_no_way`); else an entry for each tick of the day
unfoldable pub listed : Network → ℕ → ℕ → Result ℕ Refusal
listed n from to =
    cond (eqb (least_ticks (graph_of n) to from 0) never) (refused 28 0)
    (Ok n.period)

-- the answer: a refusal that comes before the work, or what the work gives
abbrev pub sheet_answer : Result Header Refusal → Result ℕ Refusal → Result ℕ Refusal
sheet_answer (Err r) found = Err r
sheet_answer (Ok h) found = found

abbrev pub listing : List ℕ → ℕ → ℕ → ℕ → ℕ → Result ℕ Refusal
listing network from to work list =
    sheet_answer (sheet_begin network from to work list) (listed (decode network) from to)

-- the work list at exit: untouched up to 31; else its first entries are zero
abbrev pub work_after : Result Header Refusal → Network → List ℕ → List ℕ
work_after (Err r) n old = old
work_after (Ok h) n old = cleared n old

-- THE CALL, where b is what comes before the work: the two lists at entry and at exit, and the answer
pub record SheetCall (b : Result Header Refusal) (n : Network) (from to : ℕ) (work₀ work₁ list₀ list₁ : List ℕ)
    (r : Result ℕ Refusal) : Type 0 where
  pub answer : r ≡ sheet_answer b (listed n from to)
  pub work : work₁ ≡ work_after b n work₀
  pub list : list₁ ≡ list_after r (day_arrivals n from to) list₀

-- and of a network's bytes
abbrev pub DaySheet : List ℕ → ℕ → ℕ → List ℕ → List ℕ → List ℕ → List ℕ → Result ℕ Refusal → Type 0
DaySheet network from to work₀ work₁ list₀ list₁ r =
    SheetCall (sheet_begin network from to (length work₀) (length list₀)) (decode network) from to
    work₀ work₁ list₀ list₁ r
