-- FOR THE CODE: what is shown where nothing before the work is refused, a row of travels as the day's
-- arrivals, and the work list that ends as zero.
use mathlib.Core.{Path.◌≡◌, Path.sym, Path.◌∙◌, Path.ap, Path.subst, Logic.◌≢◌, List.List, List.◌++◌}
use Rattle.file_refusals.specs.Apart.{same_value, not_both}
use Rattle.file_refusals.specs.Refusal.{refusal, refused}
use Rattle.std.specs.Prelude.{ℕ, ◌+◌, ◌-◌, ◌*◌, ◌≤◌, ◌<◌, Result, Ok, Err}
use native.Mathlib.{Nat.mul-le-mul, Omega.arith, Decide.ℕ_discrete}
use lib.{ListN.length, ListN.get_or, ListN.take, ListN.drop, Dec.leb, Dec.ltb}
use Rattle.std.proofs.Common.{leb-false, ltb-false, le-ltb, eq-eqb, ne_eqb}
use Rattle.std.proofs.lemmas.Bool.{lt-leb}
use Rattle.theory_loops.specs.Fill.{Filled, tab, length_tab, fill_within, overwritten, filled_list}
use Rattle.theory_loops.specs.{Grid.grid_at, Pick.passed_by_lem}
use Rattle.theory_paths.specs.{Earliest.never, Graph.Graph}
use Rattle.theory_paths.specs.Least.{least_ticks}
use Rattle.theory_paths.proofs.Least.{least_reach, least_bound, least_capped}
use Rattle.file_refusals.specs.declared.Refusal.{Refusal}
use Rattle.network.specs.declared.header.{Header.Header, Layout.Layout}
use Rattle.network.specs.{Layout.layout_of, Limits.most_nodes, Limits.most_period, Decode.decode, Town.graph_of}
use Rattle.network.specs.{Network.Network, Validate.validated}
use Rattle.network.specs.Valid.{ValidFile}
use Rattle.network.proofs.Valid.{valid_exactly}
use Rattle.search_chains.specs.Town.{Town}
use Rattle.toward_list.specs.{Rows.WorkedRow, Work.size_is, Work.work_cleared}
use Rattle.toward_node.specs.Turn.{modest}
use Rattle.trip_call.specs.Stage.{then_passed}
use Rattle.day_arrivals.specs.Sheet.{arrival_at, sheet_asked, sheet_begin, listed, SheetCall}
use Rattle.day_arrivals.specs.Sheet.{DaySheet}
use Rattle.day_arrivals.specs.Sheeting.{Asked, Begun, arrival_in, EarlyRow, Lists}

asked_passed : (k h : Header) (from to work list : ℕ) → sheet_asked k from to work list ≡ Ok h
    → Asked h from to work list × (k ≡ h)
unfolding sheet_asked
asked_passed k h from to work list e =
    let (a, e₁) = passed_by_lem (leb k.nodes from) (refused 25 from) _ (Ok h) (not_both (refusal 25 from) h) e in
    let (b, e₂) = passed_by_lem (leb k.nodes to) (refused 25 to) _ (Ok h) (not_both (refusal 25 to) h) e₁ in
    let (c, e₃) =
    passed_by_lem (ltb work (k.nodes * k.period)) (refused 34 0) _ (Ok h) (not_both (refusal 34 0) h) e₂ in
    let (d, e₄) =
    passed_by_lem (ltb list k.period) (refused 31 0) (Ok k) (Ok h) (not_both (refusal 31 0) h) e₃ in
    let q : k ≡ h = same_value k h e₄ in
    let r : Asked k from to work list =
    record {
      from_node = leb-false _ _ a;
      to_node = leb-false _ _ b;
      work_long = ltb-false _ _ c;
      list_long = ltb-false _ _ d;
    } in
    (rw q at r, q)

-- the same by the layout
pub asked_laid : {h : Header} {l : Layout} {from to work list : ℕ} → Asked h from to work list
    → l ≡ layout_of h
    → (from < l.nodes) × (to < l.nodes) × (l.nodes * l.period ≤ work) × (l.period ≤ list)
unfolding layout_of
asked_laid q e = rw e (q.from_node, q.to_node, q.work_long, q.list_long)

-- a call that asks nothing wrong is not refused before its work
pub asked_opens : (h : Header) (from to work list : ℕ) → Asked h from to work list
    → sheet_asked h from to work list ≡ Ok h
unfolding sheet_asked
asked_opens h from to work list q =
    let a = lt-leb h.nodes from q.from_node in
    let b = lt-leb h.nodes to q.to_node in
    rw (a, b, le-ltb work (h.nodes * h.period) q.work_long, le-ltb list h.period q.list_long)

pub begun : (network : List ℕ) (h : Header) (from to work list : ℕ)
    → sheet_begin network from to work list ≡ Ok h
    → Begun network h from to work list
begun network h from to work list e =
    let (k, v, f) = then_passed (validated network) (λ h. sheet_asked h from to work list) h e in
    let (a, q) = asked_passed k h from to work list f in
    record { valid = (valid_exactly network h).0 (v ∙ ap (λ (x : Header). Ok x) q); asks = a }

pub row_entry : (W : List ℕ) (p t v : ℕ) → v ≡ t + get_or W (p + t) 0 → v ≡ arrival_in W p t
unfolding arrival_in
row_entry W p t v e = e

filled_over : (f : ℕ → ℕ) (n : ℕ) (old new : List ℕ) → n ≤ length old → Filled 0 n f old new
    → new ≡ overwritten (tab n f) old
filled_over f n old new l h = rw (length_tab n f) (filled_list f n old new l h)

module _ {file : List ℕ} {l : Layout} (town : Town file l) {from to p : ℕ} {W : List ℕ} (a : from < l.nodes)
    (w : WorkedRow (graph_of (decode file)) to from W) (q : p ≡ from * l.period) where
  abbrev n : Network
  n = decode file

  abbrev g : Graph
  g = graph_of (decode file)

  node : from < g.nodes
  node = omega (arith, town.sizes.nodes)

  some : 0 < g.period
  some = omega (arith, town.sizes.period, town.small.period_some)

  row : (t : ℕ) → t < l.period → get_or W (p + t) 0 ≡ least_ticks g to from t
  unfolding grid_at
  row t h =
      let z : t < g.period = omega (arith, town.sizes.period) in
      rw (q, town.sizes.period) (w.at t z)

  first : get_or W p 0 ≡ least_ticks g to from 0
  first =
      let z : p + 0 ≡ p = omega arith in
      rw z at (row 0 town.small.period_some)

  pub row_none : {r : Result ℕ Refusal} {list : List ℕ} → get_or W p 0 ≡ never → r ≡ refused 28 0
      → Lists n from to list list r
  unfolding listed
  row_none e f = record { answer = rw (eq-eqb (least_ticks g to from 0) never (sym first ∙ e)) f; list = rw f }

  module _ (e : get_or W p 0 ≢ never) where
    way : (t : ℕ) → t < g.period → least_ticks g to from t ≤ (g.nodes - 1) * g.period
    way t h =
        let m = modest town in
        let z : least_ticks g to from 0 < never =
        elim (ℕ_discrete (least_ticks g to from 0) never) [
          | yes k ↦ absurd (e (first ∙ k))
          | no k ↦ omega (arith, least_capped m to {u = from} {x = 0} node some)
        ] in
        least_bound m to {u = from} {x = t} node h ((least_reach m to {u = from} {x = 0} node some).0 z)

    pub row_early : p + l.period ≤ length W → EarlyRow l.period p W
    row_early f = record {
      few = town.small.period_most;
      fits = f;
      early = λ t h.
          let x : g.nodes - 1 ≤ most_nodes = omega (arith, town.sizes.nodes, town.small.nodes_most) in
          let y : g.period ≤ most_period = omega (arith, town.sizes.period, town.small.period_most) in
          omega (arith, row t h, way t (omega (arith, town.sizes.period)), mul-le-mul x y);
    }

    pub row_listed : {r : Result ℕ Refusal} {list₀ list₁ : List ℕ} → l.period ≤ length list₀
        → Filled 0 l.period (arrival_in W p) list₀ list₁
        → r ≡ Ok l.period
        → Lists n from to list₀ list₁ r
    unfolding listed arrival_in
    row_listed {list₀ = list₀} {list₁ = list₁} m f h =
        let s : l.period ≡ n.period = town.sizes.period in
        let k = fill_within (arrival_in W p) (arrival_at n from to) 0 l.period list₀ list₁
        (λ t _ y. ap (λ (v : ℕ). t + v) (row t y)) f in
        let o = subst (λ (v : ℕ). Filled 0 v (arrival_at n from to) list₀ list₁) s k in
        record {
          answer = rw (ne_eqb (least_ticks g to from 0) never (λ z. e (first ∙ z)))
              (h ∙ ap (λ (v : ℕ). Ok v) s);
          list = rw h (filled_over (arrival_at n from to) n.period list₀ list₁ (omega arith) o);
        }

-- THE SHEET, once the work list is zero again
pub sheet_filled : {file : List ℕ} {h : Header} {l : Layout} {from to : ℕ}
    {work mid new list₀ list₁ : List ℕ} {r : Result ℕ Refusal} (ys : List ℕ) → ValidFile file h → l ≡ layout_of h
    → l.nodes * l.period ≤ length work → length ys ≡ length (take (l.nodes * l.period) work)
    → mid ≡ ys ++ drop (l.nodes * l.period) work → Filled 0 (l.nodes * l.period) (λ _. 0) mid new
    → Lists (decode file) from to list₀ list₁ r
    → SheetCall (Ok h) (decode file) from to work new list₀ list₁ r
sheet_filled {file} {work = work} ys v e m z b f k = record {
  answer = k.answer;
  work = work_cleared (decode file) work ys (size_is v e) m z b f;
  list = k.list;
}

-- FOR CODE that has begun the call: b is what came before its work
module _ (network : List ℕ) (from to work list : ℕ) (b : Result Header Refusal)
    (e : b ≡ sheet_begin network from to work list) where
  pub sheet_valid : (h : Header) → b ≡ Ok h → ValidFile network h
  sheet_valid h f = (begun network h from to work list (sym e ∙ f)).valid

  pub sheet_asks : (h : Header) → b ≡ Ok h → Asked h from to work list
  sheet_asks h f = (begun network h from to work list (sym e ∙ f)).asks

module _ (network : List ℕ) (from to : ℕ) (work₀ list₀ : List ℕ) (b : Result Header Refusal)
    (e : b ≡ sheet_begin network from to (length work₀) (length list₀)) where
  pub sheet_refused : {q : Refusal} {r : Result ℕ Refusal} → b ≡ Err q → r ≡ Err q
      → DaySheet network from to work₀ work₀ list₀ list₀ r
  sheet_refused f d = record { answer = rw (← e, f) d; work = rw (← e, f); list = rw d }

  pub sheet_opened : {h : Header} {work₁ list₁ : List ℕ} {r : Result ℕ Refusal} → b ≡ Ok h
      → SheetCall (Ok h) (decode network) from to work₀ work₁ list₀ list₁ r
      → DaySheet network from to work₀ work₁ list₀ list₁ r
  sheet_opened f c = record { answer = rw (← e, f) c.answer; work = rw (← e, f) c.work; list = c.list }

-- for `search sheets` where the sheet answers
pub ruleset sheets = (sheet_valid, sheet_asks, sheet_refused, sheet_opened)
