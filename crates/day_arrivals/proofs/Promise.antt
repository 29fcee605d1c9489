-- What the sheet for the whole day promises, a sentence of wish 7 each, of any call that meets its contract.
-- Where it lists, each entry is the earliest arrival at that tick (`sheet_listed`): the plain trip's
-- (`sheet_plain`), and the flagged trip's under an accepted plan (`sheet_flagged`).
use mathlib.Core.{Path.◌≡◌, Path.refl, Path.sym, Path.◌∙◌, Path.ap, Bool.Bool, Bool.true, Bool.false}
use mathlib.Core.{Logic.◌≢◌, Logic.◌↔◌, Logic.◌⊎◌, Logic.inl, Logic.inr, Logic.⊎_elim, List.List, List.[]}
use Rattle.file_refusals.specs.Apart.{not_both}
use Rattle.file_refusals.specs.Apart.{same_value}
use Rattle.file_refusals.specs.Says.{number_says}
use Rattle.file_refusals.specs.Refusal.{refusal}
use Rattle.std.specs.Prelude.{ℕ, ◌+◌, ◌≤◌, ◌<◌, Result, Ok, Err}
use Rattle.std.proofs.Common.{arith, eqb-true}
use lib.{Dec.eqb, ListN.length, ListN.get_or}
use Rattle.std.proofs.lemmas.Bool.{eqb-false}
use Rattle.theory_loops.specs.Fill.{Filled, length_tab, list_filled}
use Rattle.theory_paths.specs.Graph.{Graph, all, stop, Reachable}
use Rattle.theory_paths.proofs.Drive.{earliest_later, earliest_shift, path_takes}
use Rattle.theory_paths.specs.{Earliest.never}
use Rattle.theory_paths.proofs.Earliest.{earliest_unique}
use Rattle.theory_paths.proofs.Least.{least_earliest}
use Rattle.theory_paths.specs.Least.{Modest, least_ticks}
use Rattle.theory_paths.proofs.Least.{least_never, least_reach, least_capped}
use Rattle.file_refusals.specs.declared.Refusal.{Refusal}
use Rattle.network.specs.declared.header.Header.{Header}
use Rattle.network.specs.{Network.Network, Network.nodes, Decode.decode, Town.graph_of, Validate.validated}
use Rattle.network.proofs.Valid.{valid_exactly}
use Rattle.plan_check.specs.CheckPlan.{checking}
use Rattle.toward_node.specs.Turn.{modest}
use Rattle.toward_list.specs.Work.{work_size, cleared, valid_town}
use Rattle.trip_call.specs.Drive.{drive_nodes, drive_period}
use Rattle.trip.specs.Calls.{plain_call, plain_path, flagged_call, flagged_path}
use Rattle.trip_plain.specs.Plain.{PlainTrip}
use Rattle.trip.specs.{Flagged.FlaggedTrip, Promise.AsGoodAsAny, Promise.Passed}
use Rattle.trip.specs.PlainPromise.{plain_trip_lem, plain_call_lem}
use Rattle.trip.specs.FlaggedPromise.{accepted_trip, accepted_call}
use Rattle.day_arrivals.specs.Sheet.{arrival_at, sheet_begin, listed, sheet_answer, DaySheet}
use Rattle.day_arrivals.specs.Sheeting.{Begun}
use Rattle.day_arrivals.proofs.Sheeting.{begun, asked_opens}
use Rattle.day_arrivals.specs.Numbers.{BeginNumber}
use Rattle.day_arrivals.proofs.Numbers.{begin_numbers}
use Rattle.search_path.specs.declared.answer.Arrival.{Arrival}
use Rattle.day_arrivals.specs.Promise.{ArrivesAt, HoldsDay}

-- Nothing before the work is refused of a network that validates, two of its places, and lists with room.
pub sheet_passes : (network : List ℕ) (from to work list : ℕ) {h : Header} → validated network ≡ Ok h
    → from < nodes (decode network) → to < nodes (decode network) → work_size (decode network) ≤ work
    → (decode network).period ≤ list
    → Passed (sheet_begin network from to work list)
sheet_passes network from to work list {h} e l m o k =
    let v = (valid_exactly network h).0 e in (
      h,
      rw (
        e,
        asked_opens h from to work list (record {
          from_node = omega (arith, drive_nodes v);
          to_node = omega (arith, drive_nodes v);
          work_long = rw (drive_nodes v, drive_period v) at o;
          list_long = omega (arith, drive_period v);
        }),
      ),
    )

-- how a call ends
data Ends (network : List ℕ) (from to : ℕ) (b : Result Header Refusal) (r : Result ℕ Refusal) : Type 0 where
  refused : (q : Refusal) → b ≡ Err q → BeginNumber q.number → r ≡ Err q
      → Ends network from to b r
  no_way : (h : Header) → b ≡ Ok h → (¬ Reachable (graph_of (decode network)) all from to)
      → r ≡ Err (refusal 28 0)
      → Ends network from to b r
  lists : (h : Header) → b ≡ Ok h → Reachable (graph_of (decode network)) all from to
      → r ≡ Ok ((decode network).period) → Ends network from to b r

begin_some : {n : ℕ} → BeginNumber n → (1 ≤ n) × (n ≢ 28)
begin_some (inl (inl k)) = (k.0, λ e. omega (arith, k.1))
begin_some (inl (inr k)) = (omega arith, λ e. omega arith)
begin_some (inr (inl e)) = (omega arith, λ f. omega arith)
begin_some (inr (inr (inl e))) = (omega arith, λ f. omega arith)
begin_some (inr (inr (inr e))) = (omega arith, λ f. omega arith)

module _ (n : Network) (from to : ℕ) where
  listed_none : eqb (least_ticks (graph_of n) to from 0) never ≡ true → listed n from to ≡ Err (refusal 28 0)
  unfolding listed
  listed_none e = rw e

  listed_some : eqb (least_ticks (graph_of n) to from 0) never ≡ false
      → listed n from to ≡ Ok n.period
  unfolding listed
  listed_some e = rw e

number_is : {r c : Result ℕ Refusal} → r ≡ c → (number_says r).number ≡ (number_says c).number
number_is e = ap (λ (k : Result ℕ Refusal). (number_says k).number) e

module _ (network : List ℕ) {from to : ℕ} {work₀ work₁ list₀ list₁ : List ℕ} {r : Result ℕ Refusal}
    (c : DaySheet network from to work₀ work₁ list₀ list₁ r) where
  abbrev g : Graph
  g = graph_of (decode network)

  abbrev before : Result Header Refusal
  before = sheet_begin network from to (length work₀) (length list₀)

  -- what is known once nothing before the work is refused
  module _ {h : Header} (o : before ≡ Ok h) where
    call : Begun network h from to (length work₀) (length list₀)
    call = begun network h from to (length work₀) (length list₀) o

    small : Modest (graph_of (decode network))
    small = modest (valid_town call.valid refl)

    from_place : from < nodes (decode network)
    from_place = omega (arith, drive_nodes call.valid, call.asks.from_node)

    to_place : to < nodes (decode network)
    to_place = omega (arith, drive_nodes call.valid, call.asks.to_node)

    some : 0 < (decode network).period
    some = omega (arith, drive_period call.valid, call.valid.within.period_some)

    room : (decode network).period ≤ length list₀
    room = omega (arith, drive_period call.valid, call.asks.list_long)

  ends : Ends network from to before r
  ends = go before refl c.answer
    where
      found : (h : Header) → before ≡ Ok h → r ≡ listed (decode network) from to → (q : Bool)
          → eqb (least_ticks g to from 0) never ≡ q → Ends network from to before r
      found h o z true e =
          no_way h o ((least_never (small o) to (from_place o) (some o)).0 (eqb-true _ never e))
          (z ∙ listed_none (decode network) from to e)
      found h o z false e =
          let m : least_ticks g to from 0 ≢ never = eqb-false _ never e in
          let k = least_capped (small o) to {u = from} {x = 0} (from_place o) (some o) in
          lists h o ((least_reach (small o) to {u = from} {x = 0} (from_place o) (some o)).0 (omega arith))
          (z ∙ listed_some (decode network) from to e)

      go : (b : Result Header Refusal) → before ≡ b → r ≡ sheet_answer b (listed (decode network) from to)
          → Ends network from to before r
      go (Err q) f z = refused q f (begin_numbers network from to (length work₀) (length list₀) q f) z
      go (Ok h) f z = found h f z (eqb (least_ticks g to from 0) never) refl

  -- 28 exactly where nothing before it is refused and there is no way
  pub sheet_no_way : ((number_says r).number ≡ 28) ↔ (Passed before × (¬ Reachable g all from to))
  sheet_no_way = (λ n. there n ends, λ q. back q.0.1 q.1 ends)
    where
      there : (number_says r).number ≡ 28 → Ends network from to before r
          → Passed before × (¬ Reachable g all from to)
      there n (refused q f m z) = absurd ((begin_some m).1 (sym (number_is z) ∙ n))
      there n (no_way h f u z) = ((h, f), u)
      there n (lists h f w z) = absurd (omega (arith, number_is z))

      back : {h : Header} → before ≡ Ok h → (¬ Reachable g all from to) → Ends network from to before r
          → (number_says r).number ≡ 28
      back f u (refused q i m z) = not_both _ _ (sym i ∙ f)
      back f u (no_way h i w z) = number_is z
      back f u (lists h i w z) = absurd (u w)

  -- a way gives a list: the answer is P
  pub sheet_lists : Passed before → Reachable g all from to
      → r ≡ Ok ((decode network).period)
  sheet_lists o w = go o.1 ends
    where
      go : {h : Header} → before ≡ Ok h → Ends network from to before r
          → r ≡ Ok ((decode network).period)
      go f (refused q i m z) = not_both _ _ (sym i ∙ f)
      go f (no_way h i u z) = absurd (u w)
      go f (lists h i u z) = z

  -- every refusal leaves the list as it was; all but 28 leave the work list so too, and on 28 and on success
  -- its first entries are zero
  pub sheet_list_kept : 1 ≤ (number_says r).number → list₁ ≡ list₀
  sheet_list_kept l = go r refl
    where
      go : (a : Result ℕ Refusal) → r ≡ a → list₁ ≡ list₀
      go (Ok k) q = absurd (omega (arith, number_is q))
      go (Err k) q = rw q at c.list

  pub sheet_work_kept : 1 ≤ (number_says r).number → (number_says r).number ≢ 28 → work₁ ≡ work₀
  sheet_work_kept l n = go ends
    where
      go : Ends network from to before r → work₁ ≡ work₀
      go (refused q f m z) = rw f at c.work
      go (no_way h f u z) = absurd (n (number_is z))
      go (lists h f w z) = absurd (omega (arith, number_is z))

  pub sheet_work_cleared : ((number_says r).number ≡ 0) ⊎ ((number_says r).number ≡ 28)
      → work₁ ≡ cleared (decode network) work₀
  sheet_work_cleared n = go ends
    where
      go : Ends network from to before r → work₁ ≡ cleared (decode network) work₀
      go (refused q f m z) =
          let (l, o) = begin_some m in
          absurd (⊎_elim (λ e. omega (arith, number_is z)) (λ e. o (sym (number_is z) ∙ e)) n)
      go (no_way h f u z) = rw f at c.work
      go (lists h f w z) = rw f at c.work

  -- WHERE IT LISTS
  module _ {k : ℕ} (q : r ≡ Ok k) where
    passed : Passed before
    passed = go ends
      where
        go : Ends network from to before r → Passed before
        go (refused e f m z) = not_both _ _ (sym z ∙ q)
        go (no_way h f u z) = not_both _ _ (sym z ∙ q)
        go (lists h f w z) = (h, f)

    way : Reachable g all from to
    way = go ends
      where
        go : Ends network from to before r → Reachable g all from to
        go (refused e f m z) = not_both _ _ (sym z ∙ q)
        go (no_way h f u z) = not_both _ _ (sym z ∙ q)
        go (lists h f w z) = w

    filled : Filled 0 (decode network).period (arrival_at (decode network) from to) list₀ list₁
    filled =
        let l = list_filled (arrival_at (decode network) from to) (decode network).period list₀
        (room passed.1) in
        rw (rw q at c.list, length_tab) l

    -- the answer is P, and the list holds the day's earliest arrivals
    pub sheet_listed : (k ≡ (decode network).period) × HoldsDay network from to list₀ list₁
    sheet_listed = (
      same_value _ _ (sym q ∙ sheet_lists passed way),
      record {
        earliest = λ t h.
            let o = passed.1 in
            let m = (least_reach (small o) to {u = from} {x = t} (from_place o) h).1 way in
            rw (filled.written t (omega arith) h) (least_earliest (small o) to (from_place o) h m);
        others = λ t h. filled.after t h;
        long = filled.long;
      },
    )

    agree : {t : ℕ} {path : List ℕ} {a : Result Arrival Refusal} → t < (decode network).period
        → AsGoodAsAny g all from t to path a → ArrivesAt a (get_or list₁ t 0)
    agree {t} h y =
        let (b, z) = y.arrives way in
        record {
          arrival = b;
          is = z;
          at = earliest_unique (y.best b z).earliest (sheet_listed.1.earliest t h);
        }

    -- Each entry is the plain trip's arrival at that tick: of the trip with any lists that are long enough,
    -- and of the tablet's.
    pub sheet_plain : {t : ℕ} {arrivals₀ arrivals₁ roads₀ roads₁ : List ℕ} {a : Result Arrival Refusal}
        → t < (decode network).period
        → PlainTrip network from to t arrivals₀ arrivals₁ roads₀ roads₁ a
        → nodes (decode network) ≤ length arrivals₀ → length (plain_path network from to t) ≤ length roads₀
        → ArrivesAt a (get_or list₁ t 0)
    sheet_plain h p m n =
        let (x, o) = passed in
        agree h
        (plain_trip_lem network p ((valid_exactly network x).1 (call o).valid) (from_place o) (to_place o) h m
        (λ _. n))

    pub sheet_plain_call : (t : ℕ) → t < (decode network).period
        → ArrivesAt (plain_call network from to t) (get_or list₁ t 0)
    sheet_plain_call t h =
        let (x, o) = passed in
        agree h
        (plain_call_lem network from to t ((valid_exactly network x).1 (call o).valid) (from_place o) (to_place o)
        h)

    -- And it is the flagged trip's, whoever made the plan, wherever the check has accepted it.
    module _ (plan : List ℕ) (accepted : checking network plan ≡ Ok tt) where
      pub sheet_flagged : {t : ℕ} {arrivals₀ arrivals₁ roads₀ roads₁ : List ℕ} {a : Result Arrival Refusal}
          → t < (decode network).period
          → FlaggedTrip network plan from to t arrivals₀ arrivals₁ roads₀ roads₁ a
          → nodes (decode network) ≤ length arrivals₀
          → length (flagged_path network plan from to t) ≤ length roads₀
          → ArrivesAt a (get_or list₁ t 0)
      sheet_flagged h p m n =
          let o = passed.1 in
          agree h
          (accepted_trip network plan p accepted (from_place o) (to_place o) h m (λ _. n))

      pub sheet_flagged_call : (t : ℕ) → t < (decode network).period
          → ArrivesAt (flagged_call network plan from to t) (get_or list₁ t 0)
      sheet_flagged_call t h =
          let o = passed.1 in
          agree h (accepted_call network plan from to t accepted (from_place o) (to_place o) h)

    -- Who leaves later arrives no earlier, within the day and into the next one.
    pub sheet_rises : (t u : ℕ) → t ≤ u → u < (decode network).period → get_or list₁ t 0 ≤ get_or list₁ u 0
    sheet_rises t u l h =
        let day = sheet_listed.1 in
        earliest_later (small passed.1).lawful l (day.earliest t (omega arith)) (day.earliest u h)

    pub sheet_next_day : (t u : ℕ) → t < (decode network).period → u < (decode network).period
        → get_or list₁ t 0 ≤ get_or list₁ u 0 + (decode network).period
    sheet_next_day t u l h =
        let day = sheet_listed.1 in
        let e = (earliest_shift 1).0 (day.earliest u h) in
        omega (arith, earliest_later (small passed.1).lawful (omega arith) (day.earliest t l) e)

  -- From a place to itself each entry is its tick.
  pub sheet_home : Passed before → from ≡ to
      → (r ≡ Ok ((decode network).period))
      × ((t : ℕ) → t < (decode network).period → get_or list₁ t 0 ≡ t)
  sheet_home o e =
      let q = sheet_lists o (record { path = []; leads = stop e }) in (
        q,
        λ t h.
            let d = (sheet_listed q).1.earliest t h in
            let p = path_takes (small o.1).lawful t d.arrival.leads in
            omega (arith, d.least [] (stop e), d.arrival.at, p),
      )
