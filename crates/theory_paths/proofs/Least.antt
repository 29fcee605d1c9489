-- Least travels to a node b, as numbers that compute: from node u at tick x, the label of b less x, and never
-- where there is no path (`least_ticks`). A number is the least travel exactly where it is a path's and no
-- path takes less (`least_is`). As a profile they are the true one (`least_true`), and a profile is true
-- exactly where it is this one (`least_exactly`): so a contract may equate a table with them.
use mathlib.Core.{Path.◌≡◌, Path.refl, Path.sym, Path.◌∙◌, Path.ap, Logic.◌≢◌, Logic.◌↔◌}
use Rattle.std.specs.Prelude.{Bool, true, false, cond, ℕ, ◌+◌, ◌-◌, ◌*◌, ◌≤◌, ◌<◌, eqb}
use native.Mathlib.{Omega.arith, Decide.dec_lt}
use Rattle.std.proofs.Common.{eqb-true, eq-eqb, ne_eqb}
use Rattle.std.proofs.lemmas.Bool.{eqb-false}
use Rattle.theory_paths.specs.Graph.{Graph, all}
use Rattle.theory_paths.specs.Graph.{EarliestArrival, Reachable}
use Rattle.theory_paths.proofs.Drive.{path_takes, arrival_reach, earliest_le}
use Rattle.theory_paths.specs.Earliest.{never}
use Rattle.theory_paths.proofs.Earliest.{earliest_unique, exact_bound, exact_reach}
use Rattle.theory_paths.specs.Labels.{label, labels}
use Rattle.theory_paths.proofs.Labels.{labels_exact, labels_earliest, labels_capped}
use Rattle.theory_paths.specs.Profiles.{Travel, unreachable, ticks, Profile, TrueProfile}
use Rattle.theory_paths.specs.Least.{Travels, travel_of, profile_of, least_ticks, least_travel, Modest, IsLeast, Least}

pub travel_never : {d : ℕ} → d ≡ never → travel_of d ≡ unreachable
unfolding travel_of
travel_never {d} e = rw (eq-eqb d never e)

pub travel_ticks : {d : ℕ} → d < never → travel_of d ≡ ticks d
unfolding travel_of
travel_ticks {d} l = rw (ne_eqb d never (λ e. omega arith))

-- and which number a travel came from
from_never : (d : ℕ) → travel_of d ≡ unreachable → d ≡ never
unfolding travel_of
from_never d e = go (eqb d never) refl e
  where
    go : (q : Bool) → eqb d never ≡ q → cond q unreachable (ticks d) ≡ unreachable → d ≡ never
    go true p z = eqb-true d never p
    go false p z = let z : ◌≡◌ {A = ℕ} 0 1 = cc in absurd (omega arith)

from_ticks : (d e : ℕ) → travel_of d ≡ ticks e → (d ≢ never) × (d ≡ e)
unfolding travel_of
from_ticks d e q = go (eqb d never) refl q
  where
    go : (t : Bool) → eqb d never ≡ t → cond t unreachable (ticks d) ≡ ticks e → (d ≢ never) × (d ≡ e)
    go true p z = let z : ◌≡◌ {A = ℕ} 0 1 = cc in absurd (omega arith)
    go false p z = (eqb-false d never p, cc)

module _ {g : Graph} (m : Modest g) (b : ℕ) {u x : ℕ} (n : u < g.nodes) (h : x < g.period) where
  early : x + (g.nodes - 1) * g.period < never
  early =
      let e : (g.nodes - 1 + 1) * g.period ≡ g.nodes * g.period =
      ap (λ (k : ℕ). k * g.period) (omega arith) in
      omega (arith, m.early)

  reach : (label (labels g all u x) b < never) ↔ Reachable g all u b
  reach = exact_reach (labels_exact m.lawful all u x n (omega (arith, early))) m.lawful m.bounded n
      early b

  -- the label of b is x later than the number, or both are never
  least_label : label (labels g all u x) b < never → x + least_ticks g b u x ≡ label (labels g all u x) b
  unfolding least_ticks
  least_label l =
      let y = label (labels g all u x) b in
      let e = (labels_earliest m.lawful all u x n (omega (arith, early)) b l).arrival in
      rw (ne_eqb y never (λ e. omega arith)) (omega (arith, path_takes m.lawful x e.leads, e.at))

  least_none : never ≤ label (labels g all u x) b → least_ticks g b u x ≡ never
  unfolding least_ticks
  least_none l =
      rw (eq-eqb (label (labels g all u x) b) never
      (omega (arith, labels_capped m.lawful all u x n (omega (arith, early)) b)))

  -- a number exactly where there is a path, and then no greater than the periods of a path that visits no
  -- node twice
  pub least_reach : (least_ticks g b u x < never) ↔ Reachable g all u b
  least_reach = (
    λ l. elim (dec_lt (label (labels g all u x) b) never)
        [ yes k ↦ reach.0 k | no k ↦ absurd (omega (arith, least_none (omega arith))) ],
    λ r. omega (arith, reach.1 r, least_label (reach.1 r)),
  )

  pub least_bound : Reachable g all u b → least_ticks g b u x ≤ (g.nodes - 1) * g.period
  least_bound r =
      omega (
        arith,
        least_label (reach.1 r),
        exact_bound (labels_exact m.lawful all u x n (omega (arith, early))) m.lawful m.bounded n
            early r,
      )

  pub least_capped : least_ticks g b u x ≤ never
  least_capped =
      elim (dec_lt (label (labels g all u x) b) never)
      [ yes k ↦ omega (arith, least_label k) | no k ↦ omega (arith, least_none (omega arith)) ]

  pub least_never : (least_ticks g b u x ≡ never) ↔ (¬ Reachable g all u b)
  least_never = (
    λ e r. omega (arith, least_reach.1 r),
    λ k. elim (dec_lt (least_ticks g b u x) never)
        [ yes l ↦ absurd (k (least_reach.0 l)) | no l ↦ omega (arith, least_capped) ],
  )

  pub least_earliest : least_ticks g b u x < never → EarliestArrival g all u x b (x + least_ticks g b u x)
  least_earliest l =
      let k = reach.1 (least_reach.0 l) in
      rw (least_label k) (labels_earliest m.lawful all u x n (omega (arith, early)) b k)

  -- the arrival is the label of b: what a search that starts at x tells
  pub least_arrival : least_ticks g b u x < never → x + least_ticks g b u x ≡ label (labels g all u x) b
  least_arrival l = least_label (reach.1 (least_reach.0 l))

  pub least_least : IsLeast g b u x (least_ticks g b u x)
  least_least = record {
    capped = least_capped;
    travel = λ l. (least_earliest l).arrival;
    least = λ w i. (least_earliest (least_reach.1 (record { path = w; leads = i }))).least w i;
  }

  pub least_is : {d : ℕ} → IsLeast g b u x d → d ≡ least_ticks g b u x
  least_is {d} k = elim (dec_lt (least_ticks g b u x) never) [
    | yes l ↦
        let e = least_earliest l in
        let f = k.least e.arrival.path e.arrival.leads in
        omega (arith, e.arrival.at, earliest_le e (k.travel (omega (arith, e.arrival.at))))
    | no l ↦ elim (dec_lt d never) [
      | yes j ↦ absurd (l (least_reach.1 (arrival_reach (k.travel j))))
      | no j ↦ omega (arith, k.capped, least_capped)
    ]
  ]

module _ {g : Graph} (m : Modest g) (b : ℕ) where
  pub least_travels_lem : Least g b (least_ticks g b)
  least_travels_lem = record { at = λ u x n h. least_least m b n h }

  -- they are a true profile
  pub least_true : {T : Travels} → Least g b T → TrueProfile g b (profile_of T)
  least_true {T} k = record {
    least = λ u x d n h q.
        let (z, e) = from_ticks (T u x) d q in
        let l = k.at u x n h in
        rw (← e) (record { arrival = l.travel (omega (arith, l.capped)); least = l.least });
    none = λ u x n h q r.
        omega (arith, from_never (T u x) q, least_is m b n h (k.at u x n h), (least_reach m b n h).1 r);
  }

  -- and any true profile is this one
  least_unique : {D : Profile} → TrueProfile g b D → (u x : ℕ) → u < g.nodes → x < g.period
      → D u x ≡ least_travel g b u x
  least_unique {D} t u x n h = go (D u x) refl
    where
      go : (d : Travel) → D u x ≡ d → d ≡ least_travel g b u x
      go unreachable q = sym (travel_never ((least_never m b n h).1 (t.none u x n h q)))
      go (ticks d) q =
          let e = t.least u x d n h q in
          let l = (least_reach m b n h).1 (arrival_reach e.arrival) in
          ap ticks (omega (arith, earliest_unique e (least_earliest m b n h l))) ∙ sym (travel_ticks l)

  -- so a profile is true exactly where it is this one
  pub least_exactly : {D : Profile}
      → TrueProfile g b D ↔ ((u x : ℕ) → u < g.nodes → x < g.period → D u x ≡ least_travel g b u x)
  least_exactly = (
    least_unique,
    λ e.
        let t = least_true least_travels_lem in
        record {
          least = λ u x d n h q. t.least u x d n h (sym (e u x n h) ∙ q);
          none = λ u x n h q. t.none u x n h (sym (e u x n h) ∙ q);
        },
  )

  -- never at one tick is never at every tick
  pub never_always : (u x y : ℕ) → u < g.nodes → x < g.period → y < g.period → least_ticks g b u x ≡ never
      → least_ticks g b u y ≡ never
  never_always u x y n h k e = (least_never m b n k).1 ((least_never m b n h).0 e)

  -- their numbers are below never where there is a path
  pub least_known : {T : Travels} → Least g b T → (u x : ℕ) → u < g.nodes → x < g.period
      → Reachable g all u b → T u x < never
  least_known {T} k u x n h r = omega (arith, least_is m b n h (k.at u x n h), (least_reach m b n h).1 r)
