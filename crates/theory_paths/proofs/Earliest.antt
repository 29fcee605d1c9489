-- The earliest arrival is unique (`earliest_unique`), and labels that are sound and closed below a bound are
-- the earliest arrivals up to that bound (`closed_exact`). This is all that a search such as Dijkstra's,
-- stopped early at its target or not, has to show.
use mathlib.Core.{Path.◌≡◌, Path.sym, Logic.◌↔◌, List.List}
use Rattle.std.specs.Prelude.{ℕ, ◌+◌, ◌-◌, ◌*◌, ◌≤◌, ◌<◌}
use native.Mathlib.{Nat.le_trans, Nat.le_of_lt, Nat.le_antisymm, Omega.arith, Decide.dec_lt}
use Rattle.theory_paths.specs.Graph.{Graph, Lawful, Bounded, Permit, IsPath, stop, step, driven, EarliestArrival, Reachable}
use Rattle.theory_paths.proofs.Drive.{path_takes, earliest_le, arrival_reach}
use Rattle.theory_paths.proofs.Simple.{arrive_bound}
use Rattle.theory_paths.specs.Earliest.{never, Exact, Closed}

pub earliest_unique : {g : Graph} {p : Permit} {s x t b c : ℕ} → EarliestArrival g p s x t b
    → EarliestArrival g p s x t c → b ≡ c
earliest_unique e f = le_antisymm (earliest_le e f.arrival) (earliest_le f e.arrival)

module _ {g : Graph} {p : Permit} {s x : ℕ} {L : ℕ → ℕ} {B : ℕ} (ok : Lawful g) (c : Closed g p s x L B) where
  -- a path that starts no earlier than its first label, and ends before B, ends no earlier than its last
  -- label
  along : {u t y : ℕ} {w : List ℕ} → IsPath g p u t w → L u ≤ y → driven g w y < B → L t ≤ driven g w y
  along (stop e) h l = rw e at h
  along {u = u} {y = y} (step {a = a} f i) h l =
      along i (le_trans (c.closed u a f (omega (arith, path_takes ok y (step f i))))
      (ok.fifo a f.listed h)) l

  closed_earliest : (t : ℕ) → L t ≤ B → L t < never → EarliestArrival g p s x t (L t)
  closed_earliest t h l = record { arrival = c.sound t l; least = λ w i. go w i (dec_lt (driven g w x) B) }
    where
      go : (w : List ℕ) → IsPath g p s t w → Dec (driven g w x < B) → L t ≤ driven g w x
      go w i (yes d) = along i c.source d
      go w i (no d) = omega arith

  pub closed_exact : x < never → Exact g p s x L B
  closed_exact h =
      let r = c.sound s (omega (arith, c.source)) in
      record {
        source = omega (arith, c.source, path_takes ok x r.leads, r.at);
        earliest = closed_earliest;
        least = λ t w i l. along i c.source l;
      }

module _ {g : Graph} {p : Permit} {s x : ℕ} {L M : ℕ → ℕ} {B C : ℕ} (e : Exact g p s x L B)
    (f : Exact g p s x M C) where
  -- two searches agree on what both know
  pub exact_same : (t : ℕ) → L t ≤ B → L t < never → L t < C → M t ≡ L t
  exact_same t h n l =
      let r = e.earliest t h n in
      let k = f.least t r.arrival.path r.arrival.leads (omega (arith, r.arrival.at)) in
      earliest_unique (f.earliest t (omega (arith, r.arrival.at)) (omega (arith, r.arrival.at))) r

module _ {g : Graph} {p : Permit} {s x : ℕ} {L : ℕ → ℕ} {B : ℕ} (e : Exact g p s x L B) where
  pub exact_reached : {t : ℕ} {w : List ℕ} → B ≤ never → IsPath g p s t w → driven g w x < B
      → EarliestArrival g p s x t (L t)
  exact_reached {t} {w} h i l = let k = e.least t w i l in e.earliest t (omega arith) (omega arith)

  pub exact_value : {t b : ℕ} → B ≤ never → EarliestArrival g p s x t b → b < B → L t ≡ b
  exact_value h f l = let r = f.arrival in earliest_unique (exact_reached h r.leads (rw r.at l)) f

-- Exact labels up to `never`, none above it: the same for every search; and where arcs take at most so long,
-- and x is not too late, `never` exactly where there is no path.
module _ {g : Graph} {p : Permit} {s x : ℕ} {L : ℕ → ℕ} (e : Exact g p s x L never) where
  pub exact_equal : {M : ℕ → ℕ} → Exact g p s x M never → (t : ℕ) → L t ≤ never → M t ≤ never → M t ≡ L t
  exact_equal {M} f t h k = go (dec_lt (L t) never) (dec_lt (M t) never)
    where
      go : Dec (L t < never) → Dec (M t < never) → M t ≡ L t
      go (yes l) d = exact_same e f t h l l
      go (no l) (yes m) = sym (exact_same f e t k m m)
      go (no l) (no m) = omega arith

  module _ (ok : Lawful g) {most : ℕ} (b : Bounded g most) (n : s < g.nodes)
      (early : x + (g.nodes - 1) * most < never) where
    pub exact_bound : {t : ℕ} → Reachable g p s t → L t ≤ x + (g.nodes - 1) * most
    exact_bound {t} r =
        let q = arrive_bound ok b x n r.leads in
        le_trans (e.least t q.path q.leads (omega (arith, q.no_later))) q.no_later

    pub exact_reach : (t : ℕ) → (L t < never) ↔ Reachable g p s t
    exact_reach t = (
      λ h. arrival_reach (e.earliest t (le_of_lt h) h).arrival,
      λ r. omega (arith, exact_bound r),
    )

    pub exact_never : (t : ℕ) → L t ≤ never → (L t ≡ never) ↔ (¬ Reachable g p s t)
    exact_never t h = (λ q r. omega (arith, exact_bound r), λ k. go k (dec_lt (L t) never))
      where
        go : ¬ Reachable g p s t → Dec (L t < never) → L t ≡ never
        go k (yes l) = absurd (k ((exact_reach t).0 l))
        go k (no l) = omega arith
