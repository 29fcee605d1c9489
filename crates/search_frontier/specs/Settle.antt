-- A search that settles the nearest node first (Dijkstra's). The frontier holds the nodes that have a label
-- and are not settled. A settled node's label is never improved, so once no node of the frontier is nearer
-- than the target, the labels are exact up to the target's. The steps: `start`, `settle`, `nearest_exact`.
-- How the frontier is held does not matter here: it is a predicate.
use mathlib.Core.{Path.◌≡◌, Path.◌∙◌, Logic.◌≢◌, Logic.◌⊎◌, Logic.inl, Logic.inr, Logic.⊎_elim, List.List}
use Rattle.std.specs.Prelude.{ℕ, zero, suc, ◌+◌, ◌-◌, ◌*◌, ◌≤◌, ◌<◌, length}
use native.Mathlib.{Nat.le_refl, Nat.le_trans, Nat.suc-mul, Numerals.sub-one, Omega.arith}
use Rattle.std.proofs.Math.Decide.{ℕ_discrete, dec_lt}
use Rattle.theory_paths.specs.Graph.{Graph, Lawful, Bounded, ends, Permit, ArcFrom, Arrival}
use Rattle.theory_paths.proofs.Drive.{arc_takes, arc_ends, arrival_start, arrival_then}
use Rattle.theory_paths.specs.{Earliest.never, Earliest.Exact}
use Rattle.theory_paths.proofs.Simple.{arrive_bound}
use Rattle.theory_paths.proofs.Earliest.{closed_exact}
use Rattle.theory_paths.specs.Labels.{label}
use Rattle.search_frontier.specs.Relax.{Relaxed}

-- u is settled: it has a label, and is not in the frontier.
abbrev pub Settled : List ℕ → (ℕ → Type 0) → ℕ → Type 0
Settled L In u = (label L u < never) × (¬ In u)

-- No node of the frontier has a lower label than t.
abbrev pub Nearest : List ℕ → (ℕ → Type 0) → ℕ → Type 0
Nearest L In t = (v : ℕ) → In v → label L t ≤ label L v

-- The last tick at which a label can stand, where no arc takes longer than `most`.
abbrev pub latest : Graph → ℕ → ℕ → ℕ
latest g most x = x + g.nodes * most

-- What the search keeps: every label is an arrival, no settled node's label is above one of the frontier, and
-- every permitted arc out of a settled node is obeyed.
pub record Search (g : Graph) (most : ℕ) (p : Permit) (s x : ℕ) (L : List ℕ) (In : ℕ → Type 0) : Type 0 where
  pub size : length L ≡ g.nodes
  pub source : label L s ≤ x
  pub capped : (v : ℕ) → label L v ≤ never
  pub sound : (v : ℕ) → label L v < never → Arrival g p s x v (label L v)
  pub early : (v : ℕ) → label L v < never → label L v ≤ latest g most x
  pub order : (u v : ℕ) → Settled L In u → In v → label L u ≤ label L v
  pub closed : (u a : ℕ) → ArcFrom g p u a → Settled L In u → label L (g.head a) ≤ ends g a (label L u)

-- What settling u makes of the frontier: u is taken out, and the nodes that got their first label are put in.
pub record Moved (L M : List ℕ) (In Out : ℕ → Type 0) (u : ℕ) : Type 0 where
  pub stay : (v : ℕ) → In v → v ≢ u → Out v
  pub new : (v : ℕ) → never ≤ label L v → label M v < never → Out v
  pub no_more : (v : ℕ) → Out v → (In v × (v ≢ u)) ⊎ (never ≤ label L v)

one_more : (n P : ℕ) → 0 < n → (n - 1) * P + P ≡ n * P
one_more zero P h = absurd (omega arith)
one_more (suc n) P h = rw (sub-one, suc-mul)

module _ {g : Graph} (ok : Lawful g) {most : ℕ} (b : Bounded g most) {p : Permit} {s x : ℕ} (n : s < g.nodes)
    (h : x < never) where
  -- start: the source's label is x, no other is known, and the frontier has the source
  pub start : {L : List ℕ} {In : ℕ → Type 0} → length L ≡ g.nodes → label L s ≡ x
      → ((v : ℕ) → v ≢ s → label L v ≡ never) → In s → Search g most p s x L In
  start {L} {In} k e o c = record {
    size = k;
    source = omega arith;
    capped = λ v. elim (ℕ_discrete v s) [ yes q ↦ rw q (omega arith) | no q ↦ omega (arith, o v q) ];
    sound = λ v l. elim
        (ℕ_discrete v s) [ yes q ↦ rw (q, e) arrival_start | no q ↦ absurd (omega (arith, o v q)) ];
    early =
        λ v l. elim (ℕ_discrete v s) [ yes q ↦ rw q (omega arith) | no q ↦ absurd (omega (arith, o v q)) ];
    order = λ u v d. absurd (none u d);
    closed = λ u a f d. absurd (none u d);
  }
    where
      none : (u : ℕ) → Settled L In u → ⊥
      none u d = elim (ℕ_discrete u s) [ yes q ↦ d.1 (rw q c) | no q ↦ omega (arith, o u q, d.0) ]

  module _ {L : List ℕ} {In : ℕ → Type 0} (i : Search g most p s x L In) where
    -- stop early, or run dry: where no node of the frontier is nearer than t, the labels are exact up to t's
    pub nearest_exact : (t : ℕ) → Nearest L In t → Exact g p s x (label L) (label L t)
    nearest_exact t m = closed_exact ok (record {
      source = i.source;
      sound = i.sound;
      closed = λ u a f l. i.closed u a f (omega (arith, i.capped t), λ o. omega (arith, m u o));
    }) h

    -- so the nearest node's label is one that a path of fewer arcs than nodes has
    nearest_early : (u : ℕ) → Nearest L In u → label L u < never → label L u ≤ x + (g.nodes - 1) * most
    nearest_early u m l =
        let e = (nearest_exact u m).earliest u (le_refl _) l in
        let q = arrive_bound ok b x n e.arrival.leads in
        le_trans (e.least q.path q.leads) q.no_later

    -- settle the nearest node u, and relax its arcs
    module _ {u : ℕ} {M : List ℕ} {Out : ℕ → Type 0} (c : In u) (l : label L u < never) (m : Nearest L In u)
        (r : Relaxed g p u (label L u) g.arcs L M) (f : Moved L M In Out u) where
      -- a label that is not above u's is never improved, and no label that is above it falls to it
      kept : (v : ℕ) → label L v ≤ label L u → label M v ≡ label L v
      kept v k =
          ⊎_elim (λ e. e) (λ w. absurd (omega (arith, r.less v, w.at, arc_takes ok (label L u) w.from)))
          (r.from v)

      above : (v : ℕ) → label L u ≤ label L v → label L u ≤ label M v
      above v k =
          ⊎_elim (λ e. omega arith) (λ w. omega (arith, w.at, arc_takes ok (label L u) w.from))
          (r.from v)

      above_out : (v : ℕ) → Out v → label L u ≤ label M v
      above_out v o = above v (⊎_elim (λ w. m v w.0) (λ w. omega arith) (f.no_more v o))

      -- what is settled now: u, or what was settled before
      pub was : (v : ℕ) → Settled M Out v → (v ≡ u) ⊎ Settled L In v
      was v d = elim (ℕ_discrete v u) [
        | yes q ↦ inl q
        | no q ↦ elim (dec_lt (label L v) never) [
          | yes k ↦ inr (k, λ j. d.1 (f.stay v j q))
          | no k ↦ absurd (d.1 (f.new v (omega arith) d.0))
        ]
      ]

      low : (v : ℕ) → Settled M Out v → label L v ≤ label L u
      low v d = ⊎_elim (λ q. rw q (le_refl _)) (λ w. i.order v u w c) (was v d)

      pub settle : Search g most p s x M Out
      settle = record {
        size = r.size ∙ i.size;
        source = omega (arith, r.less s, i.source);
        capped = λ v. omega (arith, r.less v, i.capped v);
        sound =
            λ v k. ⊎_elim (λ e. rw e (i.sound v (omega arith)))
            (λ w. rw (w.at, ← w.enters) (arrival_then (i.sound u l) w.from)) (r.from v);
        early = λ v k. ⊎_elim (λ e. omega (arith, i.early v (omega arith)))
            (λ w.
            let k = one_more g.nodes most (omega arith) in
            omega (arith, w.at, arc_ends ok b (label L u) w.from, nearest_early u m l)) (r.from v);
        order = λ v w d o. omega (arith, kept v (low v d), low v d, above_out w o);
        closed = λ v a e d. rw (kept v (low v d)) (⊎_elim
            (λ q. rw q (r.least a (rw q at e) e.listed))
            (λ w. le_trans (r.less (g.head a)) (i.closed v a e w)) (was v d));
      }
