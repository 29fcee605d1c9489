-- Profiles to a border. The tests 21 to 24 of document 01 as conditions on a node, its arcs and a tick, the
-- opposite of what each test refuses. 21 to 23 hold everywhere exactly when the profile is the true least
-- travel (`profile_exact`); and then 24 holds everywhere exactly when permitted arcs start least paths from
-- every node at every tick (`toward_exact`).
use mathlib.Core.{Path.◌≡◌, Path.refl, Path.sym, Path.◌∙◌, Path.ap, Logic.◌↔◌}
use Rattle.std.specs.Prelude.{List, [], ◌∷◌, ℕ, zero, suc, ◌+◌, ◌-◌, ◌%◌, ◌≤◌, ◌<◌}
use native.Mathlib.{Nat.mod-lt, Nat.mod-eq_of_lt, Nat.mod-add-mod, Nat.mod-add-div', Omega.arith}
use Rattle.std.proofs.Math.Decide.{ℕ_discrete}
use Rattle.theory_paths.specs.Graph.{
  Graph,
  Lawful,
  ends,
  Permit,
  all,
  ArcFrom,
  IsPath,
  stop,
  step,
  driven,
  Arrival,
  EarliestArrival,
  Reachable,
}
use Rattle.theory_paths.proofs.Drive.{driven_mod, earliest_move, arrival_reach, arc_takes, arc_all, arc_node}
use Rattle.theory_paths.specs.Profiles.{Travel, Profile, TrueProfile, plus, AtMost, gives, Attained, LocalProfile, StartsLeast, Toward, unreachable, ticks}

clash : {d : ℕ} → ¬ (unreachable ≡ ticks d)
clash e = let z : ◌≡◌ {A = ℕ} 0 1 = cc in omega arith

is_ticks : (t : Travel) → ¬ (t ≡ unreachable) → (d : ℕ) × (t ≡ ticks d)
is_ticks unreachable h = absurd (h refl)
is_ticks (ticks d) h = (d, refl)

plus_ticks : (k d : ℕ) (t : Travel) → plus k t ≡ ticks d → (e : ℕ) × (t ≡ ticks e) × (d ≡ k + e)
plus_ticks k d unreachable h = absurd (clash h)
plus_ticks k d (ticks e) h = (e, refl, cc)

at_most_ticks : (t : Travel) (d : ℕ) → AtMost t (ticks d) → (c : ℕ) × (t ≡ ticks c) × (c ≤ d)
at_most_ticks unreachable d h = absurd h
at_most_ticks (ticks c) d h = (c, refl, h)

ticks_at_most : (s t : Travel) → ((d : ℕ) → t ≡ ticks d → (c : ℕ) × (s ≡ ticks c) × (c ≤ d)) → AtMost s t
ticks_at_most s unreachable k = tt
ticks_at_most s (ticks d) k = let (c, q, h) = k d refl in rw q h

module _ {g : Graph} (ok : Lawful g) (D : Profile) where
  open g use {period, nodes, head, travel}

  below : (x : ℕ) → x % period < period
  below x = mod-lt x ok.positive

  -- what an arc gives, at any tick
  gives_ticks_lem : (a x d : ℕ) → gives g D a (x % period) ≡ ticks d
      → (e : ℕ) × (D (head a) (ends g a x % period) ≡ ticks e) × (x + d ≡ ends g a x + e)
  unfolding ends
  gives_ticks_lem a x d h =
      let k = travel a (x % period) in
      let (e, q, r) = plus_ticks k d (D (head a) (ends g a x % period)) (rw (mod-add-mod x period k) at h) in
      (e, q, omega arith)

  ticks_gives : (a x d e : ℕ) → D (head a) (ends g a x % period) ≡ ticks e → x + d ≡ ends g a x + e
      → gives g D a (x % period) ≡ ticks d
  unfolding ends
  ticks_gives a x d e q r = rw (mod-add-mod x period (travel a (x % period)), q) (ap ticks (omega arith))

  module _ {b : ℕ} (l : LocalProfile g b D) where
    sound : (k u x d : ℕ) → d < k → u < nodes → D u (x % period) ≡ ticks d → Arrival g all u x b (x + d)
    sound zero u x d h n q = absurd (omega arith)
    sound (suc k) u x d h n q = go (sound k) (ℕ_discrete u b)
      where
        go : ((u x d : ℕ) → d < k → u < nodes → D u (x % period) ≡ ticks d → Arrival g all u x b (x + d))
            → Dec (u ≡ b) → Arrival g all u x b (x + d)
        go ih (yes e) = let z : d ≡ 0 = cc (l.home (x % period) (below x)) in
            record { path = []; leads = stop e; at = omega arith }
        go ih (no ne) =
            let (a, f, v) = l.attained u (x % period) d n (below x) ne q in
            let (e, q', r) = gives_ticks_lem a x d v in
            let i = ih (head a) (ends g a x) e (omega (arith, arc_takes ok x f))
            (ok.heads a f.listed) q' in
            record { path = a ∷ i.path; leads = step f i.leads; at = i.at ∙ sym r }

    under : {u : ℕ} {w : List ℕ} (x : ℕ) → IsPath g all u b w
        → (d : ℕ) × (D u (x % period) ≡ ticks d) × (x + d ≤ driven g w x)
    under x (stop e) = (0, rw e (l.home (x % period) (below x)), omega arith)
    under {u} x (step {a = a} f i) =
        let (e, q, h) = under (ends g a x) i in
        let k = ends g a x + e - x in
        let r : gives g D a (x % period) ≡ ticks k =
        ticks_gives a x k e q (omega (arith, arc_takes ok x f)) in
        let (c, q', h') =
        at_most_ticks (D u (x % period)) k (rw r at (l.no_less u a (x % period) f (below x))) in
        (c, q', omega (arith, arc_takes ok x f))

    local_true : TrueProfile g b D
    local_true = record {
      least = λ u x d n h q. record {
        arrival = sound (suc d) u x d (omega arith) n (rw (mod-eq_of_lt h) q);
        least = λ w i.
            let (c, r, k) = under x i in
            let z : c ≡ d = cc (mod-eq_of_lt h) in
            omega arith;
      };
      none = λ u x n h q r.
          let (c, v, k) = under x r.leads in
          clash (sym q ∙ (rw (mod-eq_of_lt h) at v));
    }

  module _ {b : ℕ} (t : TrueProfile g b D) where
    true_least : (u x d : ℕ) → u < nodes → D u (x % period) ≡ ticks d → EarliestArrival g all u x b (x + d)
    true_least u x d n q =
        earliest_move (λ w. omega (arith, driven_mod g w x, mod-add-div' x period))
        (t.least u (x % period) d n (below x) q)

    true_under : {u : ℕ} {w : List ℕ} (x : ℕ) → u < nodes → IsPath g all u b w
        → (d : ℕ) × (D u (x % period) ≡ ticks d) × (x + d ≤ driven g w x)
    true_under {u} {w} x n i =
        let (d, q) =
        is_ticks (D u (x % period))
        (λ z. t.none u (x % period) n (below x) z (record { path = w; leads = i })) in
        (d, q, (true_least u x d n q).least w i)

    -- the first arc of a least path gives the profile's number, and an arc that gives it starts a least path
    least_gives : {p : Permit} (a u x d : ℕ) → u < nodes → StartsLeast g p a u x b
        → D u (x % period) ≡ ticks d → gives g D a (x % period) ≡ ticks d
    least_gives a u x d n s q =
        let e = true_least u x d n q in
        let h = ok.heads a s.from.listed in
        let (k, q', l) = true_under (ends g a x) h s.leads in
        let f = true_least (head a) (ends g a x) k h q' in
        ticks_gives a x d k q'
        (omega (
          arith,
          s.least e.arrival.path e.arrival.leads,
          e.arrival.at,
          e.least (a ∷ f.arrival.path) (step (arc_all s.from) f.arrival.leads),
          f.arrival.at,
        ))

    gives_least : {p : Permit} (a u x d : ℕ) → u < nodes → ArcFrom g p u a → D u (x % period) ≡ ticks d
        → gives g D a (x % period) ≡ ticks d → StartsLeast g p a u x b
    gives_least a u x d n f q v =
        let (k, q', r) = gives_ticks_lem a x d v in
        let e = (true_least (head a) (ends g a x) k (ok.heads a f.listed) q').arrival in
        record {
          from = f;
          rest = e.path;
          leads = e.leads;
          least = λ w i. omega (arith, e.at, (true_least u x d n q).least w i);
        }

    -- (24) holds exactly where permitted arcs start least paths
    attained_toward : {p : Permit} → Attained g p b D → Toward g p b
    attained_toward c u x n h ne r =
        let (d, q, l) = true_under x n r.leads in
        let (a, f, v) = c u x d n h ne (rw (mod-eq_of_lt h) at q) in
        (a, gives_least a u x d n f q (rw (mod-eq_of_lt h) v))

    toward_attained : {p : Permit} → Toward g p b → Attained g p b D
    toward_attained c u x d n h ne q =
        let (a, s) = c u x n h ne (arrival_reach (t.least u x d n h q).arrival) in
        (a, s.from, rw (mod-eq_of_lt h) at (least_gives a u x d n s (rw (mod-eq_of_lt h) q)))

    -- over all arcs they do
    toward_all : Toward g all b
    toward_all u x n h ne r =
        let (d, q, l) = true_under x n r.leads in
        let e = true_least u x d n q in
        first e.arrival.leads (λ w i. omega (arith, e.arrival.at, e.least w i))
      where
        first : {w : List ℕ} → IsPath g all u b w
            → ((v : List ℕ) → IsPath g all u b v → driven g w x ≤ driven g v x)
            → (a : ℕ) × StartsLeast g all a u x b
        first (stop e) l = absurd (ne e)
        first (step {a = a} {w = w} f i) l = (a, record { from = f; rest = w; leads = i; least = l })

    true_no_less : (u a x : ℕ) → ArcFrom g all u a → x < period → AtMost (D u x) (gives g D a x)
    true_no_less u a x f h = ticks_at_most (D u x) (gives g D a x) λ d v.
        let (k, q, r) = gives_ticks_lem a x d (rw (mod-eq_of_lt h) v) in
        let e = (true_least (head a) (ends g a x) k (ok.heads a f.listed) q).arrival in
        let (c, q', l) = true_under x (arc_node ok f) (step f e.leads) in
        (c, rw (mod-eq_of_lt h) at q', omega (arith, e.at))

    true_local : b < nodes → LocalProfile g b D
    true_local n = record {
      home = λ x h.
          let (d, q, l) = true_under x n (stop refl) in
          (rw (mod-eq_of_lt h) at q) ∙ ap ticks (omega arith);
      no_less = true_no_less;
      attained = toward_attained toward_all;
    }

  -- a true profile has no number exactly where there is no path
  pub true_unreachable : {b : ℕ} → TrueProfile g b D → (u x : ℕ) → u < nodes → x < period
      → (D u x ≡ unreachable) ↔ (¬ Reachable g all u b)
  true_unreachable {b} t u x n h = (t.none u x n h, λ k. go k (D u x) refl)
    where
      go : ¬ Reachable g all u b → (d : Travel) → D u x ≡ d → d ≡ unreachable
      go k unreachable q = refl
      go k (ticks d) q = absurd (k (arrival_reach (t.least u x d n h q).arrival))

  pub profile_exact : (b : ℕ) → b < nodes → LocalProfile g b D ↔ TrueProfile g b D
  profile_exact b n = (λ l. local_true l, λ t. true_local t n)

  pub toward_exact : {b : ℕ} (p : Permit) → TrueProfile g b D → Attained g p b D ↔ Toward g p b
  toward_exact p t = (λ c. attained_toward t c, λ c. toward_attained t c)
