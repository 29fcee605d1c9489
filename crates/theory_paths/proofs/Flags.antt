-- Arc flags. What enough flags are, by document 01's rules (a) and (b) (`EnoughFlags`); then the earliest
-- arrival over the arcs with the flag of the target's cell is the earliest over all arcs (`arc_flags`), and
-- there is a flagged path exactly when there is a path (`arc_flags_reach`). What a check tests is exactly
-- that the profiles are true and the flags enough (`checked_exact`).
use mathlib.Core.{Path.◌≡◌, Path.refl, Path.◌∙◌, Path.ap, Bool.Bool}
use Rattle.std.specs.Prelude.{◌↔◌, ◌≢◌, ◌⊎◌, List, [], ◌∷◌, ◌++◌, ℕ, zero, suc, ◌+◌, ◌%◌, ◌≤◌, ◌<◌}
use Rattle.std.proofs.Common.{inl, inr}
use native.Mathlib.{Nat.le_refl, Nat.le_trans, Nat.mod-lt, Omega.arith, Decide.ℕ_discrete}
use Rattle.theory_paths.specs.Graph.{
  Graph,
  Lawful,
  ends,
  Permit,
  all,
  IsPath,
  stop,
  step,
  driven,
  EarliestArrival,
  Reachable,
}
use Rattle.theory_paths.proofs.Drive.{driven_mod, driven_append, arc_takes, arc_node, path_takes, path_all, path_append, later}
use Rattle.theory_paths.specs.Profiles.{Profile, Toward, StartsLeast, Attained}
use Rattle.theory_paths.proofs.Profiles.{profile_exact, toward_exact}
use Rattle.theory_paths.specs.Flags.{Border, flagged, FlaggedToward, EnoughFlags, TrueProfiles, Checked}

-- A permitted path that ends no later than w.
record NoLater (g : Graph) (p : Permit) (s t x : ℕ) (w : List ℕ) : Type 0 where
  path : List ℕ
  leads : IsPath g p s t path
  no_later : driven g path x ≤ driven g w x

module _ {g : Graph} (ok : Lawful g) where
  starts_any : {p : Permit} {a u b : ℕ} (x : ℕ) → StartsLeast g p a u (x % g.period) b
      → StartsLeast g p a u x b
  starts_any {a = a} x s =
      record {
        from = s.from;
        rest = s.rest;
        leads = s.leads;
        least = λ w i. omega (arith, driven_mod g (a ∷ s.rest) x, driven_mod g w x, s.least w i);
      }

  path_node : {p : Permit} {s t : ℕ} {w : List ℕ} → IsPath g p s t w → s ≢ t → s < g.nodes
  path_node (stop e) ne = absurd (ne e)
  path_node (step f i) ne = arc_node ok f

  -- from arc to arc, each the start of a least path, b is reached no later than by any path
  module _ {p : Permit} {b : ℕ} (c : Toward g p b) where
    follow : (k u x : ℕ) (w : List ℕ) → IsPath g all u b w → driven g w x < x + k → NoLater g p u b x w
    follow zero u x w i h = absurd (omega (arith, path_takes ok x i))
    follow (suc k) u x w i h = go (follow k) (ℕ_discrete u b)
      where
        go : ((u x : ℕ) (w : List ℕ) → IsPath g all u b w → driven g w x < x + k → NoLater g p u b x w)
            → Dec (u ≡ b) → NoLater g p u b x w
        go ih (yes e) = record { path = []; leads = stop e; no_later = omega (arith, path_takes ok x i) }
        go ih (no ne) =
            let (a, s) =
            c u (x % g.period) (path_node i ne) (mod-lt x ok.positive) ne
            (record { path = w; leads = i }) in
            let r = starts_any x s in
            let l = r.least w i in
            let v = ih (g.head a) (ends g a x) r.rest r.leads
            (omega (arith, arc_takes ok x r.from)) in
            record {
              path = a ∷ v.path;
              leads = step r.from v.leads;
              no_later = omega (arith, v.no_later);
            }

  join : {p : Permit} {s u t x : ℕ} {v w : List ℕ} → NoLater g p s u x v → IsPath g p u t w
      → NoLater g p s t x (v ++ w)
  join {x = x} {v = v} {w = w} r i = record {
    path = r.path ++ w;
    leads = path_append r.leads i;
    no_later = rw (driven_append g r.path w x, driven_append g v w x) (later ok i r.no_later);
  }

module _ {g : Graph} (ok : Lawful g) {cell : ℕ → ℕ} {flag : ℕ → ℕ → Bool}
    (enough : EnoughFlags g cell flag) where
  -- A path to cell c stays in it, and then is flagged, or enters it for the last time at a border.
  record Enters (c s t : ℕ) (w : List ℕ) : Type 0 where
    at : ℕ
    border : Border g cell at
    in_cell : cell at ≡ c
    before : List ℕ
    after : List ℕ
    to : IsPath g all s at before
    from : IsPath g (flagged flag c) at t after
    whole : before ++ after ≡ w

  abbrev Stays : ℕ → ℕ → ℕ → List ℕ → Type 0
  Stays c s t w = IsPath g (flagged flag c) s t w × (cell s ≡ c)

  cut : {c s t : ℕ} {w : List ℕ} → cell t ≡ c → IsPath g all s t w → Stays c s t w ⊎ Enters c s t w
  cut e (stop q) = inl (stop q, ap cell q ∙ e)
  cut {c} {s} {t} e (step {a = a} {w = w} f i) = go (cut e i) (ℕ_discrete (cell s) c)
    where
      go : Stays c (g.head a) t w ⊎ Enters c (g.head a) t w → Dec (cell s ≡ c)
          → Stays c s t (a ∷ w) ⊎ Enters c s t (a ∷ w)
      go (inr r) d = inr (record {
        at = r.at;
        border = r.border;
        in_cell = r.in_cell;
        before = a ∷ r.before;
        after = r.after;
        to = step f r.to;
        from = r.from;
        whole = rw r.whole;
      })
      go (inl k) (yes q) =
          inl (
            step (record {
              listed = f.listed;
              permitted = enough.inside a c f.listed (cc) k.1;
              leaves = f.leaves;
            })
                k.0,
            q,
          )
      go (inl k) (no q) = inr (record {
        at = g.head a;
        in_cell = k.1;
        before = a ∷ [];
        after = w;
        to = step f (stop refl);
        from = k.0;
        whole = refl;
        border = record { arc = a; listed = f.listed; enters = refl; crosses = λ z. q (cc) };
      })

  flagged_path_lem : {s t : ℕ} {w : List ℕ} (x : ℕ) → IsPath g all s t w
      → NoLater g (flagged flag (cell t)) s t x w
  flagged_path_lem {s} {t} {w} x i = go (cut refl i)
    where
      go : Stays (cell t) s t w ⊎ Enters (cell t) s t w → NoLater g (flagged flag (cell t)) s t x w
      go (inl k) = record { path = w; leads = k.0; no_later = le_refl _ }
      go (inr r) =
          let c = rw r.in_cell at (enough.toward r.at r.border) in
          rw r.whole at
          (join ok (follow ok c (suc (driven g r.before x)) s x r.before r.to (omega arith))
          r.from)

  pub arc_flags : {s x t b : ℕ}
      → EarliestArrival g (flagged flag (cell t)) s x t b ↔ EarliestArrival g all s x t b
  arc_flags {x = x} = (
    λ e. record {
      arrival = record { path = e.arrival.path; leads = path_all e.arrival.leads; at = e.arrival.at };
      least = λ w i. let v = flagged_path_lem x i in le_trans (e.least v.path v.leads) v.no_later;
    },
    λ e.
        let v = flagged_path_lem x e.arrival.leads in
        record {
          arrival = record {
            path = v.path;
            leads = v.leads;
            at = omega (arith, v.no_later, e.arrival.at, e.least v.path (path_all v.leads));
          };
          least = λ w i. e.least w (path_all i);
        },
  )

  pub arc_flags_reach : {s t : ℕ} → Reachable g (flagged flag (cell t)) s t ↔ Reachable g all s t
  arc_flags_reach = (
    λ r. record { path = r.path; leads = path_all r.leads },
    λ r. let v = flagged_path_lem 0 r.leads in record { path = v.path; leads = v.leads },
  )

pub border_node : {g : Graph} (ok : Lawful g) (cell : ℕ → ℕ) {b : ℕ} → Border g cell b → b < g.nodes
border_node ok cell h = rw h.enters at (ok.heads h.arc h.listed)

module _ {g : Graph} (ok : Lawful g) (cell : ℕ → ℕ) (flag : ℕ → ℕ → Bool) (D : ℕ → Profile) where
  -- given true profiles, 24 holds everywhere exactly when rule (b) does
  pub flags_exact : TrueProfiles g cell D
      → ((b : ℕ) → Border g cell b → Attained g (flagged flag (cell b)) b (D b)) ↔ FlaggedToward g cell flag
  flags_exact t = (
    λ c b h. (toward_exact ok (D b) (flagged flag (cell b)) (t b h)).0 (c b h),
    λ c b h. (toward_exact ok (D b) (flagged flag (cell b)) (t b h)).1 (c b h),
  )

  pub checked_exact : Checked g cell flag D ↔ (TrueProfiles g cell D × EnoughFlags g cell flag)
  checked_exact = (
    λ c.
        let t : TrueProfiles g cell D =
        λ b h. (profile_exact ok (D b) b (border_node ok cell h)).0 (c.local b h) in
        (t, record { inside = c.inside; toward = (flags_exact t).0 c.attained }),
    λ r. record {
      inside = r.1.inside;
      local = λ b h. (profile_exact ok (D b) b (border_node ok cell h)).1 (r.0 b h);
      attained = (flags_exact r.0).1 r.1.toward;
    },
  )
