-- The flags that a planner gives: an arc has the flag of cell c exactly when both its ends lie in c, or it
-- starts a least path to some border of c at some tick (`planned_exactly`); that is tested on the least
-- travels alone (`starts_exactly`). With true profiles such flags are enough (`planned_enough`) and pass what
-- a check tests (`planned_checked`): every plan so made is accepted.
use mathlib.Core.{Path.◌≡◌, Path.refl, Path.sym, Path.◌∙◌, Path.ap, List.List, List.◌∷◌}
use Rattle.std.specs.Prelude.{◌↔◌, ◌⊎◌, Bool, true, false, ◌||◌, ℕ, ◌+◌, ◌%◌, ◌≤◌, ◌<◌}
use Rattle.std.proofs.Math.Logic.{inl, inr}
use Rattle.std.proofs.Math.Bool.{and-eq-true_iff}
use Rattle.std.proofs.Common.{true≢false, eqb-true, eq-eqb}
use native.Mathlib.{Nat.le_antisymm, Nat.mod-lt, Nat.mod-add-div', Omega.arith, Decide.dec_lt}
use Rattle.theory_loops.specs.First.{any, any_found, yes_any, any_none, any_more}
use Rattle.theory_paths.specs.Graph.{Graph, Lawful, ends, all, ArcFrom, step, driven}
use Rattle.theory_paths.specs.{Earliest.never}
use Rattle.theory_paths.proofs.Drive.{driven_mod, arc_takes}
use Rattle.theory_paths.proofs.Flags.{border_node}
use Rattle.theory_paths.specs.Profiles.{Profile, StartsLeast, Toward}
use Rattle.theory_paths.proofs.Profiles.{profile_exact, toward_exact}
use Rattle.theory_paths.specs.Flags.{Border, flagged, EnoughFlags, TrueProfiles, Checked}
use Rattle.theory_paths.proofs.Flags.{checked_exact}
use Rattle.theory_paths.specs.Least.{Travels, Modest, Least, least_travel}
use Rattle.theory_paths.proofs.Least.{least_travels_lem}
use Rattle.theory_paths.proofs.Least.{least_true, least_known}
use Rattle.theory_paths.specs.Settled.{gives_ticks}
use Rattle.theory_paths.proofs.Settled.{gives_now}
use Rattle.theory_paths.specs.Planned.{starts_at, starts, Borders, inside, leads_to, planned, Flagged, Starts, Earns}

module _ {g : Graph} (m : Modest g) {b : ℕ} {T : Travels} (t : Least g b T) (a : ℕ) (l : a < g.arcs) where
  open g use {period, nodes, tail, head}

  ok : Lawful g
  ok = m.lawful

  leaves : ArcFrom g all (tail a) a
  leaves = record { listed = l; permitted = refl; leaves = refl }

  -- the tick of the period at which the arc ends
  abbrev end : ℕ → ℕ
  end x = ends g a x % period

  end_below : (x : ℕ) → end x < period
  end_below x = mod-lt (ends g a x) ok.positive

  -- a path on from there, driven from the day on which the arc ends
  onward : (x : ℕ) (w : List ℕ) → driven g (a ∷ w) x + end x ≡ driven g w (end x) + ends g a x
  onward x w = omega (arith, driven_mod g w (ends g a x), mod-add-div' (ends g a x) period)

  gives_starts : (x : ℕ) → x < period → gives_ticks g T a x ≡ T (tail a) x → StartsLeast g all a (tail a) x b
  gives_starts x h q =
      let d = t.at (tail a) x (ok.tails a l) h in
      let r = (t.at (head a) (end x) (ok.heads a l) (end_below x)).travel
      (omega (arith, gives_now g T a x h, arc_takes ok x leaves, d.capped)) in
      record {
        from = leaves;
        rest = r.path;
        leads = r.leads;
        least = λ w i. omega (arith, d.least w i, gives_now g T a x h, r.at, onward x r.path);
      }

  -- no arc gives less than its tail's number
  pub gives_no_less : (x : ℕ) → x < period → T (tail a) x ≤ gives_ticks g T a x
  gives_no_less x h =
      let d = t.at (tail a) x (ok.tails a l) h in
      elim (dec_lt (gives_ticks g T a x) never) [
        | yes q ↦
            let e = t.at (head a) (end x) (ok.heads a l) (end_below x) in
            let r = e.travel (omega (arith, gives_now g T a x h, arc_takes ok x leaves)) in
            omega (
              arith,
              d.least (a ∷ r.path) (step leaves r.leads),
              r.at,
              onward x r.path,
              gives_now g T a x h,
            )
        | no q ↦ omega (arith, d.capped)
      ]

  starts_gives : (x : ℕ) → x < period → StartsLeast g all a (tail a) x b → gives_ticks g T a x ≡ T (tail a) x
  starts_gives x h s =
      let d = t.at (tail a) x (ok.tails a l) h in
      let e = t.at (head a) (end x) (ok.heads a l) (end_below x) in
      let p = d.travel
      (least_known m b t (tail a) x (ok.tails a l) h
      (record { path = a ∷ s.rest; leads = step leaves s.leads })) in
      let q = e.travel
      (least_known m b t (head a) (end x) (ok.heads a l) (end_below x)
      (record { path = s.rest; leads = s.leads })) in
      le_antisymm
      (omega (
        arith,
        s.least p.path p.leads,
        p.at,
        e.least s.rest s.leads,
        onward x s.rest,
        gives_now g T a x h,
      ))
      (omega (
        arith,
        d.least (a ∷ q.path) (step leaves q.leads),
        q.at,
        onward x q.path,
        gives_now g T a x h,
      ))

  -- the test is exactly that the arc starts a least path at some tick
  pub starts_exactly : (starts g T a ≡ true) ↔ Starts g a b
  unfolding starts_at
  starts_exactly = (
    λ e. let (x, h, q) = any_found _ period e in
        (x, h, gives_starts x h (eqb-true (gives_ticks g T a x) (T (tail a) x) q)),
    λ (x, h, s). yes_any (starts_at g T a) period x h
        (eq-eqb (gives_ticks g T a x) (T (tail a) x) (starts_gives x h s)),
  )

either : (s t : Bool) → ((s || t) ≡ true) ↔ ((s ≡ true) ⊎ (t ≡ true))
either true t = (λ e. inl refl, λ e. refl)
either false t = (λ e. inr e, λ e. elim e [ inl z ↦ absurd (true≢false (sym z)) | inr z ↦ z ])

module _ {g : Graph} (m : Modest g) (cell : ℕ → ℕ) {n : ℕ} {border : ℕ → ℕ} (k : Borders g cell n border)
  where
    inside_exactly : (a c : ℕ)
        → (inside g cell a c ≡ true) ↔ ((cell (g.tail a) ≡ c) × (cell (g.head a) ≡ c))
    inside_exactly a c = (
      λ e. let (p, q) = (and-eq-true_iff _ _).0 e in (eqb-true _ _ p, eqb-true _ _ q),
      λ e. (and-eq-true_iff _ _).1 (eq-eqb _ _ e.0, eq-eqb _ _ e.1),
    )

    leads_exactly : (a c : ℕ) → a < g.arcs
        → (any n (leads_to g cell border a c) ≡ true)
        ↔ ((b : ℕ) × Border g cell b × (cell b ≡ c) × Starts g a b)
    leads_exactly a c l = (
      λ e.
          let (i, h, q) = any_found _ n e in
          let (r, s) = (and-eq-true_iff _ _).0 q in
          (border i, k.is i h, eqb-true _ _ r, (starts_exactly m (least_travels_lem m (border i)) a l).0 s),
      λ (b, h, e, s).
          let (i, j, q) = k.number b h in
          yes_any _ n i j
          ((and-eq-true_iff _ _).1
          (eq-eqb _ _ (ap cell q ∙ e), (starts_exactly m (least_travels_lem m (border i)) a l).1 (rw q s))),
    )

    -- the flag is as wish 1 words it
    pub planned_exactly : (a c : ℕ) → a < g.arcs → (planned g cell n border a c ≡ true) ↔ Earns g cell a c
    unfolding planned
    planned_exactly a c l = (
      λ e. elim ((either (inside g cell a c) (any n (leads_to g cell border a c))).0 e)
          [ inl z ↦ inl ((inside_exactly a c).0 z) | inr z ↦ inr ((leads_exactly a c l).0 z) ],
      λ r. (either (inside g cell a c) (any n (leads_to g cell border a c))).1
          (elim r [ inl z ↦ inl ((inside_exactly a c).1 z) | inr z ↦ inr ((leads_exactly a c l).1 z) ]),
    )

    -- such flags are enough
    module _ {flag : ℕ → ℕ → Bool} (f : Flagged g cell n border flag) where
      flag_earned : (a v : ℕ) → a < g.arcs → v < g.nodes → Earns g cell a (cell v) → flag a (cell v) ≡ true
      flag_earned a v l n e = f.same a v l n ∙ (planned_exactly a (cell v) l).1 e

      flag_toward : (b : ℕ) → Border g cell b → Toward g (flagged flag (cell b)) b
      flag_toward b h u x n l ne r =
          let j = border_node m.lawful cell h in
          let t = least_true m b (least_travels_lem m b) in
          let (a, s) =
          (toward_exact m.lawful (least_travel g b) all t).0
          ((profile_exact m.lawful (least_travel g b) b j).1 t).attained u x n l ne r in
          let q = flag_earned a b s.from.listed j (inr (b, h, refl, (x, l, rw s.from.leaves s))) in (
            a,
            record {
              from = record { listed = s.from.listed; permitted = q; leaves = s.from.leaves };
              rest =
                  s.rest;
              leads = s.leads;
              least = s.least;
            },
          )

      pub planned_enough : EnoughFlags g cell flag
      planned_enough = record {
        inside = λ a c l p q.
            rw p at (flag_earned a (g.tail a) l (m.lawful.tails a l) (inl (refl, q ∙ sym p)));
        toward = flag_toward;
      }

      pub planned_checked : (D : ℕ → Profile) → TrueProfiles g cell D → Checked g cell flag D
      planned_checked D t = (checked_exact m.lawful cell flag D).1 (t, planned_enough)

-- FOR A LOOP over the borders, in which t is what the test at border number i answered
module _ (g : Graph) (cell : ℕ → ℕ) (border : ℕ → ℕ) (a c : ℕ) where
  or_none : (t : Bool) → t || false ≡ t
  or_none true = refl
  or_none false = refl

  or_swap : (r s t : Bool) → r || (s || t) ≡ (r || s) || t
  or_swap true s t = refl
  or_swap false s t = refl

  pub planned_none : planned g cell 0 border a c ≡ inside g cell a c
  unfolding planned
  planned_none = rw (any_none (leads_to g cell border a c)) (or_none (inside g cell a c))

  pub planned_more : (i : ℕ)
      → planned g cell (i + 1) border a c ≡ planned g cell i border a c || leads_to g cell border a c i
  unfolding planned
  planned_more i =
      rw (any_more i (leads_to g cell border a c))
      (or_swap (inside g cell a c) (any i (leads_to g cell border a c)) (leads_to g cell border a c i))
