-- Numbers for the travels to a node b that are worked out backwards from b: each is some path's (`Sound`),
-- and no arc gives less than its tail's number (`Settled`), or only what is not wanted: a number that is not
-- below some bar. Numbers up to the bar are the least travels then (`settled_least`), in whatever order they
-- were worked out.
use mathlib.Core.{Path.◌≡◌, Path.refl, Logic.◌≢◌, List.List, List.[], List.◌∷◌}
use Rattle.std.specs.Prelude.{ℕ, ◌+◌, ◌%◌, ◌≤◌, ◌<◌, min}
use native.Mathlib.{Nat.mod-lt, Nat.mod-eq_of_lt, Nat.mod-add-mod, Nat.mod-add-div', Omega.arith}
use Rattle.std.proofs.Math.Decide.{ℕ_discrete, dec_lt}
use Rattle.theory_paths.specs.Graph.{Graph, Lawful, ends, all, ArcFrom, IsPath, stop, step, driven}
use Rattle.theory_paths.specs.{Graph.Arrival, Earliest.never}
use Rattle.theory_paths.proofs.Drive.{driven_mod, arc_takes}
use Rattle.theory_paths.specs.Least.{Travels, IsLeast}
use Rattle.theory_paths.specs.Settled.{gives_ticks, Sound, Settled}

-- what an arc gives, at any tick
pub gives_at : (g : Graph) (T : Travels) (a x : ℕ)
    → x + gives_ticks g T a (x % g.period) ≡ ends g a x + T (g.head a) (ends g a x % g.period)
unfolding ends gives_ticks
gives_at g T a x = rw (mod-add-mod x g.period (g.travel a (x % g.period))) (omega arith)

pub gives_now : (g : Graph) (T : Travels) (a x : ℕ) → x < g.period
    → x + gives_ticks g T a x ≡ ends g a x + T (g.head a) (ends g a x % g.period)
gives_now g T a x h = rw (mod-eq_of_lt h) at (gives_at g T a x)

module _ {g : Graph} (ok : Lawful g) where
  open g use {period, nodes, arcs, tail, head, travel}

  below : (x : ℕ) → x % period < period
  below x = mod-lt x ok.positive

  -- the path of a number, at any tick
  sound_any : {b : ℕ} {T : Travels} → Sound g b T → (u x : ℕ) → u < nodes → T u (x % period) < never
      → Arrival g all u x b (x + T u (x % period))
  sound_any {T = T} s u x n l =
      let r = s.travel u (x % period) n (below x) l in
      record {
        path = r.path;
        leads = r.leads;
        at =
            omega (arith, driven_mod g r.path x, mod-add-div' x period, r.at);
      }

  module _ {b : ℕ} {T : Travels} (s : Sound g b T) where
    -- SETTLED: no path takes less than the number, or less than the bar
    module _ {bar : ℕ} (t : Settled g b bar T) where
      settled_under : {u : ℕ} {w : List ℕ} (x : ℕ) → IsPath g all u b w
          → x + min bar (T u (x % period)) ≤ driven g w x
      settled_under x (stop e) = rw (e, t.home (x % period) (below x)) (omega arith)
      settled_under x (step {a = a} f i) =
          rw (← f.leaves)
          (elim (dec_lt (gives_ticks g T a (x % period)) bar) [
            | yes l ↦ omega (
              arith,
              gives_at g T a x,
              arc_takes ok x f,
              t.no_less a (x % period) f.listed (below x) l,
              settled_under (ends g a x) i,
            )
            | no l ↦ omega (arith, gives_at g T a x, arc_takes ok x f, settled_under (ends g a x) i)
          ])

      pub settled_least : (u x : ℕ) → u < nodes → x < period → T u x ≤ bar → IsLeast g b u x (T u x)
      settled_least u x n h l = record {
        capped = s.capped u x n h;
        travel = s.travel u x n h;
        least = λ w i. let k = rw (mod-eq_of_lt h) at (settled_under x i) in omega arith;
      }

    -- what an arc gives is a path's, where it is a number
    pub arc_path : (a x : ℕ) → a < arcs → x < period → gives_ticks g T a x < never
        → Arrival g all (tail a) x b (x + gives_ticks g T a x)
    arc_path a x l h q =
        let f : ArcFrom g all (tail a) a = record { listed = l; permitted = refl; leaves = refl } in
        let r = sound_any s (head a) (ends g a x) (ok.heads a l)
        (omega (arith, gives_now g T a x h, arc_takes ok x f)) in
        record {
          path = a ∷ r.path;
          leads = step f r.leads;
          at =
              omega (arith, r.at, gives_now g T a x h);
        }

module _ {g : Graph} {b : ℕ} {T : Travels} where
  -- THE FIRST TABLE: 0 at b, and never elsewhere
  module _ (home : (x : ℕ) → x < g.period → T b x ≡ 0)
      (away : (u x : ℕ) → u < g.nodes → x < g.period → u ≢ b → T u x ≡ never) where
    pub first_sound : Sound g b T
    first_sound = record {
      capped = λ u x n h. go u x n h (ℕ_discrete u b);
      travel = λ u x n h l. at u x n h l (ℕ_discrete u b);
    }
      where
        go : (u x : ℕ) → u < g.nodes → x < g.period → Dec (u ≡ b) → T u x ≤ never
        go u x n h (yes e) = rw e (omega (arith, home x h))
        go u x n h (no e) = omega (arith, away u x n h e)

        at : (u x : ℕ) → u < g.nodes → x < g.period → T u x < never → Dec (u ≡ b)
            → Arrival g all u x b (x + T u x)
        at u x n h l (yes e) = record { path = []; leads = stop e; at = rw e (omega (arith, home x h)) }
        at u x n h l (no e) = absurd (omega (arith, away u x n h e))
