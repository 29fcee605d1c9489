-- Driving along a path: a later departure never ends earlier (`later`), waiting never helps (`waiting`), and
-- k periods later everything ends k periods later (`driven_shift`). Also: a path takes a tick at least for
-- each arc, paths join, and a permitted path is a path.
use mathlib.Core.{Path.◌≡◌, Path.refl, Path.sym, Path.◌∙◌, Path.ap, Logic.◌↔◌}
use Rattle.std.specs.Prelude.{List, [], ◌∷◌, ◌++◌, ℕ, ◌+◌, ◌*◌, ◌/◌, ◌%◌, ◌≤◌, ◌<◌, length}
use Rattle.std.proofs.Common.{le_refl, le_trans, mod-lt}
use Rattle.std.proofs.Math.Nat.{add-mul-mod_self_right, mod-add-div'}
use native.Mathlib.Omega.{arith}
use Rattle.theory_paths.specs.Graph.{
  Graph,
  Lawful,
  Bounded,
  ends,
  Permit,
  all,
  ArcFrom,
  IsPath,
  stop,
  step,
  driven,
  waited,
  Arrival,
  EarliestArrival,
  Reachable,
}

module _ (g : Graph) where
  -- k periods later an arc ends k periods later, and so does a path
  pub ends_shift : (a x k : ℕ) → ends g a (x + k * g.period) ≡ ends g a x + k * g.period
  unfolding ends
  ends_shift a x k = rw (add-mul-mod_self_right x k g.period) (omega arith)

  pub driven_shift : (w : List ℕ) (x k : ℕ) → driven g w (x + k * g.period) ≡ driven g w x + k * g.period
  driven_shift [] x k = refl
  driven_shift (a ∷ w) x k = rw (ends_shift a x k) (driven_shift w (ends g a x) k)

  -- so a path's travel is known from the tick within the period
  pub driven_mod : (w : List ℕ) (x : ℕ)
      → driven g w x ≡ driven g w (x % g.period) + x / g.period * g.period
  driven_mod w x =
      ap (driven g w) (sym (mod-add-div' x g.period)) ∙ driven_shift w (x % g.period) (x / g.period)

  pub driven_append : (v w : List ℕ) (x : ℕ) → driven g (v ++ w) x ≡ driven g w (driven g v x)
  driven_append [] w x = refl
  driven_append (a ∷ v) w x = driven_append v w (ends g a x)

module _ {g : Graph} {p : Permit} where
  pub arrival_start : {s x : ℕ} → Arrival g p s x s x
  arrival_start = record { path = []; leads = stop refl; at = refl }

  pub arc_all : {u a : ℕ} → ArcFrom g p u a → ArcFrom g all u a
  arc_all f = record { listed = f.listed; permitted = refl; leaves = f.leaves }

  pub path_all : {s t : ℕ} {w : List ℕ} → IsPath g p s t w → IsPath g all s t w
  path_all (stop e) = stop e
  path_all (step f i) = step (arc_all f) (path_all i)

  pub path_append : {s u t : ℕ} {v w : List ℕ} → IsPath g p s u v → IsPath g p u t w → IsPath g p s t (v ++ w)
  path_append (stop e) j = rw e j
  path_append (step f i) j = step f (path_append i j)

  -- an arrival, and one arc more
  pub arrival_then : {s x u b a : ℕ} → Arrival g p s x u b → ArcFrom g p u a
      → Arrival g p s x (g.head a) (ends g a b)
  arrival_then {x = x} {a = a} r f = record {
    path = r.path ++ a ∷ [];
    leads = path_append r.leads (step f (stop refl));
    at = driven_append g r.path (a ∷ []) x ∙ ap (ends g a) r.at;
  }

  pub arrival_reach : {s x t b : ℕ} → Arrival g p s x t b → Reachable g p s t
  arrival_reach r = record { path = r.path; leads = r.leads }

  pub earliest_le : {s x t b c : ℕ} → EarliestArrival g p s x t b → Arrival g p s x t c → b ≤ c
  earliest_le e r = omega (arith, e.least r.path r.leads, r.at)

  -- where from y every path ends later than from x, or earlier, by the same, so does the earliest arrival
  pub earliest_move : {s x y t b c : ℕ} → ((w : List ℕ) → driven g w y + b ≡ driven g w x + c)
      → EarliestArrival g p s x t b → EarliestArrival g p s y t c
  earliest_move m e =
      let r = e.arrival in
      record {
        arrival = record { path = r.path; leads = r.leads; at = omega (arith, m r.path, r.at) };
        least = λ w i. omega (arith, m w, e.least w i);
      }

  -- k periods later the earliest arrival is k periods later
  pub earliest_shift : {s x t b : ℕ} (k : ℕ)
      → EarliestArrival g p s x t b ↔ EarliestArrival g p s (x + k * g.period) t (b + k * g.period)
  earliest_shift {x = x} k = (
    earliest_move (λ w. omega (arith, driven_shift g w x k)),
    earliest_move (λ w. omega (arith, driven_shift g w x k)),
  )

  module _ (ok : Lawful g) where
    pub arc_node : {u a : ℕ} → ArcFrom g p u a → u < g.nodes
    arc_node {a = a} f = rw f.leaves at (ok.tails a f.listed)

    pub arc_takes : {u a : ℕ} (x : ℕ) → ArcFrom g p u a → x < ends g a x
    unfolding ends
    arc_takes {a = a} x f = omega (arith, ok.takes a (x % g.period) f.listed (mod-lt x ok.positive))

    pub arc_ends : {most : ℕ} → Bounded g most → {u a : ℕ} (x : ℕ) → ArcFrom g p u a → ends g a x ≤ x + most
    unfolding ends
    arc_ends b {a = a} x f = omega (arith, b a (x % g.period) f.listed (mod-lt x ok.positive))

    pub path_takes : {s t : ℕ} {w : List ℕ} (x : ℕ) → IsPath g p s t w → x + length w ≤ driven g w x
    path_takes x (stop e) = omega arith
    path_takes x (step {a = a} f i) = omega (arith, arc_takes x f, path_takes (ends g a x) i)

    pub path_bound : {most : ℕ} → Bounded g most → {s t : ℕ} {w : List ℕ} (x : ℕ) → IsPath g p s t w
        → driven g w x ≤ x + length w * most
    unfolding ends
    path_bound b x (stop e) = omega arith
    path_bound b x (step {a = a} f i) =
        omega (arith, b a (x % g.period) f.listed (mod-lt x ok.positive), path_bound b (ends g a x) i)

    -- later departure never ends earlier
    pub later : {s t x y : ℕ} {w : List ℕ} → IsPath g p s t w → x ≤ y → driven g w x ≤ driven g w y
    later (stop e) h = h
    later (step {a = a} f i) h = later i (ok.fifo a f.listed h)

    -- waiting never helps
    pub waiting : {s t : ℕ} {w : List ℕ} (x : ℕ) (ds : List ℕ) → IsPath g p s t w
        → driven g w x ≤ waited g w ds x
    waiting x ds (stop e) = le_refl _
    waiting x [] (step {a = a} f i) = waiting (ends g a x) [] i
    waiting x (d ∷ ds) (step {a = a} f i) =
        le_trans (later i (ok.fifo a f.listed (omega arith))) (waiting (ends g a (x + d)) ds i)

    pub earliest_waiting : {s x t b : ℕ} {w : List ℕ} (ds : List ℕ) → EarliestArrival g p s x t b
        → IsPath g p s t w → b ≤ waited g w ds x
    earliest_waiting {x = x} {w = w} ds e i = le_trans (e.least w i) (waiting x ds i)

    pub earliest_later : {s x y t b c : ℕ} → x ≤ y → EarliestArrival g p s x t b
        → EarliestArrival g p s y t c → b ≤ c
    earliest_later h e f = let r = f.arrival in
        omega (arith, e.least r.path r.leads, later r.leads h, r.at)
