-- What the code that judges a node rests on: the runs of the node's own profile, the least values of the
-- border's profiles, and room for the runs of an arc and of its head.
use mathlib.Core.{Path.◌≡◌, Path.◌∙◌, Path.subst, Logic.◌≢◌, List.List}
use Rattle.std.specs.Prelude.{ℕ, ◌+◌, ◌*◌, ◌≤◌, ◌<◌}
use native.Mathlib.{Decide.ℕ_discrete, Omega.arith}
use mir.{Val.Fits, Syntax.w64}
use lib.{ListN.length, ListN.get_or, ListN.set, Seq.get_or-set_same, Seq.get_or-set_other}
use Rattle.network.specs.Limits.{most_nodes, most_arcs}
use Rattle.plan.specs.declared.header.PlanLayout.{PlanLayout}
use Rattle.plan.specs.{Plan.point_count, PlanDecode.decode_plan}
use Rattle.plan_tests.specs.declared.tests.{Layouts.Layouts, Target.Target}
use Rattle.plan_tests.specs.Checkable.{Checkable}
use Rattle.day_slopes.specs.Runs.{Grid, Runs, runs_few}
use Rattle.day_runs.specs.{Filling.Space, Bounds.Floor, Bounds.Ceiling}
use Rattle.day_walk.specs.Walk.{Listed}
use Rattle.profile_runs.specs.Numbers.{number_at}
use Rattle.node_runs.specs.declared.Profile.{Profile}
use Rattle.node_runs.specs.Adds.{numbers_of}

-- the profile of node u has points, and is never above a number
pub record Topped (plan : List ℕ) (l : Layouts) (b : Target) (u top : ℕ) : Type 0 where
  pub some : 0 < point_count (decode_plan plan) (b.number * l.plan.nodes + u)
  pub most : Ceiling (numbers_of plan l b u) l.network.period top

-- profile k as its runs, and a number that it is never above
pub record Opened (plan : List ℕ) (l : PlanLayout) (k : ℕ) (so vo : List ℕ) (own : Profile) : Type 0 where
  pub runs : Runs so vo own.runs l.period (number_at l.period (decode_plan plan) k)
  pub most : Ceiling (number_at l.period (decode_plan plan) k) l.period own.top

-- both for node u, in lists with room
pub record Own (plan : List ℕ) (l : Layouts) (b : Target) (u : ℕ) (so vo : List ℕ) (own : Profile)
    : Type 0 where
  pub topped : Topped plan l b u own.top
  pub runs : Runs so vo own.runs l.network.period (numbers_of plan l b u)
  pub in_s : l.network.period < length so
  pub in_v : l.network.period ≤ length vo

-- for a node that goes by another name
pub own_at : {plan : List ℕ} {l : Layouts} {b : Target} {t u : ℕ} {so vo : List ℕ} {own : Profile} → t ≡ u
    → Own plan l b u so vo own → Own plan l b t so vo own
own_at e o = rw e o

-- room for the runs of an arc and of its head, and a byte for each tick
pub record Rooms (period : ℕ) (sa va sh vh marks : List ℕ) : Type 0 where
  pub arc_s : period < length sa
  pub arc_v : period ≤ length va
  pub head_s : period < length sh
  pub head_v : period ≤ length vh
  pub bytes : period ≤ length marks

-- no tick has a bit
pub record Blank (period : ℕ) (marks : List ℕ) : Type 0 where
  pub none : (x : ℕ) → x < period → get_or marks x 0 ≡ 0

-- the lists of room are as long as they were
pub record Stays (sa va sh vh marks sa' va' sh' vh' marks' : List ℕ) : Type 0 where
  pub arc_s : length sa' ≡ length sa
  pub arc_v : length va' ≡ length va
  pub head_s : length sh' ≡ length sh
  pub head_v : length vh' ≡ length vh
  pub bytes : length marks' ≡ length marks

-- profile k is never below twice the number, where it has points
pub record Low (plan : List ℕ) (l : PlanLayout) (k m : ℕ) : Type 0 where
  pub floor : 0 < point_count (decode_plan plan) k
      → Floor (number_at l.period (decode_plan plan) k) l.period (2 * m)

-- half, rounded down, of a number that it is never below
pub low_less : {plan : List ℕ} {l : PlanLayout} {k m r : ℕ}
    → Floor (number_at l.period (decode_plan plan) k) l.period m → 2 * r ≤ m → Low plan l k r
low_less h o = record { floor = λ _. record { least = λ x i. omega (arith, h.least x i) } }

-- such numbers for the first n nodes, towards border number i
pub record Lows (plan : List ℕ) (l : PlanLayout) (i n : ℕ) (lows : List ℕ) : Type 0 where
  pub at : (u : ℕ) → u < n → Low plan l (i * l.nodes + u) (get_or lows u 0)

module _ {plan : List ℕ} {l : PlanLayout} (i : ℕ) where
  pub lows_none : (lows : List ℕ) → Lows plan l i 0 lows
  lows_none lows = record { at = λ u h. absurd (omega arith) }

  pub lows_more : {n : ℕ} {lows : List ℕ} (m : ℕ) → Lows plan l i n lows → n < length lows
      → Low plan l (i * l.nodes + n) m → Lows plan l i (n + 1) (set lows n m)
  lows_more {n} {lows} m h o f = record {
    at = λ u k. elim (ℕ_discrete u n) [
      | yes q ↦ rw (q, get_or-set_same lows n m 0 o) f
      | no q ↦ rw (get_or-set_other lows n u m 0 q) (h.at u (omega arith))
    ];
  }

-- marks taken off, one after the other
module _ {marks : List ℕ} where
  pub blank_none : Blank 0 marks
  blank_none = record { none = λ x h. absurd (omega arith) }

  pub blank_more : {k : ℕ} → Blank k marks → k < length marks → Blank (k + 1) (set marks k 0)
  blank_more {k} h o = record {
    none = λ x l. elim (ℕ_discrete x k) [
      | yes q ↦ rw q (get_or-set_same marks k 0 0 o)
      | no q ↦ get_or-set_other marks k x 0 0 q ∙ h.none x (omega arith)
    ];
  }

-- the plan's counts are the network's
module _ {network plan : List ℕ} {l : Layouts} (w : Checkable network plan l) where
  pub period_fits : l.network.period ≤ 65535
  period_fits = omega (arith, w.town.small.period_most)

  pub node_in : {u : ℕ} → u < l.network.nodes → u < l.plan.nodes
  node_in h = omega (arith, w.nodes)

  -- the place of an entry of two bytes
  pub node_place : {u : ℕ} → u < l.network.nodes → Fits w64 (u * 2) × (u < most_nodes)
  node_place h = let n = w.town.small.nodes_most in (omega arith, omega arith)

  pub arc_place : {a : ℕ} → a < l.network.arcs → Fits w64 (a * 2) × (a < most_arcs)
  arc_place h = let n = w.town.small.arcs_most in (omega arith, omega arith)

  pub period_in : {m : ℕ} → l.network.period ≤ m → l.plan.period ≤ m
  period_in h = omega (arith, w.period)

  pub blank_here : {marks : List ℕ} → Blank l.plan.period marks → Blank l.network.period marks
  blank_here {marks} b = subst (λ (k : ℕ). Blank k marks) w.period b

  pub grid_here : {s : List ℕ} {n : ℕ} → Grid s n l.plan.period → Grid s n l.network.period
  grid_here {s} {n} g = subst (λ (k : ℕ). Grid s n k) w.period g

  pub floor_here : {f : ℕ → ℕ} {m : ℕ} → Floor f l.plan.period m → Floor f l.network.period m
  floor_here {f} {m} r = subst (λ (k : ℕ). Floor f k m) w.period r

  -- room for the runs of a node's own profile, and these runs
  pub own_space : {so vo : List ℕ} → l.network.period < length so → l.network.period ≤ length vo
      → Space so vo l.plan.period
  own_space a b = record {
    short = omega (arith, period_fits, w.period);
    in_s = omega (arith, w.period);
    in_v = omega (arith, w.period);
  }

  pub own_here : {b : Target} {u m k : ℕ} {so vo : List ℕ} {own : Profile}
      → 0 < point_count (decode_plan plan) (b.number * l.plan.nodes + u)
      → Opened plan l.plan (b.number * l.plan.nodes + u) so vo own → length so ≡ m → length vo ≡ k
      → l.network.period < m → l.network.period ≤ k → Own plan l b u so vo own
  own_here {b} {u} {so = so} {vo = vo} {own = own} h o e f s v = record {
    topped = record {
      some = h;
      most = subst (λ (k : ℕ). Ceiling (numbers_of plan l b u) k own.top) w.period o.most;
    };
    runs = subst (λ (k : ℕ). Runs so vo own.runs k (numbers_of plan l b u)) w.period o.runs;
    in_s = omega (arith, e);
    in_v = omega (arith, f);
  }

  -- room for the runs of an arc, whose values are noted first in that of its head, and for its head's
  pub arc_space : {sa va sh vh marks : List ℕ} → Rooms l.network.period sa va sh vh marks
      → Space sa vh l.network.period
  arc_space r = record { short = period_fits; in_s = r.arc_s; in_v = r.head_v }

  pub head_space : {sa va sh vh marks vh' : List ℕ} → Rooms l.network.period sa va sh vh marks
      → length vh' ≡ length vh → Space sh vh' l.plan.period
  head_space r e = own_space r.head_s (omega (arith, r.head_v))

-- what a list has room for it has room for when it is as long as before
pub stays_in : {period m k : ℕ} → k ≡ m → period ≤ m → period ≤ k
stays_in e h = omega arith

-- points that were counted are some
pub counted : {k m : ℕ} → k ≡ m → k ≢ 0 → 0 < m
counted e h = omega (arith, h)

-- runs as they were filled can be read
module _ {s : List ℕ} {n period m : ℕ} (g : Grid s n period) where
  pub listed : length s ≡ m → period < m → Listed s n period
  listed e h = record { grid = g; long = omega (arith, runs_few g, e) }

  pub few : {k : ℕ} → k ≡ m → period ≤ m → n ≤ k
  few e h = omega (arith, runs_few g)

-- the lists stay as long once more
pub stays_on : {sa va sh vh marks sa' va' sh' vh' marks' sa'' va'' sh'' vh'' marks'' : List ℕ}
    → Stays sa va sh vh marks sa' va' sh' vh' marks' → length sa'' ≡ length sa' → length va'' ≡ length va'
    → length sh'' ≡ length sh' → length vh'' ≡ length vh' → length marks'' ≡ length marks'
    → Stays sa va sh vh marks sa'' va'' sh'' vh'' marks''
stays_on s a b c d e = record {
  arc_s = a ∙ s.arc_s;
  arc_v = b ∙ s.arc_v;
  head_s = c ∙ s.head_s;
  head_v = d ∙ s.head_v;
  bytes = e ∙ s.bytes;
}

-- room stays room
pub rooms_stay : {period : ℕ} {sa va sh vh marks old sa' va' sh' vh' marks' : List ℕ}
    → Rooms period sa va sh vh old → length marks ≡ length old
    → Stays sa va sh vh marks sa' va' sh' vh' marks' → Rooms period sa' va' sh' vh' marks'
rooms_stay r e s = record {
  arc_s = omega (arith, r.arc_s, s.arc_s);
  arc_v = omega (arith, r.arc_v, s.arc_v);
  head_s = omega (arith, r.head_s, s.head_s);
  head_v = omega (arith, r.head_v, s.head_v);
  bytes = omega (arith, r.bytes, s.bytes);
}
