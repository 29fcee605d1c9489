-- What a byte tells of a travel over the day: from 128 on that it is the same at every tick, the byte less
-- 128, and else a number that it is never below.
use mathlib.Core.{Path.◌≡◌, List.List}
use Rattle.std.specs.Prelude.{ℕ, ◌+◌, ◌-◌, ◌%◌, ◌≤◌, ◌<◌}
use native.Mathlib.{Decide.ℕ_discrete, Omega.arith}
use lib.{ListN.length, ListN.get_or, ListN.set, ListN.length-set, Seq.get_or-set_same, Seq.get_or-set_other}
use Rattle.network.specs.{Network.Network, Network.start, Town.travel_at}
use Rattle.day_slopes.specs.Runs.{Runs, Short, runs_none, runs_put}
use Rattle.day_runs.specs.Bounds.{Floor, Ceiling}

-- THE BYTE b of a travel f
pub record Brief (f : ℕ → ℕ) (period b : ℕ) : Type 0 where
  pub floor : Floor f period (b % 128)
  pub steady : 128 ≤ b → (x : ℕ) → x < period → f x ≡ b - 128

-- those of the first n arcs
pub record Briefs (net : Network) (period n : ℕ) (briefs : List ℕ) : Type 0 where
  pub at : (a : ℕ) → a < n → Brief (travel_at net a) period (get_or briefs a 0)

-- the table of where the points of the first n arcs start
pub record Pointed (net : Network) (n : ℕ) (points : List ℕ) : Type 0 where
  pub at : (a : ℕ) → a < n → get_or points a 0 ≡ start net a

-- the byte of what lies between two numbers
pub record Between (low high b : ℕ) : Type 0 where
  pub least : b % 128 ≤ low
  pub below : 128 ≤ b → b - 128 ≤ low
  pub above : 128 ≤ b → high ≤ b - 128

pub brief_between : {f : ℕ → ℕ} {period low high b : ℕ} → Between low high b → Floor f period low
    → Ceiling f period high → Brief f period b
brief_between h l m = record {
  floor = record { least = λ x o. omega (arith, h.least, l.least x o) };
  steady = λ s x o. omega (arith, h.below s, h.above s, l.least x o, m.most x o);
}

-- FOR CODE that has read the number which the travel is never below
pub brief_floor : {f : ℕ → ℕ} {period b r : ℕ} → Brief f period b → r ≡ b % 128 → Floor f period r
brief_floor h e = rw e h.floor

-- FOR CODE that notes byte after byte
module _ {net : Network} {period : ℕ} where
  pub briefs_none : (briefs : List ℕ) → Briefs net period 0 briefs
  briefs_none briefs = record { at = λ a h. absurd (omega arith) }

  pub briefs_more : {n : ℕ} {briefs : List ℕ} (b : ℕ) → Briefs net period n briefs → n < length briefs
      → Brief (travel_at net n) period b → Briefs net period (n + 1) (set briefs n b)
  briefs_more {n} {briefs} b h o f = record {
    at = λ a k. elim (ℕ_discrete a n) [
      | yes q ↦ rw (q, get_or-set_same briefs n b 0 o) f
      | no q ↦ rw (get_or-set_other briefs n a b 0 q) (h.at a (omega arith))
    ];
  }

-- FOR CODE that puts the one run of a travel that is the same all day
module _ {f : ℕ → ℕ} {period b : ℕ} (h : Brief f period b) (s : 128 ≤ b) (some : 0 < period)
    (starts travels : List ℕ) (in_s : 1 < length starts) (in_v : 0 < length travels) where
  pub steady_runs : {starts' travels' : List ℕ} → starts' ≡ set (set starts 0 0) 1 period
      → travels' ≡ set travels 0 (b - 128) → Runs starts' travels' 1 period f
  steady_runs es ev =
      rw (es, ev)
      (runs_put f (set starts 0 0) travels 0 0 period (b - 128) some (omega (arith, length-set starts 0 0))
      in_v
      (runs_none f (set starts 0 0) travels (get_or-set_same starts 0 0 0 (omega arith)))
      (λ y lo hi. h.steady s y hi))

  pub steady_short : {travels' : List ℕ} → travels' ≡ set travels 0 (b - 128)
      → ((x : ℕ) → x < period → f x ≤ period) → Short travels' 1 period
  steady_short ev most = record {
    most = λ i o.
        let z : i ≡ 0 = omega arith in
        rw (z, ev, get_or-set_same travels 0 (b - 128) 0 in_v) (omega (arith, h.steady s 0 some, most 0 some));
  }
