-- A day's runs, filled point by point: the runs before point k are the day's, the last of them open, and the
-- line from point k to the next gives those up to the next. The laws know the points as functions, so that
-- whoever reads them in place has them.
use mathlib.Core.{Path.◌≡◌, Path.sym, List.List}
use Rattle.std.specs.Prelude.{ℕ, ◌+◌, ◌≤◌, ◌<◌, length, get_or}
use Rattle.std.proofs.Common.{arith}
use Rattle.theory_travel.specs.Day.{Day, day_value}
use Rattle.theory_travel.specs.Pieces.{line_at, tick_first, tick_below, tick_rises, piece_next, piece_last}
use Rattle.day_slopes.specs.Runs.{Runs, Pending, runs_none, runs_open, runs_few}
use Rattle.day_slopes.specs.Held.{Added, Held, Room, Leading}

-- lists with room for the runs of any day of this period
pub record Space (starts values : List ℕ) (period : ℕ) : Type 0 where
  pub short : period ≤ 65535
  pub in_s : period < length starts
  pub in_v : period ≤ length values

-- c runs, and an open one up to tick a, which is that of point k, with value p
pub record Filling (t v : ℕ → ℕ) (n period : ℕ) (starts values : List ℕ) (c k a p : ℕ) : Type 0 where
  pub tick : a ≡ t k
  pub value : p ≡ v k
  pub runs : Pending starts values c a p (day_value t v n period)

pub space_on : {s vs s' vs' : List ℕ} {c m a p b q period : ℕ} {g : ℕ → ℕ} → Space s vs period
    → Held s vs s' vs' c m a p b q g → Space s' vs' period
space_on h e =
    record {
      short =
          h.short;
      in_s = omega (arith, h.in_s, e.long_s);
      in_v = omega (arith, h.in_v, e.long_v);
    }

module _ {t : ℕ → ℕ} {n period : ℕ} (d : Day t n period) (v : ℕ → ℕ) where
  pub filling_start : {s vs : List ℕ} (p : ℕ) → get_or s 0 0 ≡ 0 → p ≡ v 0 → Filling t v n period s vs 0 0 0 p
  filling_start {s} {vs} p e g =
      record { tick = tick_first d; value = g; runs = runs_open _ p (runs_none _ s vs e) }

  module _ {s vs : List ℕ} {c k a p : ℕ} (f : Filling t v n period s vs c k a p) where
    -- there is room for the line to the next point, and for the one to the next day's first
    pub room_next : (b : ℕ) → Space s vs period → b ≡ t (k + 1) → k + 1 < n → Room s vs c a b
    room_next b h e l =
        let m : b < period = tick_below d (k + 1) b e l in
        record {
          apart = tick_rises d k a f.tick b e l;
          few = omega (arith, runs_few f.runs.runs.grid, f.runs.upto);
          last = omega (arith, h.short);
          in_s = omega (arith, h.in_s);
          in_v = omega (arith, h.in_v);
        }

    pub room_last : Space s vs period → k < n → Room s vs c a period
    room_last h l = record {
      apart = tick_below d k a f.tick l;
      few = omega (arith, runs_few f.runs.runs.grid, f.runs.upto);
      last = h.short;
      in_s = h.in_s;
      in_v = h.in_v;
    }

    pub filling_next : {s' vs' : List ℕ} {m b q : ℕ} → Held s vs s' vs' c m a p b q (line_at a p b q)
        → b ≡ t (k + 1) → q ≡ v (k + 1) → k + 1 < n → Filling t v n period s' vs' m (k + 1) b q
    filling_next {b = b} {q = q} more h i l = record {
      tick = h;
      value = i;
      runs =
          more.runs _ f.runs
          (λ y lo hi. sym (piece_next d v k a p b q f.tick f.value h i l y lo hi));
    }

    -- the last piece, after which the day ends
    module _ {b q : ℕ} (h : b ≡ period) (i : q ≡ v 0) (l : k < n) (o : n ≤ k + 1) where
      line_last : (y : ℕ) → a ≤ y → y < b → day_value t v n period y ≡ line_at a p b q y
      line_last y lo hi = sym (piece_last d v k a p b q f.tick f.value h i l o y lo hi)

      pub filling_leads : Leading s vs c a p b (line_at a p b q)
      filling_leads = record { day = day_value t v n period; runs = f.runs; on = line_last }

      pub filling_last : {s' vs' : List ℕ} {m : ℕ} → Added s vs s' vs' c m a p b (line_at a p b q)
          → Runs s' vs' m b (day_value t v n period)
      filling_last more = more.runs _ f.runs line_last
