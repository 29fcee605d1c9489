-- An arc lowered piece by piece, by its points as the file has them.
use mathlib.Core.{Path.◌≡◌, Path.sym, Path.◌∙◌, Bool.Bool, List.List}
use Rattle.std.specs.Prelude.{ℕ, ◌+◌, ◌≤◌, ◌<◌, get_or}
use native.Mathlib.{Omega.arith, Decide.dec_lt}
use Rattle.std.proofs.Math.ListN.{length}
use Rattle.theory_travel.specs.{Day.Day, Table.entry_at, Table.value_at, Pieces.line_at}
use Rattle.theory_travel.specs.Pieces.{tick_below, tick_rises, piece_next, piece_last}
use Rattle.network.specs.declared.header.Layout.{Layout}
use Rattle.network.specs.{Network.count, Network.start, Decode.decode, Town.travel_at, Limits.most_period}
use Rattle.search_chains.specs.Town.{Town}
use Rattle.search_arcs.specs.Times.{arc_points, arc_day}
use Rattle.toward_row.specs.Cut.{Cut, cut_as}
use Rattle.toward_row.specs.Lower.{always, lowered, offer, Capped, Known, Ready, lower_join, known_part}
use Rattle.travel_runs.specs.Runs.{value_flat}

-- A town, and the table of its arcs' first points.
pub record Primed (file : List ℕ) (l : Layout) (starts : List ℕ) : Type 0 where
  pub town : Town file l
  pub first : (a : ℕ) → a < l.arcs → get_or starts a 0 ≡ start (decode file) a

-- The lists hold an arc's points: a day's, with travels of at most the period.
pub record Arc (ticks travels : List ℕ) (from count period points : ℕ) : Type 0 where
  pub day : Day (entry_at ticks from) count period
  pub short : period ≤ most_period
  pub within : from + count ≤ points
  pub most : (i : ℕ) → i < count → entry_at travels from i ≤ period

module _ {ticks travels : List ℕ} {from count period points : ℕ}
    (arc : Arc ticks travels from count period points) where
  -- FOR THE LOOP over the points: a piece may be lowered
  module _ {first : Bool} {hs row : List ℕ} (capped : Capped hs period) (k a p b q : ℕ)
      (known : Known first row a period) (f : a ≡ entry_at ticks from k) (g : p ≡ entry_at travels from k)
      (l : period ≤ length row) where
    pub ready_next : b ≡ entry_at ticks from (k + 1) → q ≡ entry_at travels from (k + 1) → k + 1 < count
        → Ready first hs row period a p b q
    ready_next u z m = record {
      apart = tick_rises arc.day k a f b u m;
      within = omega (arith, tick_below arc.day (k + 1) b u m);
      short = arc.short;
      long = l;
      first_most = omega (arith, arc.most k (omega arith));
      last_most = omega (arith, arc.most (k + 1) m);
      capped = capped;
      known = known_part known (omega (arith, tick_below arc.day (k + 1) b u m));
    }

    pub ready_last : b ≡ period → q ≡ entry_at travels from 0 → k < count → Ready first hs row period a p b q
    ready_last u z m = record {
      apart = omega (arith, tick_below arc.day k a f m);
      within = omega arith;
      short = arc.short;
      long = l;
      first_most = omega (arith, arc.most k m);
      last_most = omega (arith, arc.most 0 (omega arith));
      capped = capped;
      known = known_part known (omega arith);
    }

  module _ {first : Bool} (h : ℕ → ℕ) (old mid new : List ℕ) (k a p b q i j : ℕ)
      (w : Cut first 0 a (lowered first (value_at ticks travels from count period) h period old) old mid i)
      (n : Cut first a b (lowered first (line_at a p b q) h period mid) mid new j)
      (f : a ≡ entry_at ticks from k) (g : p ≡ entry_at travels from k) where
    pub arc_next : b ≡ entry_at ticks from (k + 1) → q ≡ entry_at travels from (k + 1) → k + 1 < count
        → Cut first 0 b (lowered first (value_at ticks travels from count period) h period old) old new (i + j)
    arc_next u z m =
        let l : a < b = tick_rises arc.day k a f b u m in
        lower_join h period _ _ old mid new 0 a b i j w n (omega arith) (omega arith)
        (piece_next arc.day _ k a p b q f g u z m)

    pub arc_last : b ≡ period → q ≡ entry_at travels from 0 → k < count → count ≤ k + 1
        → Cut first 0 b (lowered first (value_at ticks travels from count period) h period old) old new (i + j)
    arc_last u z m o =
        let l : a < period = tick_below arc.day k a f m in
        lower_join h period _ _ old mid new 0 a b i j w n (omega arith) (omega arith)
        (piece_last arc.day _ k a p b q f g u z m o)

-- The travel is v from tick s up to tick a.
pub record Flat (w : ℕ → ℕ) (s a v : ℕ) : Type 0 where
  pub order : s ≤ a
  pub at : (x : ℕ) → s ≤ x → x < a → w x ≡ v

pub flat_none : (w : ℕ → ℕ) (a v : ℕ) → Flat w a a v
flat_none w a v = record { order = omega arith; at = λ x lo hi. absurd (omega arith) }

-- the part that waited, lowered
pub flat_lowered : {first : Bool} (h : ℕ → ℕ) (period : ℕ) (w : ℕ → ℕ) (old mid new : List ℕ)
    (s a v i j : ℕ)
    → Cut first 0 s (lowered first w h period old) old mid i → Flat w s a v
    → Cut first s a (lowered first (always v) h period mid) mid new j
    → Cut first 0 a (lowered first w h period old) old new (i + j)
unfolding always
flat_lowered h period w old mid new s a v i j c f d =
    lower_join h period _ _ old mid new 0 s a i j c d (omega arith) f.order
    (λ x lo hi. sym (f.at x lo hi))

-- one more flat piece waits
pub flat_more : {ticks travels : List ℕ} {from count period points : ℕ}
    → Arc ticks travels from count period points → (s k a p b q : ℕ)
    → Flat (value_at ticks travels from count period) s a p → a ≡ entry_at ticks from k
    → p ≡ entry_at travels from k
    → b ≡ entry_at ticks from (k + 1) → q ≡ entry_at travels from (k + 1) → k + 1 < count → p ≡ q
    → Flat (value_at ticks travels from count period) s b p
flat_more {ticks} {travels} {from} arc s k a p b q f e g u z m o =
    let r : a < b = tick_rises arc.day k a e b u m in
    record {
      order = omega (arith, f.order);
      at = λ x lo hi. elim (dec_lt x a) [
        | yes y ↦ f.at x lo y
        | no y ↦
            let n = piece_next arc.day (entry_at travels from) k a p b p e g u (o ∙ z) m x (omega arith) hi
            in
            sym n ∙ value_flat x a p b (omega arith) hi
      ];
    }

-- the arc of a town: `from` was read in the table of first points, and m is the count of its points
module _ {file : List ℕ} {l : Layout} {starts : List ℕ} (t : Primed file l starts) {a : ℕ} (h : a < l.arcs)
    (from m : ℕ) (d : from ≡ get_or starts a 0)
    (q : m ≡ count (decode file) a) where
  pub arc_of_lem : Arc (decode file).ticks (decode file).travels from m l.period l.points
  unfolding entry_at start
  arc_of_lem = record {
    day = arc_day t.town h starts from m d (t.first a h) q;
    short = t.town.small.period_most;
    within = arc_points t.town h starts from m d (t.first a h) q;
    most = λ i k.
        let b : a < length (decode file).tails = omega (arith, t.town.sizes.arcs) in
        rw (d, t.first a h, t.town.sizes.period)
        ((t.town.sound.points_of a b).travel_most i (rw q at k));
  }

  pub arc_lowered : {first : Bool} (hs : ℕ → ℕ) (old new : List ℕ) (r : ℕ)
      → Cut first 0 l.period
      (lowered first (value_at (decode file).ticks (decode file).travels from m l.period) hs l.period
      old) old new r
      → Cut first 0 l.period (lowered first (travel_at (decode file) a) hs l.period old) old new r
  unfolding lowered offer travel_at
  arc_lowered hs old new r c =
      cut_as _ _ old new 0 l.period r (λ x lo hi. rw (d, t.first a h, q, t.town.sizes.period)) c
