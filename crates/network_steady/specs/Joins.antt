-- Where the order of points goes on: from one point to the next, by a test of both as numbers (`join_of`), at
-- every point of a row (`joined`), and as code counts it in the points of a file.
use mathlib.Core.{Path.◌≡◌, Path.sym, Path.◌∙◌, Path.ap, List.List}
use Rattle.std.specs.Prelude.{ℕ, suc, ◌+◌, ◌-◌, ◌*◌, ◌/◌, ◌%◌, ◌^◌, ◌<◌, ◌≤◌, min, Bool, true, ◌&&◌, length}
use Rattle.std.proofs.Math.Bool.{and-eq-true_iff}
use native.Mathlib.{Nat.add-zero, Decide.dec_lt, Omega.arith}
use lib.{Bits.bit_and, Bits.and_shr, Bits.and_mod, Bits.and_le_l, Bits.and_le_r, Dec.eqb, Dec.ltb, Dec.lit<}
use borrow.Author.Tests.{eqb-true, ltb-true, lt-ltb}
use Rattle.theory_loops.specs.Count as Count
use Rattle.theory_breaks.specs.Tally.{flag, flag_few, before, tally_more, tally_block}
use Rattle.file_fields.specs.{Block.block_size, Block.head_size, Fields.le16}
use Rattle.file_blocks.specs.{Kind.point_size, Kind.point_per, Place.block_starts, Place.block_fits}
use Rattle.file_blocks.specs.Place.{offset, blocks, entries_in, offset_at, index_below, block_used, block_in}
use Rattle.network.specs.declared.header.Layout.{Layout}
use Rattle.network.specs.{Network.Network, Network.points, Network.tick, Network.travel, Layout.most_bytes}
use Rattle.network.specs.Decode.{decode, Laid, laid_sizes, laid_small, laid_bytes, points_stored}
use Rattle.network.specs.{Decode.tick_is, Decode.travel_is, Limits.most_period, Limits.most_points}

-- THE TEST. A point is one number, its tick below its travel, 16 bits each. A difference wraps below 0:
-- bit 15 says whether its lower half did, bit 31 whether its upper half did.
unfoldable pub minus : ℕ → ℕ → ℕ
minus a b = (a + (2 ^ 32 - b)) % 2 ^ 32

-- the lower half added to the upper: of the difference of two points, that of their ends
unfoldable pub ends : ℕ → ℕ
ends d = (d + d % 65536 * 65536) % 2 ^ 32

-- bits 15 and 31 are 1
abbrev pub signs : ℕ
signs = 2 ^ 31 + 2 ^ 15

unfoldable pub signed : ℕ → Bool
signed x = eqb (bit_and x signs) signs

-- a point goes on from the last one: its tick is above and its end not below; its travel is 1 or more, and
-- the period or less; and its tick is below 2 ^ 15, so that the next difference tells of ticks
unfoldable pub join_of : ℕ → ℕ → ℕ → Bool
join_of period last next =
    signed (bit_and (ends (minus last next))
    (bit_and (minus 65535 next) (minus next (65536 * period + 32768))))

-- a point with tick t and travel v, fields of 16 bits, after one with tick s and travel w
unfoldable pub joins : ℕ → ℕ → ℕ → ℕ → ℕ → Bool
joins period s w t v = (ltb t 65536 && ltb v 65536) && join_of period (s + 65536 * w) (t + 65536 * v)

-- at point k of a row
unfoldable pub joined : ℕ → (ℕ → ℕ) → (ℕ → ℕ) → ℕ → Bool
joined period t v k = joins period (before t k) (before v k) (t k) (v k)

-- WHAT IT TELLS of a number of which both halves went below 0
record Signs (x : ℕ) : Type 0 where
  top : 2 ^ 31 ≤ x
  low : 2 ^ 15 ≤ x % 2 ^ 16

signed_signs : (x : ℕ) → signed x ≡ true → Signs x
unfolding signed
signed_signs x h =
    let e : bit_and x signs ≡ signs = eqb-true _ _ h in
    let t : bit_and (x / 2 ^ 31) 1 ≡ 1 = sym (and_shr x signs 31) ∙ ap (λ n. n / 2 ^ 31) e in
    let l : bit_and (x % 2 ^ 16) (2 ^ 15) ≡ 2 ^ 15 = sym (and_mod x signs 16) ∙ ap (λ n. n % 2 ^ 16) e in
    record {
      top = omega (arith, and_le_l (x / 2 ^ 31) 1);
      low = omega (arith, and_le_l (x % 2 ^ 16) (2 ^ 15));
    }

signs_both : (x y : ℕ) → Signs (bit_and x y) → Signs x × Signs y
signs_both x y h =
    let t = and_shr x y 31 in
    let l = and_mod x y 16 in (
      record {
        top = omega (arith, h.top, and_le_l (x / 2 ^ 31) (y / 2 ^ 31));
        low = omega (arith, h.low, and_le_l (x % 2 ^ 16) (y % 2 ^ 16));
      },
      record {
        top = omega (arith, h.top, and_le_r (x / 2 ^ 31) (y / 2 ^ 31));
        low = omega (arith, h.low, and_le_r (x % 2 ^ 16) (y % 2 ^ 16));
      },
    )

-- where a point goes on from the one before it
pub record Follows (period s w t v : ℕ) : Type 0 where
  pub rise : s < t
  pub kept : s + w ≤ t + v
  pub some : 1 ≤ v
  pub most : v ≤ period

-- a tick that rises and an end that falls: the upper half does not go below 0
fall_shows : (d x s w t v : ℕ) → d + (t + 65536 * v) ≡ s + 65536 * w → x + t ≡ s + 65536 → s < t
    → t + v < s + w → w ≤ most_period → (d + x * 65536) % 2 ^ 32 < 2 ^ 31
fall_shows d x s w t v e f r h l =
    let y = 65536 * (s + w - (t + v)) - (t - s) in
    let z : d + x * 65536 ≡ y + 2 ^ 32 = omega arith in
    let b : y < 2 ^ 31 = omega arith in
    rw z (omega arith)

-- AFTER A POINT whose tick is below 2 ^ 15
module _ (period s w t v : ℕ) (short : s < 2 ^ 15) (j : joins period s w t v ≡ true) where
  fields : (t < 65536) × (v < 65536)
  unfolding joins
  fields =
      let (f, g) = (and-eq-true_iff _ _).0 ((and-eq-true_iff (ltb t 65536 && ltb v 65536) _).0 j).0 in
      (ltb-true _ _ f, ltb-true _ _ g)

  told : Signs (ends (minus (s + 65536 * w) (t + 65536 * v)))
      × (Signs (minus 65535 (t + 65536 * v)) × Signs (minus (t + 65536 * v) (65536 * period + 32768)))
  unfolding joins join_of
  told =
      let k = ((and-eq-true_iff (ltb t 65536 && ltb v 65536) _).0 j).1 in
      let (o, r) = signs_both _ _ (signed_signs _ k) in
      (o, signs_both _ _ r)

  pub joins_low : t < 2 ^ 15
  unfolding minus
  joins_low = omega (arith, told.1.0.low, fields)

  pub joins_rise : s < t
  unfolding minus ends
  joins_rise = omega (arith, told.0.low, fields, joins_low)

  some : 1 ≤ v
  unfolding minus
  some = omega (arith, told.1.0.top, fields)

  pub joins_most : period ≤ most_period → v ≤ period
  unfolding minus
  joins_most p = omega (arith, told.1.0.top, told.1.1.top, fields, joins_low)

  kept : period ≤ most_period → w ≤ period → s + w ≤ t + v
  unfolding minus ends
  kept p l = elim (dec_lt (t + v) (s + w)) [
    | no h ↦ omega arith
    | yes h ↦
        let r = joins_rise in
        let d = minus (s + 65536 * w) (t + 65536 * v) in
        let whole : d + (t + 65536 * v) ≡ s + 65536 * w = omega (arith, fields) in
        let half : d % 65536 + t ≡ s + 65536 = omega arith in
        absurd (omega (arith, told.0.top, fall_shows d (d % 65536) s w t v whole half r h (omega arith)))
  ]

  pub follows : period ≤ most_period → w ≤ period → Follows period s w t v
  follows p l = record { rise = joins_rise; kept = kept p l; some = some; most = joins_most p }

-- POINTS AS NUMBERS: the point at byte o of a file is the number r
pub record PointAt (file : List ℕ) (o r : ℕ) : Type 0 where
  pub is : r ≡ le16 file o + 65536 * le16 file (o + 2)
  pub tick : le16 file o < 65536
  pub travel : le16 file (o + 2) < 65536

-- from point k to the next, of those side by side from byte `base` on
unfoldable pub join_at : ℕ → List ℕ → ℕ → ℕ → Bool
join_at period file base k =
    let o = base + point_size * k in
    joins period (le16 file o) (le16 file (o + 2)) (le16 file (o + point_size))
    (le16 file (o + point_size + 2))

-- by numbers that code has read
join_read : (file : List ℕ) (period s w last o next : ℕ) → last ≡ s + 65536 * w → PointAt file o next
    → join_of period last next ≡ joins period s w (le16 file o) (le16 file (o + 2))
unfolding joins
join_read file period s w last o next e q = rw (e, q.is, lt-ltb _ _ q.tick, lt-ltb _ _ q.travel)

-- FOR CODE that makes the test
-- THE LOOP over points side by side: one point more
pub beside_more : (file : List ℕ) (base period c e y x r : ℕ) → c ≡ Count.count e (join_at period file base)
    → PointAt file (base + point_size * e) y → PointAt file (base + point_size * e + point_size) x
    → r ≡ flag (join_of period y x) → c + r ≡ Count.count (e + 1) (join_at period file base)
unfolding join_at
beside_more file base period c e y x r h p q f =
    tally_more (join_at period file base) c e r h (f ∙ ap flag (join_read file period _ _ y _ x p.is q))

-- no more than points
pub beside_few : (file : List ℕ) (base period c e y x r : ℕ) → c ≡ Count.count e (join_at period file base)
    → r ≡ flag (join_of period y x) → c + r ≤ e + 1
beside_few file base period c e y x r h f =
    omega (arith, h, f, Count.count_few (join_at period file base) e, flag_few (join_of period y x))

-- for `search besides` at the needs of that loop
pub ruleset besides = (Count.count_none, beside_more, Count.count_end)

-- THE LOOP over the blocks, R of them, before block j: `last` is the last point of those before it
pub record Counting (n : Network) (l : Layout) (R j last c : ℕ) : Type 0 where
  pub blocks_are : R ≡ blocks point_per l.points
  pub within : j ≤ R
  pub last_is : last ≡ before (tick n) (min l.points (point_per * j))
      + 65536 * before (travel n) (min l.points (point_per * j))
  pub counted : c ≡ Count.count (min l.points (point_per * j)) (joined l.period (tick n) (travel n))

-- block j of the points has k of them, and stands in the file
pub record BlockAt (file : List ℕ) (l : Layout) (j k : ℕ) : Type 0 where
  pub some : 0 < k
  pub most : k ≤ point_per
  pub room : block_size * (l.pointblock + j) + head_size + point_size * k ≤ length file
  pub few : length file ≤ most_bytes

module _ {file : List ℕ} {l : Layout} (s : Laid file l) where
  abbrev n : Network
  n = decode file

  abbrev p : ℕ → Bool
  p = joined l.period (tick n) (travel n)

  pub counting_none : (R : ℕ) → R ≡ blocks point_per l.points → Counting (decode file) l R 0 0 0
  unfolding before
  counting_none R e =
      let z : min l.points (point_per * 0) ≡ 0 = omega arith in
      record { blocks_are = e; within = omega arith; last_is = rw z; counted = rw z (Count.count_none p) }

  module _ (R j last c : ℕ) (i : Counting (decode file) l R j last c) (g : j < R) where
    h : j < blocks point_per l.points
    h = rw i.blocks_are at g

    -- the block starts behind the points counted
    pub block_begins : point_per * j ≤ l.points
    block_begins = block_starts _ _ _ _ _ (points_stored s) j h

  module _ (R j last c : ℕ) (i : Counting (decode file) l R j last c) (g : j < R)
      (k : ℕ) (e : k ≡ entries_in point_per l.points j) where
    abbrev base : ℕ
    base = block_size * (l.pointblock + j) + head_size

    pub block_at : BlockAt file l j k
    block_at =
        let r = points_stored s in
        let o = h R j last c i g in
        record {
          some = rw e (block_used point_per (lit< tt) l.points j o);
          most = omega (arith, e);
          room = omega (arith, block_in _ _ _ _ _ r j o, block_fits _ _ _ _ _ r j o k e);
          few = laid_bytes s;
        }

    behind_it : min l.points (point_per * j) ≡ point_per * j
    behind_it = omega (arith, block_begins R j last c i g)

    through_it : min l.points (point_per * (j + 1)) ≡ point_per * j + k
    through_it = omega (arith, e, behind_it)

    -- its points are the network's
    module _ (q : ℕ) (o : q < k) where
      place : base + point_size * q ≡ offset l.pointblock point_per point_size (point_per * j + q)
      place = sym (offset_at l.pointblock point_per point_size (lit< tt) j q (omega (arith, e)))

      inside : point_per * j + q < l.points
      inside = index_below point_per (lit< tt) l.points j q (rw e at o)

      tick_there : le16 file (base + point_size * q) ≡ tick n (point_per * j + q)
      tick_there = tick_is s inside (rw (place, add-zero))

      travel_there : le16 file (base + point_size * q + 2) ≡ travel n (point_per * j + q)
      travel_there = travel_is s inside (rw place)

    -- the test at its first point, and at the others
    first_join : (x r : ℕ) → PointAt file base x → r ≡ flag (join_of l.period last x)
        → r ≡ flag (p (point_per * j))
    unfolding joined
    first_join x r a f =
        let z : point_per * j + 0 ≡ point_per * j = omega arith in
        let y : base + point_size * 0 ≡ base = omega arith in
        let t : le16 file base ≡ tick n (point_per * j) = rw (y, z) at (tick_there 0 block_at.some) in
        let v : le16 file (base + 2) ≡ travel n (point_per * j) =
        rw (y, z) at (travel_there 0 block_at.some) in
        let q = rw behind_it at i.last_is in
        f ∙ ap flag (rw (t, v) at (join_read file l.period _ _ last base x q a))

    other_join : (q : ℕ) → q < k - 1 → join_at l.period file base q ≡ p (point_per * j + 1 + q)
    unfolding join_at joined before
    other_join q o =
        let z : point_per * j + 1 + q ≡ suc (point_per * j + q) = omega arith in
        let w : base + point_size * suc q ≡ base + point_size * q + point_size = omega arith in
        let y : point_per * j + suc q ≡ suc (point_per * j + q) = omega arith in
        let t = rw (w, y) at (tick_there (suc q) (omega arith)) in
        let v = rw (w, y) at (travel_there (suc q) (omega arith)) in
        rw (z, tick_there q (omega arith), travel_there q (omega arith), t, v)

    -- the counts are small
    pub counting_few : (x r o : ℕ) → r ≡ flag (join_of l.period last x)
        → o ≡ Count.count (k - 1) (join_at l.period file (block_size * (l.pointblock + j) + head_size))
        → c + r + o ≤ most_points + point_per + 1
    counting_few x r o f u = omega (
      arith,
      (laid_small s).points_most,
      e,
      i.counted,
      Count.count_few p (min l.points (point_per * j)),
      f,
      flag_few (join_of l.period last x),
      u,
      Count.count_few (join_at l.period file base) (k - 1),
    )

    pub counting_more : (x y r o : ℕ) → PointAt file (block_size * (l.pointblock + j) + head_size) x
        → r ≡ flag (join_of l.period last x)
        → o ≡ Count.count (k - 1) (join_at l.period file (block_size * (l.pointblock + j) + head_size))
        → PointAt file (block_size * (l.pointblock + j) + head_size + point_size * (k - 1)) y
        → Counting (decode file) l R (j + 1) y (c + r + o)
    unfolding before
    counting_more x y r o a f u b =
        let z : point_per * j + k ≡ suc (point_per * j + (k - 1)) = omega (arith, block_at) in
        record {
          blocks_are = i.blocks_are;
          within = omega arith;
          last_is = rw (through_it, z) (b.is ∙ rw (
            tick_there (k - 1) (omega (arith, block_at)),
            travel_there (k - 1) (omega (arith, block_at)),
          ));
          counted = rw through_it
              (tally_block p (join_at l.period file base) (point_per * j) k c r o block_at.some
              (rw behind_it at i.counted) (first_join x r a f) u other_join);
        }

  pub counting_end : (R j last c : ℕ) → Counting (decode file) l R j last c → R ≤ j
      → c ≡ Count.count (points (decode file))
      (joined l.period (tick (decode file)) (travel (decode file)))
  counting_end R j last c i h =
      let z : min l.points (point_per * j) ≡ points n =
      omega (arith, i.blocks_are, (laid_sizes s).points) in
      rw z at i.counted

-- for `search countings` at the needs of that loop
pub ruleset countings = (counting_none, block_begins, counting_more, counting_end)
