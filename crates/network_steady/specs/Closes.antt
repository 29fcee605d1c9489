-- The closes of the arcs' days, as code asks for them: of an arc whose ends it has read as numbers, and of
-- arcs by their blocks.
use mathlib.Core.{Path.◌≡◌, Path.refl, Path.sym, Path.◌∙◌, List.List}
use Rattle.std.specs.Prelude.{ℕ, ◌+◌, ◌-◌, ◌*◌, ◌/◌, ◌%◌, ◌<◌, ◌≤◌, Bool, true, false, not, ◌||◌}
use native.Mathlib.{Nat.add-zero, Omega.arith}
use lib.{Dec.leb, Dec.ltb, Dec.lit<, Dec.lit≤, ListN.length}
use borrow.Author.{Count.below_more, Tests.ltb-false, Tests.leb-false, Tests.not-true, Tests.not-false}
use Rattle.theory_loops.specs.{Pick.or_passed, Total.total_none, Total.total_more}
use Rattle.theory_travel.specs.Table.{entry_at}
use Rattle.file_fields.specs.{Block.block_size, Block.head_size, Fields.le16}
use Rattle.file_blocks.specs.{Kind.point_size, Kind.point_per, Place.offset, Place.offset_apart}
use Rattle.network.specs.declared.header.Layout.{Layout}
use Rattle.network.specs.{Limits.most_points, Layout.most_bytes, Decode.tick_is, Decode.travel_is}
use Rattle.network.specs.Network.{Network, arcs, count, start, tick, travel}
use Rattle.network.specs.Decode.{decode, Laid, Sizes, Small, laid_small, laid_bytes, point_in}
use Rattle.network.specs.{FirstPoint.Counted, FirstPoint.points_in, Rules.ticks_of, Rules.travels_of}
use Rattle.network_steady.specs.{Joins.PointAt, Steady.Closed, Steady.AllClosed}

-- point q of a network is the number r
pub record PointOf (n : Network) (q r : ℕ) : Type 0 where
  pub tick : r % 65536 ≡ tick n q
  pub travel : r / 65536 ≡ travel n q

-- and stands in the file, at a place that the code can count
pub record PointStands (file : List ℕ) (l : Layout) (q : ℕ) : Type 0 where
  pub room : block_size * l.pointblock + head_size + point_size * q + 12 * (q / point_per) + point_size
      ≤ length file
  pub few : length file ≤ most_bytes
  pub small : q ≤ most_points

module _ {file : List ℕ} {l : Layout} (s : Laid file l) (q : ℕ) (h : q < l.points) where
  at : block_size * l.pointblock + head_size + point_size * q + 12 * (q / point_per)
      ≡ offset l.pointblock point_per point_size q
  at = offset_apart l.pointblock point_per point_size (lit< tt) (lit≤ tt) q 12 refl

  pub point_stands : PointStands file l q
  point_stands = record {
    room = rw at (point_in s h).room;
    few = laid_bytes s;
    small = omega (arith, (laid_small s).points_most);
  }

  pub point_of : (r : ℕ)
      → PointAt file (block_size * l.pointblock + head_size + point_size * q + 12 * (q / point_per)) r
      → PointOf (decode file) q r
  point_of r p =
      let g = rw at at p in
      let o = offset l.pointblock point_per point_size q in
      let t : r % 65536 ≡ le16 file o = omega (arith, g.is, g.tick, g.travel) in
      let v : r / 65536 ≡ le16 file (o + 2) = omega (arith, g.is, g.tick, g.travel) in
      record { tick = tick_is s h (rw add-zero t); travel = travel_is s h v }

-- a day whose first point has tick t and travel v, and whose last has tick u and travel w, does not close:
-- the first tick is not 0, its travel is not 1 to the period, the last tick is not below the period, or its
-- end is after that of the next day's first
unfoldable pub unclosed : ℕ → ℕ → ℕ → ℕ → ℕ → Bool
unclosed period t v u w = ltb 0 t || (ltb v 1 || (ltb period v || (leb period u || ltb (period + v) (u + w))))

-- FOR CODE that has read the ends of an arc's day
pub closed_answer : (n : Network) (period from m x y : ℕ) (b : Bool)
    → PointOf n from x → PointOf n (from + (m - 1)) y
    → b ≡ unclosed period (x % 65536) (x / 65536) (y % 65536) (y / 65536) → not b ≡ true
    → Closed period (entry_at n.ticks from) (entry_at n.travels from) m
unfolding unclosed entry_at
closed_answer n period from m x y b p q k h =
    let (b₀, b₁) = or_passed _ _ (sym k ∙ not-true b h) in
    let (b₂, b₃) = or_passed _ _ b₁ in
    let (b₄, b₅) = or_passed _ _ b₃ in
    let (b₆, b₇) = or_passed _ _ b₅ in
    let x₀ : x % 65536 ≤ 0 = ltb-false _ _ b₀ in
    let x₁ : 1 ≤ x / 65536 = ltb-false _ _ b₂ in
    let x₂ : x / 65536 ≤ period = ltb-false _ _ b₄ in
    let x₃ : y % 65536 < period = leb-false _ _ b₆ in
    let x₄ : y % 65536 + y / 65536 ≤ period + x / 65536 = ltb-false _ _ b₇ in
    let t : x % 65536 ≡ tick n (from + 0) = rw add-zero p.tick in
    let v : x / 65536 ≡ travel n (from + 0) = rw add-zero p.travel in
    let u = q.tick in
    let w = q.travel in
    record {
      start = omega arith;
      some = omega arith;
      most = omega arith;
      below = omega arith;
      wrap = omega arith;
    }

-- THE LOOP over the arcs, before arc a, whose points start at `from`
pub record Closing (n : Network) (l : Layout) (a from : ℕ) : Type 0 where
  pub counted : Counted n
  pub sizes : Sizes n l
  pub small : Small l
  pub within : a ≤ l.arcs
  pub from_is : from ≡ start n a
  pub closed : (k : ℕ) → k < a → Closed n.period (ticks_of n k) (travels_of n k) (count n k)

module _ (n : Network) (l : Layout) where
  pub closing_none : Counted n → Sizes n l → Small l → Closing n l 0 0
  unfolding start
  closing_none c s w = record {
    counted = c;
    sizes = s;
    small = w;
    within = omega arith;
    from_is = total_none (count n);
    closed = λ k o. absurd (omega arith);
  }

  module _ (a from m : ℕ) (i : Closing n l a from) (h : a < l.arcs) (e : m ≡ count n a) where
    arc_in_lem : a < arcs n
    arc_in_lem = omega (arith, i.sizes.arcs)

    pub closing_room : from + m ≤ l.points
    closing_room = omega (arith, i.from_is, e, i.sizes.points, points_in i.counted a arc_in_lem)

    pub closing_some : 0 < m
    closing_some = omega (arith, e, i.counted.some a arc_in_lem)

    pub closing_few : from + m ≤ most_points
    closing_few = omega (arith, closing_room, i.small.points_most)

    pub closing_more : (b : Bool) (k : ℕ)
        → (b ≡ true → Closed l.period (entry_at n.ticks from) (entry_at n.travels from) m)
        → not b ≡ false → k ≡ a + 1 → Closing n l k (from + m)
    unfolding start
    closing_more b k f g q =
        let d : Closed n.period (ticks_of n a) (travels_of n a) (count n a) =
        rw (i.sizes.period, i.from_is, e) at (f (not-false b g)) in
        rw q (record {
          counted = i.counted;
          sizes = i.sizes;
          small = i.small;
          within = omega arith;
          from_is = total_more (count n) from m a i.from_is e;
          closed = λ k o. below_more
              (λ k. Closed n.period (ticks_of n k) (travels_of n k) (count n k)) a i.closed d k
              (omega arith);
        })

  pub closing_at : (a b from : ℕ) → Closing n l a from → b ≡ a → Closing n l b from
  closing_at a b from i e = rw e i

  pub closing_end : (a from : ℕ) → Closing n l a from → l.arcs ≤ a → AllClosed n
  closing_end a from i h = record { day = λ k o. i.closed k (omega (arith, i.sizes.arcs)) }

-- where the answer is no
pub not_so : {A : Type 0} → false ≡ true → A
not_so e = let z : ◌≡◌ {A = ℕ} 0 1 = cc in absurd (omega arith)
