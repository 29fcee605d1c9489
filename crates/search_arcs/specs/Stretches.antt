-- The stretch of an arc's points that has the segment of a tick: the arc's points are passed block by block
-- (`Passed`) up to it (`Reaching`), and its segment, counted from the stretch's first point, is the arc's.
use mathlib.Core.{Path.◌≡◌, Path.refl, List.List}
use Rattle.std.specs.Prelude.{ℕ, suc, ◌+◌, ◌-◌, ◌≤◌, ◌<◌, min, get_or}
use native.Mathlib.{Decide.dec_lt, Omega.arith}
use Rattle.theory_travel.specs.Search.{Sorted, Last, Between, between_start, between_end}
use Rattle.theory_travel.specs.{Line.line, Day.to_next, Day.to_first}
use Rattle.theory_travel.specs.Table.{entry_at, value_at, entry_start}
use Rattle.network.specs.declared.header.Layout.{Layout}
use Rattle.network.specs.declared.points.Stretch.{Stretch}
use Rattle.network.specs.Points.{Placed}

-- the stretch starts at or before tick x, at one of the `count` points from `from` on
pub record Passed (ticks : List ℕ) (l : Layout) (from count x : ℕ) (s : Stretch) : Type 0 where
  pub stands : Placed l s
  pub begins : from ≤ s.first
  pub between : Between (entry_at ticks from) count x (s.first - from) count

-- and the point behind it, if there is one, is after x
pub record Reaching (ticks : List ℕ) (l : Layout) (from count x : ℕ) (s : Stretch) : Type 0 where
  pub passed : Passed ticks l from count x s
  pub behind : s.first + s.room < from + count → x < entry_at ticks from (s.first - from + s.room)

-- an entry that was read, as entry i of the part that starts at `from`
entry_read : (list : List ℕ) (from q i v : ℕ) → v ≡ get_or list q 0 → q ≡ from + i → v ≡ entry_at list from i
unfolding entry_at
entry_read list from q i v e f = rw f at e

module _ {ticks : List ℕ} {l : Layout} {from count x : ℕ} where
  pub pass_first : (s : Stretch) → Sorted (entry_at ticks from) count x → s.first ≡ from → Placed l s
      → Passed ticks l from count x s
  pass_first s o e h =
      let z : s.first - from ≡ 0 = omega arith in
      record { stands = h; begins = omega arith; between = rw z (between_start _ _ _ o) }

  -- u is the tick of the next block's first point
  module _ {s : Stretch} (next : Stretch) (p : Passed ticks l from count x s)
      (e : next.first ≡ s.first + s.room) (m : s.first + s.room < from + count) (u : ℕ)
      (q : u ≡ get_or ticks (next.first + 0) 0) where
    there : (i : ℕ) → from + i ≡ next.first → u ≡ entry_at ticks from i
    there i f = entry_read ticks from (next.first + 0) i u q (omega arith)

    pub pass_next : Placed l next → u ≤ x → Passed ticks l from count x next
    pass_next h o = record {
      stands = h;
      begins = omega (arith, p.begins);
      between = record {
        sorted = p.between.sorted;
        apart = omega (arith, p.begins);
        within = omega arith;
        at = omega (arith, there (next.first - from) (omega (arith, p.begins)));
        next = λ k. absurd (omega arith);
      };
    }

    pub pass_stop : x < u → Reaching ticks l from count x s
    pass_stop o = record {
      passed = p;
      behind = λ k. omega (arith, there (s.first - from + s.room) (omega (arith, p.begins)));
    }

  pub pass_end : {s : Stretch} → Passed ticks l from count x s → from + count ≤ s.first + s.room
      → Reaching ticks l from count x s
  pass_end p m = record { passed = p; behind = λ k. absurd (omega arith) }

-- for `search passing` at the needs of the loop
pub ruleset passing = (pass_first, pass_next, pass_stop, pass_end)

module _ {ticks : List ℕ} {l : Layout} {from count x : ℕ} {s : Stretch} {n : ℕ}
    (r : Reaching ticks l from count x s) (e : n ≡ min s.room (from + count - s.first)) where
  abbrev p : Passed ticks l from count x s
  p = r.passed

  same : (i j : ℕ) → i ≡ s.first - from + j → entry_at ticks s.first j ≡ entry_at ticks from i
  unfolding entry_at
  same i j d = entry_read ticks from (s.first + j) i _ refl (omega (arith, p.begins))

  pub reach_sorted : Sorted (entry_at ticks s.first) n x
  reach_sorted = record {
    some = omega (arith, p.between.apart, p.stands);
    begun = omega (arith, same (s.first - from) 0 (omega arith), p.between.at);
    rise = λ i m. omega (
      arith,
      same (s.first - from + i) i refl,
      same (suc (s.first - from + i)) (suc i) (omega arith),
      p.between.sorted.rise (s.first - from + i) (omega (arith, p.between.within)),
    );
  }

  -- the stretch's segment k is the arc's
  module _ (k : ℕ) (h : Last (entry_at ticks s.first) n x k) where
    whole : Last (entry_at ticks from) count x (s.first - from + k)
    whole = between_end _ count x (s.first - from + k) (s.first - from + k + 1) (record {
      sorted = p.between.sorted;
      apart = omega arith;
      within = omega (arith, h.below, p.begins);
      at = omega (arith, same (s.first - from + k) k refl, h.at);
      next = λ m. elim (dec_lt (k + 1) n) [
        | yes o ↦ omega (arith, same (s.first - from + k + 1) (k + 1) (omega arith), h.next o)
        | no o ↦
            let z : s.first - from + k + 1 ≡ s.first - from + s.room =
            omega (arith, h.below, p.begins) in
            rw z (r.behind (omega (arith, h.below, p.begins)))
      ];
    }) (omega arith)

    -- it starts the line (a, v), (b, w) of the tick, whose value is y
    module _ (a b : ℕ) (d : a ≡ get_or ticks (s.first + k) 0) where
      at_start : a ≡ entry_at ticks from (s.first - from + k)
      at_start = entry_read ticks from (s.first + k) (s.first - from + k) a d (omega (arith, p.begins))

      pub reach_at : a ≤ x
      reach_at = omega (arith, at_start, whole.at)

      module _ (travels : List ℕ) (period v w y : ℕ) (on : y ≡ line x a v b w)
          (g : v ≡ get_or travels (s.first + k) 0) where
        start_value : v ≡ entry_at travels from (s.first - from + k)
        start_value =
            entry_read travels from (s.first + k) (s.first - from + k) v g (omega (arith, p.begins))

        -- after the last point the line runs on to the next day's first
        pub reach_first : from + count ≤ s.first + (k + 1) → b ≡ period → w ≡ get_or travels from 0
            → y ≡ value_at ticks travels from count period x
        reach_first o i j = to_first _ _ count period x _ y a v b w whole on at_start start_value
            (omega (arith, p.begins)) i (entry_start travels from w j)

      -- or ends at the next point, f
      module _ (f : ℕ) (o : s.first + (k + 1) < from + count) (g : f ≡ s.first + (k + 1))
          (i : b ≡ get_or ticks (f + 0) 0) where
        at_next : b ≡ entry_at ticks from (s.first - from + k + 1)
        at_next = entry_read ticks from (f + 0) (s.first - from + k + 1) b i (omega (arith, p.begins))

        pub reach_next : x < b
        reach_next = omega (arith, at_next, whole.next (omega (arith, p.begins)))

        pub reach_value : (travels : List ℕ) (period v w y : ℕ) → y ≡ line x a v b w
            → v ≡ get_or travels (s.first + k) 0 → w ≡ get_or travels (f + 0) 0
            → y ≡ value_at ticks travels from count period x
        reach_value travels period v w y on j m = to_next _ _ count period x _ y a v b w whole on at_start
            (start_value travels period v w y on j) (omega (arith, p.begins)) at_next
            (entry_read travels from (f + 0) (s.first - from + k + 1) w m (omega (arith, p.begins)))

-- for `search (reaching, needs)` at the needs of code that has found the segment and read the line's ends
pub ruleset reaching = (reach_sorted, reach_at, reach_first, reach_next, reach_value)
