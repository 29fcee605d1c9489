-- What two tables beside the rows say of them. D has 0 for a clean node, and else never less a number that no
-- entry of its row is below; H has 0 for a node whose row has no number yet, and else never less a number
-- that no entry of its row is above. A row gets its first numbers from one that has some, and then they are
-- at most a period more; after that they only fall. So no number comes to a period for each node that has
-- some.
use mathlib.Core.{Path.◌≡◌, Path.sym, Path.◌∙◌, Path.ap, Bool.Bool, Bool.true, Bool.false, Logic.◌≢◌}
use Rattle.std.specs.Prelude.{List, length, get_or, set, replicate}
use Prim.Native.Nat.{ℕ, ◌+◌, ◌-◌, ◌*◌, ◌≤◌, ◌<◌, min}
use native.Mathlib.{Nat.mul-le-mul, Nat.mul-le-mul_right, Omega.arith, Decide.ℕ_discrete}
use Rattle.std.proofs.Common.{length-set, get_or-set_same, get_or-set_other}
use Rattle.std.proofs.lemmas.List.{length-replicate}
use Rattle.std.proofs.Math.ListN.{get_or-replicate}
use Rattle.theory_loops.specs.{Total.total, Grid.grid_at}
use Rattle.theory_paths.specs.Earliest.{never}
use Rattle.network.specs.declared.header.Layout.{Layout}
use Rattle.network.specs.{Decode.Small, Limits.most_nodes}
use Rattle.toward_row.specs.Lower.{Capped, Known}
use Rattle.toward_list.specs.Burden.{flag, total_set, total_flag}

-- how many nodes have numbers
unfoldable pub numbered : List ℕ → ℕ
numbered H = total most_nodes (flag H)

-- The list has a number for each node and tick, and each node can be dirty.
pub record Heights (l : Layout) (W D H : List ℕ) : Type 0 where
  pub size : length W ≡ l.nodes * l.period
  pub wide : l.nodes ≤ length D
  pub tall : l.nodes ≤ length H
  pub high : (u x : ℕ) → u < l.nodes → x < l.period → grid_at l.period W u x + get_or H u 0 ≤ never
  pub bound : (u : ℕ) → u < l.nodes → get_or H u 0 ≢ 0
      → never + l.period ≤ get_or H u 0 + numbered H * l.period
  pub dirty : (u : ℕ) → u < l.nodes → get_or D u 0 ≢ 0 → get_or H u 0 ≢ 0
  pub low : (u x : ℕ) → u < l.nodes → x < l.period → get_or D u 0 ≢ 0
      → never ≤ grid_at l.period W u x + get_or D u 0

-- A third table has for each clean node never less a number that no entry of its row is below.
pub record Lows (l : Layout) (W D L : List ℕ) : Type 0 where
  pub long : l.nodes ≤ length L
  pub least : (u x : ℕ) → u < l.nodes → x < l.period → get_or D u 0 ≡ 0
      → never ≤ grid_at l.period W u x + get_or L u 0

-- Where every node is clean, two tables have such bounds of all rows.
pub record Bounds (l : Layout) (W L H : List ℕ) : Type 0 where
  pub wide : l.nodes ≤ length L
  pub tall : l.nodes ≤ length H
  pub low : (u x : ℕ) → u < l.nodes → x < l.period → never ≤ grid_at l.period W u x + get_or L u 0
  pub high : (u x : ℕ) → u < l.nodes → x < l.period → grid_at l.period W u x + get_or H u 0 ≤ never

-- hs is the row of node v, which has numbers, and `near` is never less a number that none of them is below.
pub record Held (wide near : ℕ) (hs W H : List ℕ) (v : ℕ) : Type 0 where
  pub long : wide ≤ length hs
  pub at : (y : ℕ) → y < wide → get_or hs y 0 ≡ grid_at wide W v y
  pub some : get_or H v 0 ≢ 0
  pub least : (y : ℕ) → y < wide → never ≤ get_or hs y 0 + near

-- No entry of a node's row is below never less `near`.
pub record Near (wide : ℕ) (W : List ℕ) (u near : ℕ) : Type 0 where
  pub all : (x : ℕ) → x < wide → never ≤ grid_at wide W u x + near

-- The same, where it is known of a row that got its first numbers.
pub record NearFirst (first : Bool) (wide : ℕ) (W : List ℕ) (u near : ℕ) : Type 0 where
  pub holds : first ≡ true → Near wide W u near

-- The greatest entry of a node's row is `high`.
pub record Highest (wide : ℕ) (W : List ℕ) (u high : ℕ) : Type 0 where
  pub most : (x : ℕ) → x < wide → grid_at wide W u x ≤ high
  pub at : ℕ
  pub within : at < wide
  pub met : grid_at wide W u at ≡ high

module _ {l : Layout} (s : Small l) {W D H : List ℕ} (o : Heights l W D H) where
  pub numbered_early : numbered H * l.period ≤ 1474560
  unfolding numbered
  numbered_early = omega (arith, mul-le-mul (total_flag H most_nodes) s.period_most)

  -- a node that has numbers
  pub number_early : (v y : ℕ) → v < l.nodes → y < l.period → get_or H v 0 ≢ 0
      → grid_at l.period W v y + l.period ≤ numbered H * l.period
  number_early v y n h some = omega (arith, o.high v y n h, o.bound v n some)

  pub held_capped : {near v : ℕ} {hs : List ℕ} → Held l.period near hs W H v → v < l.nodes
      → Capped hs l.period
  held_capped {v = v} k n = record {
    long = k.long;
    entry = λ y h. omega (arith, k.at y h, number_early v y n h k.some, numbered_early);
  }

  -- FOR CODE that takes a node
  pub heights_held : {v : ℕ} {hs : List ℕ} → v < l.nodes → get_or D v 0 ≢ 0 → l.period ≤ length hs
      → ((y : ℕ) → y < l.period → get_or hs y 0 ≡ grid_at l.period W v y)
      → Held l.period (get_or D v 0) hs W H v
  heights_held {v} n d long at = record {
    long = long;
    at = at;
    some = o.dirty v n d;
    least = λ y h. omega (arith, at y h, o.low v y n h d);
  }

  pub heights_clear : (v : ℕ) → v < l.nodes → Heights l W (set D v 0) H
  heights_clear v n = record {
    size = o.size;
    wide = rw (length-set D v 0) o.wide;
    tall = o.tall;
    high = o.high;
    bound = o.bound;
    dirty = λ u m d. o.dirty u m (λ z. d (clean u z));
    low = λ u x m h d. elim (ℕ_discrete u v) [
      | yes e ↦ absurd (d (rw e (get_or-set_same D v 0 0 (omega (arith, o.wide)))))
      | no e ↦ rw (get_or-set_other D v u 0 0 e) (o.low u x m h (λ z. d (clean u z)))
    ];
  }
    where
      clean : (u : ℕ) → get_or D u 0 ≡ 0 → get_or (set D v 0) u 0 ≡ 0
      clean u z = elim (ℕ_discrete u v) [
        | yes e ↦ rw e (get_or-set_same D v 0 0 (omega (arith, o.wide)))
        | no e ↦ get_or-set_other D v u 0 0 e ∙ z
      ]

  -- FOR CODE that lowers the row of node u
  pub heights_known : {u : ℕ} {first : Bool} → u < l.nodes → (first ≡ false → get_or H u 0 ≢ 0)
      → Known first W (u * l.period) (u * l.period + l.period)
  unfolding grid_at
  heights_known {u} n f = record {
    numbers = λ t. record {
      entry = λ k lo hi.
          let z = rw (place k lo) at (number_early u (k - u * l.period) n (omega arith) (f t)) in
          omega (arith, numbered_early);
    };
  }
    where
      place : (k : ℕ) → u * l.period ≤ k → u * l.period + (k - u * l.period) ≡ k
      place k lo = omega arith

  -- node u's row has fallen to what a node with numbers gives
  module _ {M : List ℕ} {u near high : ℕ} (n : u < l.nodes) (long : length M ≡ length W)
      (other : (w x : ℕ) → w < l.nodes → x < l.period → w ≢ u
      → grid_at l.period M w x ≡ grid_at l.period W w x)
      (falls : (x : ℕ) → x < l.period → grid_at l.period M u x ≤ grid_at l.period W u x)
      (given : (x : ℕ) → x < l.period → grid_at l.period M u x ≤ numbered H * l.period)
      (least : Near l.period M u near) (top : Highest l.period M u high) where
    early : high ≤ 1474560
    early = omega (arith, top.met, given top.at top.within, numbered_early)

    near_set : get_or (set D u near) u 0 ≡ near
    near_set = get_or-set_same D u near 0 (omega (arith, o.wide))

    room_set : get_or (set H u (never - high)) u 0 ≡ never - high
    room_set = get_or-set_same H u (never - high) 0 (omega (arith, o.tall))

    counted : numbered (set H u (never - high)) + min 1 (get_or H u 0) ≡ numbered H + 1
    unfolding numbered
    counted =
        let one : min 1 (never - high) ≡ 1 = omega (arith, early) in
        total_set H most_nodes u (never - high) (omega (arith, s.nodes_most)) (omega (arith, o.tall))
        ∙ ap (λ (k : ℕ). total most_nodes (flag H) + k) one

    high_early : high + l.period ≤ numbered (set H u (never - high)) * l.period
    high_early = elim (ℕ_discrete (get_or H u 0) 0) [
      | yes e ↦
          let more : numbered (set H u (never - high)) ≡ numbered H + 1 = omega (arith, counted) in
          rw more (omega (arith, top.met, given top.at top.within))
      | no e ↦
          let same : numbered (set H u (never - high)) ≡ numbered H = omega (arith, counted) in
          let was = number_early u top.at n top.within e in
          rw same (omega (arith, top.met, falls top.at top.within))
    ]

    no_fewer : numbered H * l.period ≤ numbered (set H u (never - high)) * l.period
    no_fewer =
        let m : numbered H ≤ numbered (set H u (never - high)) = omega (arith, counted) in
        mul-le-mul_right l.period m

    pub heights_lower : Heights l M (set D u near) (set H u (never - high))
    heights_lower = record {
      size = long ∙ o.size;
      wide = rw (length-set D u near) o.wide;
      tall = rw (length-set H u (never - high)) o.tall;
      high = λ w x m h. elim (ℕ_discrete w u) [
        | yes e ↦ rw e (omega (arith, room_set, top.most x h, early))
        | no e ↦ omega (arith, other w x m h e, get_or-set_other H u w (never - high) 0 e, o.high w x m h)
      ];
      bound = λ w m z. elim (ℕ_discrete w u) [
        | yes e ↦ rw e (omega (arith, room_set, high_early, early))
        | no e ↦
            let q = get_or-set_other H u w (never - high) 0 e in
            omega (arith, q, o.bound w m (λ y. z (q ∙ y)), no_fewer)
      ];
      dirty = λ w m z. elim (ℕ_discrete w u) [
        | yes e ↦ λ y. omega (arith, room_set, rw e at y, early)
        | no e ↦ λ y. o.dirty w m (λ i. z (get_or-set_other D u w near 0 e ∙ i))
            (sym (get_or-set_other H u w (never - high) 0 e) ∙ y)
      ];
      low = λ w x m h z. elim (ℕ_discrete w u) [
        | yes e ↦ rw e (omega (arith, near_set, least.all x h))
        | no e ↦
            let q = get_or-set_other D u w near 0 e in
            omega (arith, q, other w x m h e, o.low w x m h (λ y. z (q ∙ y)))
      ];
    }

-- node v is taken, and its row noted
pub lows_taken : {l : Layout} {W D H L : List ℕ} → Heights l W D H → Lows l W D L → (v : ℕ) → v < l.nodes
    → get_or D v 0 ≢ 0 → Lows l W (set D v 0) (set L v (get_or D v 0))
lows_taken {D = D} {L = L} o k v n d = record {
  long = rw (length-set L v (get_or D v 0)) k.long;
  least = λ u x m h z. elim (ℕ_discrete u v) [
    | yes e ↦ rw (e, get_or-set_same L v (get_or D v 0) 0 (omega (arith, k.long))) (o.low v x n h d)
    | no e ↦
        rw (get_or-set_other L v u (get_or D v 0) 0 e)
        (k.least u x m h (sym (get_or-set_other D v u 0 0 e) ∙ z))
  ];
}

-- where every node is clean
pub lows_bounds : {l : Layout} {W D H L : List ℕ} → Heights l W D H → Lows l W D L
    → ((u : ℕ) → u < l.nodes → get_or D u 0 ≡ 0)
    → Bounds l W L H
lows_bounds o k clean = record {
  wide = k.long;
  tall = o.tall;
  low = λ u x n h. k.least u x n h (clean u n);
  high = o.high;
}

-- A TABLE with an entry for node b alone
module _ (b e : ℕ) (n : b < most_nodes) where
  only_long : length (set (replicate most_nodes 0) b e) ≡ most_nodes
  only_long = length-set (replicate most_nodes 0) b e ∙ length-replicate {A = ℕ} most_nodes 0

  pub only_same : get_or (set (replicate most_nodes 0) b e) b 0 ≡ e
  only_same = get_or-set_same (replicate most_nodes 0) b e 0 (rw (length-replicate {A = ℕ} most_nodes 0) n)

  pub only_other : (u : ℕ) → u < most_nodes → u ≢ b → get_or (set (replicate most_nodes 0) b e) u 0 ≡ 0
  only_other u h ne =
      get_or-set_other (replicate most_nodes 0) b u e 0 ne ∙ get_or-replicate most_nodes u 0 0 h

  only_one : 0 < e → 1 ≤ numbered (set (replicate most_nodes 0) b e)
  unfolding numbered
  only_one some =
      omega (
        arith,
        total_set (replicate most_nodes 0) most_nodes b e n (rw (length-replicate {A = ℕ} most_nodes 0) n),
        get_or-replicate {A = ℕ} most_nodes b 0 0 n,
      )

-- at first every node but b is clean, and has no number
pub lows_first : {l : Layout} {b : ℕ} {W : List ℕ} → b < l.nodes → l.nodes ≤ most_nodes
    → ((u x : ℕ) → u < l.nodes → x < l.period → u ≢ b → grid_at l.period W u x ≡ never)
    → Lows l W (set (replicate most_nodes 0) b never) (replicate most_nodes 0)
lows_first {b = b} n few away = record {
  long = rw (length-replicate {A = ℕ} most_nodes 0) few;
  least = λ u x m h z. elim (ℕ_discrete u b) [
    | yes e ↦ absurd (omega (arith, only_same b never (omega arith), rw e at z))
    | no e ↦ omega (arith, away u x m h e)
  ];
}

-- b's row is 0, and no other row has a number
pub heights_first : {l : Layout} {b : ℕ} {W : List ℕ} → b < l.nodes → length W ≡ l.nodes * l.period
    → l.nodes ≤ most_nodes → ((x : ℕ) → x < l.period → grid_at l.period W b x ≡ 0)
    → ((u x : ℕ) → u < l.nodes → x < l.period → u ≢ b → grid_at l.period W u x ≡ never)
    → Heights l W (set (replicate most_nodes 0) b never) (set (replicate most_nodes 0) b never)
heights_first {l} {b} {W} n size few home away = record {
  size = size;
  wide = omega (arith, only_long b never node);
  tall = omega (arith, only_long b never node);
  high = λ u x m h. elim (ℕ_discrete u b) [
    | yes e ↦ rw e (omega (arith, same, home x h))
    | no e ↦ omega (arith, away u x m h e, other u m e)
  ];
  bound = λ u m z. elim (ℕ_discrete u b) [
    | yes e ↦ rw e
        (omega (arith, same, mul-le-mul_right l.period (only_one b never node (omega arith))))
    | no e ↦ absurd (z (other u m e))
  ];
  dirty = λ u m z. z;
  low = λ u x m h z. elim (ℕ_discrete u b) [
    | yes e ↦ rw e (omega (arith, same))
    | no e ↦ absurd (z (other u m e))
  ];
}
  where
    node : b < most_nodes
    node = omega arith

    same : get_or (set (replicate most_nodes 0) b never) b 0 ≡ never
    same = only_same b never node

    other : (u : ℕ) → u < l.nodes → u ≢ b → get_or (set (replicate most_nodes 0) b never) u 0 ≡ 0
    other u m ne = only_other b never node u (omega arith) ne
