-- The rows as they read while the work goes on (`seen`): that of a node with 0 in H has no number, whatever
-- stands in the list. So no row need be filled before it gets its first numbers, but those that got none and
-- are wanted are filled in the end (`ShownFor`).
use mathlib.Core.{Path.◌≡◌, Path.refl, Path.sym, Path.◌∙◌, Bool.Bool, Bool.true, Bool.false, Bool.true≢false}
use mathlib.Core.{Logic.◌≢◌, List.List}
use Rattle.std.specs.Prelude.{ℕ, zero, suc, ◌+◌, ◌-◌, ◌*◌, ◌/◌, ◌≤◌, ◌<◌, length, get_or}
use Rattle.std.proofs.Math.Nat.{div-eq_of_lt-le, lt-div-mul-add, mul-le-mul_right}
use Rattle.std.proofs.Common.{div-mul-le_self}
use native.Mathlib.{Omega.arith, Decide.ℕ_discrete, Decide.dec_lt}
use Rattle.std.proofs.Math.ListN.{get_or-eq_default}
use Rattle.theory_loops.specs.{Fill.Filled, Fill.tab, Fill.length_tab, Fill.get_or_tab, Grid.grid_at}
use Rattle.theory_paths.specs.{Graph.Graph, Earliest.never}
use Rattle.network.specs.declared.header.Layout.{Layout}
use Rattle.toward_row.specs.{Cut.Cut, Cut.Fallen, Lower.offer, Lower.lowest, Lower.Known}
use Rattle.toward_list.specs.Heights.{Heights, Near, Highest, Bounds}
use Rattle.toward_list.specs.Rows.{row_lowered, WorkedFor}

-- an entry of the row of a node that has `room` in H
unfoldable pub reads : ℕ → ℕ → ℕ
reads zero entry = never
reads (suc room) entry = entry

unfoldable pub seen : ℕ → List ℕ → List ℕ → List ℕ
seen wide H W = tab (length W) (λ k. reads (get_or H (k / wide) 0) (get_or W k 0))

-- M has the rows of the nodes from `from` up to `to` as they read in W, and those behind as they stand there.
pub record Shown (wide from to : ℕ) (H W M : List ℕ) : Type 0 where
  pub long : length M ≡ length W
  pub row : (u x : ℕ) → from ≤ u → u < to → x < wide → grid_at wide M u x ≡ grid_at wide (seen wide H W) u x
  pub after : (u x : ℕ) → to ≤ u → x < wide → grid_at wide M u x ≡ grid_at wide W u x

-- M has the row of the node `goal` as it reads in W, or every row, where there is no such node.
pub record ShownFor (l : Layout) (goal : ℕ) (H W M : List ℕ) : Type 0 where
  pub long : length M ≡ length W
  pub row : (u x : ℕ) → u < l.nodes → (goal < l.nodes → u ≡ goal) → x < l.period
      → grid_at l.period M u x ≡ grid_at l.period (seen l.period H W) u x

reads_bare : (room entry : ℕ) → room ≡ 0 → reads room entry ≡ never
unfolding reads
reads_bare zero entry e = refl
reads_bare (suc room) entry e = absurd (omega arith)

reads_some : (room entry : ℕ) → room ≢ 0 → reads room entry ≡ entry
unfolding reads
reads_some zero entry e = absurd (e refl)
reads_some (suc room) entry e = refl

-- THE PLACES of a row
module _ (wide u k : ℕ) where
  place_in : u * wide ≤ k → k < u * wide + wide → k / wide ≡ u
  place_in lo hi = div-eq_of_lt-le wide lo (omega arith)

  place_before : k < u * wide → k / wide ≢ u
  place_before h e = omega (arith, rw e at (div-mul-le_self k wide))

  place_after : 0 < wide → u * wide + wide ≤ k → k / wide ≢ u
  place_after some h e = omega (arith, rw e at (lt-div-mul-add {a = k} some))

module _ (wide : ℕ) (H W : List ℕ) where
  pub seen_long : length (seen wide H W) ≡ length W
  unfolding seen
  seen_long = length_tab (length W) _

  seen_entry : (k : ℕ) → k < length W → get_or (seen wide H W) k 0 ≡ reads (get_or H (k / wide) 0) (get_or W k 0)
  unfolding seen
  seen_entry k h = get_or_tab (length W) _ k h

  seen_past : (k : ℕ) → length W ≤ k → get_or (seen wide H W) k 0 ≡ get_or W k 0
  seen_past k h = get_or-eq_default (seen wide H W) 0 (rw seen_long h) ∙ sym (get_or-eq_default W 0 h)

  -- an entry of node u's row
  module _ (u k : ℕ) (lo : u * wide ≤ k) (hi : k < u * wide + wide) where
    entry_some : get_or H u 0 ≢ 0 → get_or (seen wide H W) k 0 ≡ get_or W k 0
    entry_some some = elim (dec_lt k (length W)) [
      | yes h ↦ seen_entry k h ∙ reads_some _ _ (rw (place_in wide u k lo hi) some)
      | no h ↦ seen_past k (omega arith)
    ]

    entry_bare : k < length W → get_or H u 0 ≡ 0 → get_or (seen wide H W) k 0 ≡ never
    entry_bare h bare = seen_entry k h ∙ reads_bare _ _ (rw (place_in wide u k lo hi) bare)

  module _ (u x : ℕ) (h : x < wide) where
    pub seen_some : get_or H u 0 ≢ 0 → grid_at wide (seen wide H W) u x ≡ grid_at wide W u x
    unfolding grid_at
    seen_some some = entry_some u (u * wide + x) (omega arith) (omega arith) some

    pub seen_bare : u * wide + x < length W → get_or H u 0 ≡ 0 → grid_at wide (seen wide H W) u x ≡ never
    unfolding grid_at
    seen_bare l bare = entry_bare u (u * wide + x) (omega arith) (omega arith) l bare

  -- FOR CODE that looks at the row of a node with numbers
  pub seen_near : {u near : ℕ} → get_or H u 0 ≢ 0 → Near wide W u near → Near wide (seen wide H W) u near
  seen_near {u} some n = record { all = λ x h. omega (arith, seen_some u x h some, n.all x h) }

  pub seen_highest : {u high : ℕ} → get_or H u 0 ≢ 0 → Highest wide W u high
      → Highest wide (seen wide H W) u high
  seen_highest {u} some t = record {
    most = λ x h. omega (arith, seen_some u x h some, t.most x h);
    at = t.at;
    within = t.within;
    met = seen_some u t.at t.within some ∙ t.met;
  }

  pub seen_known : {first : Bool} (u : ℕ) → (first ≡ false → get_or H u 0 ≢ 0)
      → Known first (seen wide H W) (u * wide) (u * wide + wide) → Known first W (u * wide) (u * wide + wide)
  seen_known u some w = record {
    numbers = λ t. record {
      entry = λ k lo hi. omega (arith, entry_some u k lo hi (some t), (w.numbers t).entry k lo hi);
    };
  }

-- the list has a number for each node and tick
pub seen_size : {l : Layout} {D H : List ℕ} (W : List ℕ) → Heights l (seen l.period H W) D H
    → length W ≡ l.nodes * l.period
seen_size {l} {H = H} W o = sym (seen_long l.period H W) ∙ o.size

-- first or not
pub by_first : {A : Type 0} (first : Bool) → (first ≡ true → A) → (first ≡ false → A) → A
by_first true f g = f refl
by_first false f g = g refl

-- what an entry becomes is at most what is given
lowest_most : (first : Bool) (old given : ℕ) → lowest first old given ≤ given
unfolding lowest
lowest_most true old given = omega arith
lowest_most false old given = omega arith

-- NODE u's ROW, LOWERED: W becomes M. Its first numbers are written over what stood there.
module _ {r : ℕ} {first : Bool} {W M : List ℕ} (wide u : ℕ) (w h : ℕ → ℕ)
    (c : Cut first (u * wide) (u * wide + wide) (row_lowered first w h wide (u * wide) W) W M r) where
  row_given : (k : ℕ) → u * wide ≤ k → k < u * wide + wide
      → get_or M k 0 ≡ lowest first (get_or W k 0) (offer w h wide (k - u * wide))
  unfolding row_lowered
  row_given k lo hi = c.filled.written k lo hi

  pub row_most : (k : ℕ) → u * wide ≤ k → k < u * wide + wide → get_or M k 0 ≤ offer w h wide (k - u * wide)
  row_most k lo hi =
      omega (arith, row_given k lo hi, lowest_most first (get_or W k 0) (offer w h wide (k - u * wide)))

  pub row_first : first ≡ true → (x : ℕ) → x < wide → grid_at wide M u x ≡ offer w h wide x
  unfolding grid_at lowest
  row_first t x i =
      let e : u * wide + x - u * wide ≡ x = omega arith in
      rw (t, e) at (row_given (u * wide + x) (omega arith) (omega arith))

  -- as it reads it is lowered, where u has numbers then
  module _ (H I : List ℕ) (some : 0 < wide) (fits : u * wide + wide ≤ length W)
      (bare : first ≡ true → get_or H u 0 ≡ 0)
      (known : first ≡ false → get_or H u 0 ≢ 0) (got : get_or I u 0 ≢ 0)
      (others : (v : ℕ) → v ≢ u → get_or I v 0 ≡ get_or H v 0)
      (early : (x : ℕ) → x < wide → offer w h wide x < never) where
    other_entry : (k : ℕ) → k / wide ≢ u → get_or M k 0 ≡ get_or W k 0
        → get_or (seen wide I M) k 0 ≡ get_or (seen wide H W) k 0
    other_entry k ne e = elim (dec_lt k (length W)) [
      | yes l ↦ seen_entry wide I M k (omega (arith, c.filled.long))
          ∙ rw (others (k / wide) ne, e) (sym (seen_entry wide H W k l))
      | no l ↦ seen_past wide I M k (omega (arith, c.filled.long)) ∙ e
          ∙ sym (seen_past wide H W k (omega arith))
    ]

    entry_lowest : (k : ℕ) → u * wide ≤ k → k < u * wide + wide
        → lowest first (get_or W k 0) (offer w h wide (k - u * wide))
        ≡ row_lowered false w h wide (u * wide) (seen wide H W) k
    unfolding row_lowered lowest
    entry_lowest k lo hi = by_first first
        (λ t. rw t (omega (
          arith,
          entry_bare wide H W u k lo hi (omega arith) (bare t),
          early (k - u * wide) (omega arith),
        )))
        (λ t. rw (t, entry_some wide H W u k lo hi (known t)))

    fallen_first : first ≡ true → Fallen (u * wide) (u * wide + wide) (seen wide H W) (seen wide I M)
    fallen_first t = record {
      at = u * wide;
      from = omega arith;
      to = omega arith;
      less = omega (
        arith,
        entry_some wide I M u (u * wide) (omega arith) (omega arith) got,
        row_given (u * wide) (omega arith) (omega arith),
        lowest_most first (get_or W (u * wide) 0) (offer w h wide (u * wide - u * wide)),
        early (u * wide - u * wide) (omega arith),
        entry_bare wide H W u (u * wide) (omega arith) (omega arith) (omega arith) (bare t),
      );
    }

    fallen : Fallen (u * wide) (u * wide + wide) W M → get_or H u 0 ≢ 0
        → Fallen (u * wide) (u * wide + wide) (seen wide H W) (seen wide I M)
    fallen f ne = record {
      at = f.at;
      from = f.from;
      to = f.to;
      less = omega (
        arith,
        f.less,
        entry_some wide H W u f.at f.from f.to ne,
        entry_some wide I M u f.at f.from f.to got,
      );
    }

    pub seen_cut : Cut false (u * wide) (u * wide + wide)
        (row_lowered false w h wide (u * wide) (seen wide H W)) (seen wide H W) (seen wide I M) r
    seen_cut = record {
      filled = record {
        long = seen_long wide I M ∙ c.filled.long ∙ sym (seen_long wide H W);
        written = λ k lo hi. entry_some wide I M u k lo hi got ∙ row_given k lo hi ∙ entry_lowest k lo hi;
        before = λ k l. other_entry k (place_before wide u k l) (c.filled.before k l);
        after = λ k l. other_entry k (place_after wide u k some l) (c.filled.after k l);
      };
      few = c.few;
      all = λ t. absurd (true≢false (sym t));
      none = λ _ z k lo hi. by_first first (λ t. absurd (omega (arith, c.all t)))
          (λ t. entry_some wide I M u k lo hi got ∙ c.none t z k lo hi
          ∙ sym (entry_some wide H W u k lo hi (known t)));
      some = λ _ z. by_first first fallen_first (λ t. fallen (c.some t z) (known t));
    }

-- FOR THE LOOP that fills the rows without a number
module _ (wide from : ℕ) (H W : List ℕ) where
  pub shown_none : Shown wide from from H W W
  shown_none = record { long = refl; row = λ u x lo hi h. absurd (omega arith); after = λ u x l h. refl }

  module _ {M : List ℕ} (v : ℕ) (s : Shown wide from v H W M) where
    -- node v has numbers
    pub shown_some : get_or H v 0 ≢ 0 → Shown wide from (v + 1) H W M
    shown_some some = record {
      long = s.long;
      row = λ u x lo hi h. elim (ℕ_discrete u v) [
        | yes e ↦ rw e (s.after v x (omega arith) h ∙ sym (seen_some wide H W v x h some))
        | no e ↦ s.row u x lo (omega arith) h
      ];
      after = λ u x l h. s.after u x (omega arith) h;
    }

    -- it has none
    pub shown_bare : {N : List ℕ} → v * wide + wide ≤ length W → get_or H v 0 ≡ 0
        → Filled (v * wide) (v * wide + wide) (λ _. never) M N → Shown wide from (v + 1) H W N
    unfolding grid_at
    shown_bare fits bare f = record {
      long = f.long ∙ s.long;
      row = λ u x lo hi h. elim (ℕ_discrete u v) [
        | yes e ↦ rw e (f.written (v * wide + x) (omega arith) (omega arith)
            ∙ sym (seen_bare wide H W v x h (omega arith) bare))
        | no e ↦
            let l : u < v = omega arith in
            f.before (u * wide + x) (omega (arith, mul-le-mul_right wide l)) ∙ s.row u x lo l h
      ];
      after = λ u x l h.
          f.after (u * wide + x) (omega (arith, mul-le-mul_right wide l)) ∙ s.after u x (omega arith) h;
    }

  pub shown_end : {M : List ℕ} (v to : ℕ) → Shown wide from v H W M → v ≤ to → to ≤ v
      → Shown wide from to H W M
  shown_end v to s l m = let e : v ≡ to = omega arith in rw e at s

-- THE ROWS THAT ARE WANTED
module _ {l : Layout} {goal : ℕ} {H W M : List ℕ} where
  pub wanted_one : goal < l.nodes → Shown l.period goal (goal + 1) H W M → ShownFor l goal H W M
  wanted_one n s = record {
    long = s.long;
    row = λ u x m e h. let q = e n in s.row u x (omega arith) (omega arith) h;
  }

  pub wanted_all : l.nodes ≤ goal → Shown l.period 0 l.nodes H W M → ShownFor l goal H W M
  wanted_all n s = record { long = s.long; row = λ u x m e h. s.row u x (omega arith) m h }

  pub shown_bounds : {L : List ℕ} → ShownFor l goal H W M → l.nodes ≤ goal
      → Bounds l (seen l.period H W) L H → Bounds l M L H
  shown_bounds s n o = record {
    wide = o.wide;
    tall = o.tall;
    low = λ u x m h. omega (arith, s.row u x m (λ q. absurd (omega arith)) h, o.low u x m h);
    high = λ u x m h. omega (arith, s.row u x m (λ q. absurd (omega arith)) h, o.high u x m h);
  }

  pub shown_worked : {g : Graph} {b : ℕ} → ShownFor l goal H W M → l.nodes ≡ g.nodes → l.period ≡ g.period
      → WorkedFor g b goal (seen l.period H W) → WorkedFor g b goal M
  shown_worked {g} s n p w = record {
    at = λ u x m e h.
        (rw p at (s.row u x (omega arith) (λ q. e (omega arith)) (omega arith))) ∙ (rw p at (w.at u x m e
        h));
  }
