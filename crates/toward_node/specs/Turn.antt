-- The laws of the code: an arc's turn, a node's turn, and turn after turn until no dirty node is near enough.
-- `bar` is on the scale of the tables: what is not below never less `bar` is not wanted.
use mathlib.Core.{Path.◌≡◌, Path.refl, Path.sym, Path.◌∙◌, Path.ap, Bool.Bool, Bool.true, Bool.false}
use mathlib.Core.{Logic.◌≢◌, List.List}
use Prim.Native.Nat.{ℕ, ◌+◌, ◌-◌, ◌*◌, ◌%◌, ◌^◌, ◌≤◌, ◌<◌, max, zero-le}
use native.Mathlib.{Nat.mul-le-mul, Nat.mul-le-mul_right, Nat.mod-lt, Omega.arith}
use Rattle.std.proofs.Math.Decide.{ℕ_discrete, dec_lt}
use lib.{ListN.length, ListN.get_or, ListN.set, ListN.replicate, Seq.get_or-set_same, Seq.get_or-set_other}
use Rattle.theory_loops.specs.{Fill.Filled, Grid.grid_at, Grid.grid_in}
use Rattle.theory_paths.specs.{Graph.Graph, Earliest.never, Least.Travels, Least.Modest}
use Rattle.theory_paths.proofs.Least.{least_is}
use Rattle.theory_paths.specs.{Settled.gives_ticks, Queue.Lowering}
use Rattle.theory_paths.proofs.Queue.{queue_first, queue_bar}
use Rattle.network.specs.declared.header.Layout.{Layout}
use Rattle.network.specs.{Network.tail, Network.head, Decode.decode}
use Rattle.network.specs.Town.{graph_of, travel_at, town_bounded}
use Rattle.search_chains.specs.Town.{Town, lawful, tail_node, head_node}
use Rattle.search_chains.specs.Chain.{Chained, NextArc}
use Rattle.toward_row.specs.{Arcs.Primed, Cut.Cut, Lower.entries, Lower.offer, Lower.Numbers}
use Rattle.theory_paths.specs.Queue.{Queue}
use Rattle.theory_paths.proofs.Queue.{queue_begin, queue_skip, queue_quiet, queue_lower, queue_least}
use Rattle.toward_list.specs.{Burden.burden, Burden.burden_clear, Burden.burden_lower, Leasts.LeastTravel}
use Rattle.toward_list.specs.Heights.{Heights, Held, Near, NearFirst, Highest, numbered}
use Rattle.toward_list.specs.Heights.{number_early, heights_held, held_capped}
use Rattle.toward_list.specs.Heights.{heights_clear, heights_lower, heights_first, numbered_early}
use Rattle.toward_list.specs.Heights.{only_same, only_other, Lows, Bounds}
use Rattle.toward_list.specs.Heights.{lows_taken, lows_bounds, lows_first}
use Rattle.toward_list.specs.Rows.{rows_of, WorkedFor, row_lowered, row_lower, row_same, row_lowering}
use Rattle.toward_list.specs.Rows.{row_quiet, row_held}
use Rattle.toward_list.specs.Seen.{seen, seen_long, seen_size, seen_some, seen_bare}
use Rattle.toward_list.specs.Seen.{seen_near, seen_highest, seen_cut, row_most, row_first, by_first}
use Rattle.network.specs.Limits.{most_arcs, most_nodes, most_period}

-- A town, the table of its arcs' first points, and the chains of the arcs into each node.
pub record Ready (file : List ℕ) (l : Layout) (starts into next : List ℕ) : Type 0 where
  pub primed : Primed file l starts
  pub chained : Chained (head (decode file)) l.nodes l.arcs 0 into next

-- All that is to be done of the arcs into the clean nodes is done.
abbrev pub Idle : Graph → ℕ → ℕ → Travels → List ℕ → Type 0
Idle g b bar T D = Queue g b (never - bar) 0 g.arcs T D

-- what is left to do
abbrev pub left : Layout → List ℕ → List ℕ → ℕ
left l W D = burden (l.nodes * l.period) W D

-- A node that is clean in the end was clean before, and its row has stayed.
pub record Kept (l : Layout) (W D M E : List ℕ) : Type 0 where
  pub clean : (u : ℕ) → u < l.nodes → get_or E u 0 ≡ 0 → get_or D u 0 ≡ 0
  pub row : (u x : ℕ) → u < l.nodes → x < l.period → get_or E u 0 ≡ 0
      → grid_at l.period M u x ≡ grid_at l.period W u x

kept_same : {l : Layout} {W D : List ℕ} → Kept l W D W D
kept_same = record { clean = λ u n z. z; row = λ u x n h z. refl }

kept_on : {l : Layout} {W D M E N F : List ℕ} → Kept l W D M E → Kept l M E N F → Kept l W D N F
kept_on j k = record {
  clean = λ u n z. j.clean u n (k.clean u n z);
  row = λ u x n h z. k.row u x n h z ∙ j.row u x n h (k.clean u n z);
}

kept_lows : {l : Layout} {W D M E L : List ℕ} → Kept l W D M E → Lows l W D L → Lows l M E L
kept_lows j k = record {
  long = k.long;
  least = λ u x n h z. omega (arith, j.row u x n h z, k.least u x n h (j.clean u n z));
}

-- What arc a's turn makes of the list and the tables: W, D and H become M, E and I.
pub record Stepped (file : List ℕ) (l : Layout) (a near bar : ℕ) (hs W D H M E I : List ℕ) : Type 0 where
  pub heights : Heights l M E I
  pub held : Held l.period near hs M I (head (decode file) a)
  pub lighter : left l M E ≤ left l W D
  pub rises : (u : ℕ) → u < l.nodes → get_or H u 0 ≤ get_or I u 0
  pub kept : Kept l W D M E
  pub carried : (b v : ℕ) → Queue (graph_of (decode file)) b (never - bar) v a (rows_of l.period W) D
      → Queue (graph_of (decode file)) b (never - bar) v (a + 1) (rows_of l.period M) E

-- Node v's turn under way, from where it is clean: arc a is next.
pub record Walking (file : List ℕ) (l : Layout) (v a near bar : ℕ) (hs W D H M E I : List ℕ) : Type 0 where
  pub within : a ≤ most_arcs
  pub meets : a < l.arcs → head (decode file) a ≡ v
  pub heights : Heights l M E I
  pub held : Held l.period near hs M I v
  pub lighter : left l M E ≤ left l W D
  pub rises : (u : ℕ) → u < l.nodes → get_or H u 0 ≤ get_or I u 0
  pub kept : Kept l W D M E
  pub carried : (b : ℕ) → Queue (graph_of (decode file)) b (never - bar) v 0 (rows_of l.period W) D
      → Queue (graph_of (decode file)) b (never - bar) v a (rows_of l.period M) E

-- What a node's turn makes of them.
pub record Turned (file : List ℕ) (l : Layout) (bar : ℕ) (W D H M E I L : List ℕ) : Type 0 where
  pub heights : Heights l M E I
  pub lows : Lows l M E L
  pub lighter : left l M E < left l W D
  pub rises : (u : ℕ) → u < l.nodes → get_or H u 0 ≤ get_or I u 0
  pub carried : (b : ℕ) → Idle (graph_of (decode file)) b bar (rows_of l.period W) D
      → Idle (graph_of (decode file)) b bar (rows_of l.period M) E

-- v is a dirty node, or none has more than `bar` in D.
pub record Found (nodes bar : ℕ) (D : List ℕ) (v : ℕ) : Type 0 where
  pub dirty : v < nodes → get_or D v 0 ≢ 0
  pub none : nodes ≤ v → (u : ℕ) → u < nodes → get_or D u 0 ≤ bar

-- What is wanted are the numbers of the node `goal`, so nothing that is not below its greatest; or those of
-- all nodes, where there is no such node.
pub record Bar (nodes goal : ℕ) (H : List ℕ) (bar : ℕ) : Type 0 where
  pub one : goal < nodes → bar ≡ get_or H goal 0
  pub all : nodes ≤ goal → bar ≡ 0

-- Between two turns: v is next.
pub record Waiting (file : List ℕ) (l : Layout) (b goal bar : ℕ) (W D H L : List ℕ) (v : ℕ) : Type 0 where
  pub heights : Heights l W D H
  pub lows : Lows l W D L
  pub bars : Bar l.nodes goal H bar
  pub queue : Idle (graph_of (decode file)) b bar (rows_of l.period W) D
  pub found : Found l.nodes bar D v

module _ {file : List ℕ} {l : Layout} (t : Town file l) where
  pub modest : Modest (graph_of (decode file))
  modest = record {
    lawful = lawful t;
    bounded = town_bounded t.sound;
    early =
        let n : (graph_of (decode file)).nodes ≤ most_nodes = omega (
          arith,
          t.sizes.nodes,
          t.small.nodes_most,
        ) in
        let p : (graph_of (decode file)).period ≤ most_period =
        omega (arith, t.sizes.period, t.small.period_most) in
        omega (arith, mul-le-mul n p);
  }

  arc_apart : (a : ℕ) → a < l.arcs → tail (decode file) a ≢ head (decode file) a
  arc_apart a h = (t.sound.arc a (omega (arith, t.sizes.arcs))).apart

-- AN ARC'S TURN: u is its tail
module _ {file : List ℕ} {l : Layout} {starts hs W D H : List ℕ} {a u near : ℕ} (t : Primed file l starts)
    (h : a < l.arcs) (o : Heights l W D H)
    (k : Held l.period near hs W H (head (decode file) a)) (e : u ≡ tail (decode file) a) where
  node : u < l.nodes
  node = tail_node t.town a u h e

  met : head (decode file) a < l.nodes
  met = head_node t.town a (head (decode file) a) h refl

  in_graph : a < (graph_of (decode file)).arcs
  in_graph = omega (arith, t.town.sizes.arcs)

  -- the tick at which it ends is one of the day
  ended : (x : ℕ) → (x + travel_at (decode file) a x) % (decode file).period < l.period
  ended x =
      let p : 0 < (decode file).period = omega (arith, t.town.sizes.period, t.town.small.period_some) in
      omega (arith, t.town.sizes.period, mod-lt (x + travel_at (decode file) a x) p)

  -- its least travel is less than what `near` says of its head
  pub least_near : {m : ℕ} → LeastTravel file l a m → m ≤ near
  least_near w =
      let x = t.town.small.period_some in
      let y : 0 < (decode file).period = omega (arith, t.town.sizes.period) in
      omega (
        arith,
        w.all 0 x,
        town_bounded t.town.sound a 0 in_graph y,
        t.town.sizes.period,
        k.least 0 x,
        k.at 0 x,
        number_early t.town.small o (head (decode file) a) 0 met x k.some,
        numbered_early t.town.small o,
      )

  -- no entry of its tail's row is above what it gives, or it gives nothing that is wanted: by the tables
  pub stepped_skip : {m bar : ℕ} → LeastTravel file l a m → near ≤ max (get_or H u 0) bar + m
      → Stepped file l a near bar hs W D H W D H
  unfolding gives_ticks
  stepped_skip w z = record {
    heights = o;
    held = k;
    lighter = omega arith;
    rises = λ w m. omega arith;
    kept = kept_same;
    carried = λ b v q. queue_quiet q (λ x i j.
        let y : x < l.period = omega (arith, t.town.sizes.period) in
        let f = rw e at (o.high u x node y) in
        omega (arith, w.all x y, rw e at z, k.at _ (ended x), k.least _ (ended x)));
  }

  module _ {M : List ℕ} {r : ℕ} (c : Cut false (u * l.period) (u * l.period + l.period)
      (row_lowered false (travel_at (decode file) a) (entries hs) l.period (u * l.period) W) W M r) where
    start : u * l.period ≡ tail (decode file) a * l.period
    start = rw e

    lowering : Lowering (graph_of (decode file)) a (rows_of l.period W) (rows_of l.period M)
    lowering =
        row_lowering (graph_of (decode file)) a l.period (u * l.period) (u * l.period + l.period) r hs
        W M
        t.town.sizes.period t.town.small.period_some start refl k.at c

    still : {I : List ℕ} → get_or I (head (decode file) a) 0 ≢ 0
        → Held l.period near hs M I (head (decode file) a)
    still some = record {
      long = k.long;
      at = row_held (graph_of (decode file)) a l.period (u * l.period) (u * l.period + l.period) r hs W M
          t.town.sizes.period t.town.small.period_some start refl
          k.at c (arc_apart t.town a h);
      some = some;
      least = k.least;
    }

    stepped_quiet : {bar : ℕ} → r ≡ 0 → Stepped file l a near bar hs W D H M D H
    stepped_quiet z =
        let same : M ≡ W = row_same c z in
        record {
          heights = rw same o;
          held = still k.some;
          lighter = rw same (omega arith);
          rises = λ w m. omega arith;
          kept = rw same kept_same;
          carried = λ b v q. rw same (queue_quiet q (λ x i _.
              row_quiet (graph_of (decode file)) a l.period (u * l.period) (u * l.period + l.period) r
              hs W M t.town.sizes.period t.town.small.period_some start refl k.at c z x i));
        }

    -- what it gives is at most a period more than its head's numbers
    given : (x : ℕ) → x < l.period → grid_at l.period M u x ≤ numbered H * l.period
    unfolding gives_ticks
    given x i =
        let y : x < (decode file).period = omega (arith, t.town.sizes.period) in
        rw e
        (omega (
          arith,
          lowering.at x y,
          town_bounded t.town.sound a x in_graph y,
          t.town.sizes.period,
          number_early t.town.small o (head (decode file) a) _ met (ended x) k.some,
        ))

    near_some : {d : ℕ} → Near l.period M u d → 0 < d
    near_some n =
        let x = t.town.small.period_some in
        omega (arith, n.all 0 x, given 0 x, numbered_early t.town.small o)

    other_row : (w x : ℕ) → w < l.nodes → x < l.period → w ≢ u
        → grid_at l.period M w x ≡ grid_at l.period W w x
    other_row w x m i ne =
        lowering.other w x (omega (arith, t.town.sizes.nodes)) (omega (arith, t.town.sizes.period))
        (λ q. ne (q ∙ sym e))

    -- a node that is clean once the tail is dirty is another
    other_clean : {d : ℕ} → Near l.period M u d → (w : ℕ) → get_or (set D u d) w 0 ≡ 0 → w ≢ u
    other_clean {d} n w q i =
        omega (arith, near_some n, get_or-set_same D u d 0 (omega (arith, node, o.wide)), rw i at q)

    stepped_lower : {bar : ℕ} → 0 < r → {d high : ℕ} → Near l.period M u d
        → Highest l.period M u high
        → Stepped file l a near bar hs W D H M (set D u d) (set H u (never - high))
    stepped_lower z {d} {high} n top =
        let apart : head (decode file) a ≢ u = λ q. arc_apart t.town a h (sym e ∙ sym q) in
        let kept = get_or-set_other H u (head (decode file) a) (never - high) 0 apart in
        record {
          heights = heights_lower t.town.small o node c.filled.long
              other_row
              (λ x i. rw e (omega (arith, lowering.at x (omega (arith, t.town.sizes.period))))) given n
              top;
          held = still (λ q. k.some (sym kept ∙ q));
          lighter =
              burden_lower (l.nodes * l.period) D u (omega (arith, node, t.town.small.nodes_most))
              (omega (arith, node, o.wide)) c z
              (let m : u + 1 ≤ l.nodes = omega (arith, node) in omega (
                arith,
                mul-le-mul_right l.period
                    m,
              ))
              (λ i _ _. row_lower _ _ _ _ W i) d;
          rises = λ w m. elim (ℕ_discrete w u) [
            | yes i ↦
                let was = o.high u top.at node top.within in
                let falls = lowering.at top.at (omega (arith, t.town.sizes.period, top.within)) in
                rw (i, get_or-set_same H u (never - high) 0 (omega (arith, node, o.tall)))
                (omega (arith, top.met, rw (← e) at falls))
            | no i ↦ omega (arith, get_or-set_other H u w (never - high) 0 i)
          ];
          kept = record {
            clean = λ w m q. sym (get_or-set_other D u w d 0 (other_clean n w q)) ∙ q;
            row = λ w x m i q. other_row w x m i (other_clean n w q);
          };
          carried = λ b v q. rw e
              (queue_lower (lawful t.town) lowering in_graph d (near_some n) q
              (omega (arith, node, o.wide, e)));
        }

-- AN ARC'S TURN, BY THE LIST: its rows are as they are seen, and `first` says that the tail has no number yet
module _ {file : List ℕ} {l : Layout} {starts hs W M D H : List ℕ} {a u near r : ℕ} {first : Bool}
    (t : Primed file l starts) (h : a < l.arcs) (o : Heights l (seen l.period H W) D H)
    (k : Held l.period near hs (seen l.period H W) H (head (decode file) a))
    (e : u ≡ tail (decode file) a)
    (c : Cut first (u * l.period) (u * l.period + l.period)
    (row_lowered first (travel_at (decode file) a) (entries hs) l.period (u * l.period) W) W M r) where
  fits : u * l.period + l.period ≤ length W
  fits =
      let n : u + 1 ≤ l.nodes = omega (arith, tail_node t.town a u h e) in
      omega (arith, mul-le-mul_right l.period n, seen_size W o)

  offer_early : (x : ℕ) → x < l.period → offer (travel_at (decode file) a) (entries hs) l.period x < 2 ^ 31
  unfolding offer entries
  offer_early x i =
      let z = held_capped t.town.small o k (head_node t.town a (head (decode file) a) h refl) in
      omega (
        arith,
        z.entry _ (mod-lt (x + travel_at (decode file) a x) t.town.small.period_some),
        town_bounded t.town.sound a x (omega (arith, t.town.sizes.arcs))
            (omega (arith, t.town.sizes.period)),
        t.town.sizes.period,
        t.town.small.period_most,
      )

  pub tail_numbers : Numbers M (u * l.period) (u * l.period + l.period)
  tail_numbers = record {
    entry = λ k lo hi.
        omega (arith, row_most l.period u _ _ c k lo hi, offer_early (k - u * l.period) (omega arith));
  }

  -- a row that got its first numbers: none is below the least of its head's row and its least travel
  pub near_first : {m : ℕ} → LeastTravel file l a m → NearFirst first l.period M u (near - m)
  unfolding offer entries
  near_first w = record {
    holds = λ f. record {
      all = λ x i.
          omega (
            arith,
            row_first l.period u _ _ c f x i,
            w.all x i,
            k.least _ (mod-lt (x + travel_at (decode file) a x) t.town.small.period_some),
            least_near t h o k e w,
          );
    };
  }

  module _ (bare : first ≡ true → get_or H u 0 ≡ 0) (known : first ≡ false → get_or H u 0 ≢ 0) where
    cut_seen : (I : List ℕ) → get_or I u 0 ≢ 0 → ((v : ℕ) → v ≢ u → get_or I v 0 ≡ get_or H v 0)
        → Cut false (u * l.period) (u * l.period + l.period)
        (row_lowered false (travel_at (decode file) a) (entries hs) l.period (u * l.period)
        (seen l.period H W)) (seen l.period H W) (seen l.period I M) r
    cut_seen I got others =
        seen_cut l.period u _ _ c H I t.town.small.period_some fits bare known got others
        (λ x i. omega (arith, offer_early x i))

    pub tail_quiet : {bar : ℕ} → r ≡ 0
        → Stepped file l a near bar hs (seen l.period H W) D H (seen l.period H M) D H
    tail_quiet z =
        let f : first ≡ false = by_first first
        (λ q. absurd (omega (arith, c.all q, t.town.small.period_some))) (λ q. q) in
        stepped_quiet t h o k e (cut_seen H (known f) (λ _ _. refl)) z

    pub tail_lower : {bar : ℕ} → 0 < r → {d high : ℕ} → Near l.period M u d → Highest l.period M u high
        → Stepped file l a near bar hs (seen l.period H W) D H
        (seen l.period (set H u (never - high)) M) (set D u d) (set H u (never - high))
    unfolding grid_at
    tail_lower z {d} {high} n top =
        stepped_lower t h o k e
        (cut_seen (set H u (never - high)) got (λ v ne. get_or-set_other H u v (never - high) 0 ne)) z
        (seen_near _ _ _ got n) (seen_highest _ _ _ got top)
      where
        got : get_or (set H u (never - high)) u 0 ≢ 0
        got q =
            let x = top.within in
            omega (
              arith,
              q,
              get_or-set_same H u (never - high) 0 (omega (arith, tail_node t.town a u h e, o.tall)),
              top.met,
              tail_numbers.entry (u * l.period + top.at) (omega arith) (omega arith),
            )

-- A NODE'S TURN
module _ {file : List ℕ} {l : Layout} {starts into next : List ℕ} (t : Ready file l starts into next) where
  -- on to the arc that the table says
  walk_skip : {b bar v i j : ℕ} {T : Travels} {D : List ℕ} → NextArc (head (decode file)) l.arcs v i j
      → Queue (graph_of (decode file)) b bar v i T D
      → Queue (graph_of (decode file)) b bar v j T D
  walk_skip n q = queue_skip q (λ a lo hi m. n.none a lo hi (omega (arith, t.primed.town.sizes.arcs)))

  pub walking_start : {v a bar : ℕ} {old hs D H : List ℕ} (W : List ℕ) → v < l.nodes
      → Heights l (seen l.period H W) D H → get_or D v 0 ≢ 0 → l.period ≤ length old
      → Filled 0 l.period (rows_of l.period W v) old hs → a ≡ get_or into v 0
      → Walking file l v a (get_or D v 0) bar hs (seen l.period H W) (set D v 0) H (seen l.period H W)
      (set D v 0) H
  walking_start {v} {a} {H = H} W h o d room f e =
      let n = t.chained.firsts v h in
      let small = t.primed.town.small in
      rw e (record {
        within = n.within;
        meets = n.meets;
        heights = heights_clear small o v h;
        held = heights_held small o h d (omega (arith, f.long))
            (λ y m. f.written y (omega arith) m ∙ sym (seen_some l.period H W v y m (o.dirty v h d)));
        lighter = omega arith;
        rises = λ u m. omega arith;
        kept = kept_same;
        carried = λ b q. walk_skip n q;
      })

  module _ {v a near bar : ℕ} {hs W D H M E I : List ℕ} (w : Walking file l v a near bar hs W D H M E I) where
    -- FOR THE CALL at arc a
    pub walking_held : a < l.arcs → Held l.period near hs M I (head (decode file) a)
    walking_held h = rw (w.meets h) w.held

    pub walking_next : {c : ℕ} {N F J : List ℕ} → a < l.arcs → Stepped file l a near bar hs M E I N F J
        → c ≡ get_or next a 0
        → Walking file l v c near bar hs W D H N F J
    walking_next h s e =
        let m = w.meets h in
        let n = rw m at (t.chained.nexts a zero-le h) in
        rw e (record {
          within = n.within;
          meets = n.meets;
          heights = s.heights;
          held = rw m at s.held;
          lighter = omega (arith, s.lighter, w.lighter);
          rises = λ u m. omega (arith, s.rises u m, w.rises u m);
          kept = kept_on w.kept s.kept;
          carried = λ b q. walk_skip n (s.carried b v (w.carried b q));
        })

    pub walking_less : {c : ℕ} → a < l.arcs → c ≡ get_or next a 0 → l.arcs - c < l.arcs - a
    walking_less h e = let n = (t.chained.nexts a zero-le h).from in omega (arith, n)

    walking_all : l.arcs ≤ a → {b : ℕ}
        → Queue (graph_of (decode file)) b (never - bar) v a (rows_of l.period M) E
        → Idle (graph_of (decode file)) b bar (rows_of l.period M) E
    walking_all h q = record {
      node = q.node;
      sound = q.sound;
      home = q.home;
      settled = λ c x m k d _. q.settled c x m k d (λ _. omega (arith, t.primed.town.sizes.arcs));
    }

  pub walking_end : {v a near bar : ℕ} {hs W M E H I L : List ℕ} (D : List ℕ) → v < l.nodes
      → Heights l W D H → Lows l W D L → get_or D v 0 ≢ 0
      → Walking file l v a near bar hs W (set D v 0) H M E I → l.arcs ≤ a
      → Turned file l bar W D H M E I (set L v (get_or D v 0))
  walking_end {v} {W = W} D n o k d w h = record {
    heights = w.heights;
    lows = kept_lows w.kept (lows_taken o k v n d);
    lighter =
        omega (
          arith,
          w.lighter,
          burden_clear (l.nodes * l.period) D v (omega (arith, t.primed.town.small.nodes_most))
              (omega (arith, o.wide)) W d,
        );
    rises = w.rises;
    carried = λ b q. walking_all w h (w.carried b (queue_begin q (omega arith) v));
  }

-- TURN AFTER TURN
module _ {file : List ℕ} {l : Layout} {starts into next : List ℕ} (t : Ready file l starts into next)
    {b goal : ℕ} where
  pub waiting_start : {W M : List ℕ} {bar : ℕ} → b < l.nodes → length W ≡ l.nodes * l.period
      → Filled (b * l.period) (b * l.period + l.period) (λ _. 0) W M
      → Bar l.nodes goal (set (replicate most_nodes 0) b never) bar
      → Waiting file l b goal bar (seen l.period (set (replicate most_nodes 0) b never) M)
      (set (replicate most_nodes 0) b never) (set (replicate most_nodes 0) b never) (replicate most_nodes 0) b
  unfolding grid_at
  waiting_start {M = M} h s z k = record {
    heights = heights_first h (seen_long l.period only M ∙ long) few
        (λ x k. home x (omega (arith, town.sizes.period)))
        (λ u x n k. away u x (omega (arith, town.sizes.nodes)) (omega (arith, town.sizes.period)));
    lows = lows_first h few
        (λ u x n k. away u x (omega (arith, town.sizes.nodes)) (omega (arith, town.sizes.period)));
    bars = k;
    queue = queue_first (lawful town) (omega (arith, town.sizes.nodes)) home away
        (λ e. omega (arith, dirty));
    found = record { dirty = λ _ e. omega (arith, dirty); none = λ m. absurd (omega arith) };
  }
    where
      only : List ℕ
      only = set (replicate most_nodes 0) b never

      town : Town file l
      town = t.primed.town

      long : length M ≡ l.nodes * l.period
      long = z.long ∙ s

      few : l.nodes ≤ most_nodes
      few = town.small.nodes_most

      dirty : get_or only b 0 ≡ never
      dirty = only_same b never (omega arith)

      home : (x : ℕ) → x < (graph_of (decode file)).period
          → grid_at l.period (seen l.period only M) b x ≡ 0
      home x k =
          seen_some l.period only M b x (omega (arith, town.sizes.period)) (λ e. omega (arith, dirty))
          ∙ z.written (b * l.period + x) (omega arith) (omega (arith, town.sizes.period))

      away : (u x : ℕ) → u < (graph_of (decode file)).nodes → x < (graph_of (decode file)).period → u ≢ b
          → grid_at l.period (seen l.period only M) u x ≡ never
      away u x n k ne =
          let y : x < l.period = omega (arith, town.sizes.period) in
          let o : u < l.nodes = omega (arith, town.sizes.nodes) in
          seen_bare l.period only M u x y (omega (arith, long, grid_in l.period l.nodes u x o y))
          (only_other b never (omega arith) u (omega arith) ne)

  module _ {W D H L : List ℕ} {bar v : ℕ} (w : Waiting file l b goal bar W D H L v) where
    -- the bar does not fall
    bar_rises : {M E I K : List ℕ} {next-bar : ℕ} → Turned file l bar W D H M E I K
        → Bar l.nodes goal I next-bar
        → bar ≤ next-bar
    bar_rises s k = elim (dec_lt goal l.nodes) [
      | yes m ↦ omega (arith, w.bars.one m, k.one m, s.rises goal m)
      | no m ↦ omega (arith, w.bars.all (omega arith))
    ]

    pub waiting_next : {M E I K : List ℕ} {next-bar u : ℕ} → Turned file l bar W D H M E I K
        → Bar l.nodes goal I next-bar
        → Found l.nodes next-bar E u
        → Waiting file l b goal next-bar M E I K u
    waiting_next s k f = record {
      heights = s.heights;
      lows = s.lows;
      bars = k;
      queue = queue_bar (omega (arith, bar_rises s k)) (s.carried b w.queue);
      found = f;
    }

    -- where every row is wanted no node is dirty in the end
    pub waiting_bounds : l.nodes ≤ v → l.nodes ≤ goal → Bounds l W L H
    waiting_bounds h all =
        lows_bounds w.heights w.lows
        (λ u n. omega (arith, w.found.none h u n, w.bars.all all))

    pub waiting_end : l.nodes ≤ v → WorkedFor (graph_of (decode file)) b goal W
    waiting_end h = record {
      at = λ u x n q y.
          let m = modest town in
          let z : x < l.period = omega (arith, town.sizes.period) in
          let o : u < l.nodes = omega (arith, town.sizes.nodes) in
          ap (λ (p : ℕ). grid_at p W u x) (sym town.sizes.period)
          ∙ least_is m b n y (queue_least m.lawful w.queue (omega arith) far u x n y
          (wanted u x o z (λ k. q (omega (arith, town.sizes.nodes)))));
    }
      where
        town : Town file l
        town = t.primed.town

        far : (u x : ℕ) → u < (graph_of (decode file)).nodes → x < (graph_of (decode file)).period
            → get_or D u 0 ≢ 0
            → never - bar ≤ grid_at l.period W u x
        far u x n y d =
            let o : u < l.nodes = omega (arith, town.sizes.nodes) in
            omega (arith, w.heights.low u x o (omega (arith, town.sizes.period)) d, w.found.none h u o)

        -- the numbers that are wanted are not above the bar
        wanted : (u x : ℕ) → u < l.nodes → x < l.period → (goal < l.nodes → u ≡ goal)
            → grid_at l.period W u x ≤ never - bar
        wanted u x n y q = elim (dec_lt goal l.nodes) [
          | yes m ↦
              let e = q m in
              let k = rw (← e) at (w.bars.one m) in
              omega (arith, w.heights.high u x n y)
          | no m ↦ omega (arith, w.bars.all (omega arith), w.heights.high u x n y)
        ]
