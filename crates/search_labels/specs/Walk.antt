-- What relaxing one arc (`Stepped`), and all arcs out of a node (`Spread`), makes of the labels and the
-- frontier, and the walk over the arcs out of a node, from each to the next by their chain.
use mathlib.Core.{Path.◌≡◌, Path.refl, Path.sym, Path.◌∙◌, Bool.true, List.List}
use Rattle.std.specs.Prelude.{ℕ, ◌+◌, ◌-◌, ◌*◌, ◌≤◌, ◌<◌, length, get_or}
use Rattle.std.proofs.Common.{arith}
use mir.{Val.Fits, Syntax.w32, Syntax.w64}
use Rattle.theory_paths.specs.{Graph.Graph, Graph.ends, Graph.Permit, Graph.ArcFrom}
use Rattle.theory_paths.proofs.Drive.{arc_ends}
use Rattle.theory_paths.specs.Labels.{label}
use Rattle.theory_paths.proofs.Labels.{label_at}
use Rattle.network.specs.{Limits.most_nodes, Limits.most_arcs, Network.tail, Decode.decode}
use Rattle.network.specs.declared.header.Layout.{Layout}
use Rattle.network.specs.Town.{graph_of, town_bounded}
use Rattle.search_chains.specs.{Chain.NextArc, Chain.Chained, Town.last_tick, Town.lawful, Town.head_node}
use Rattle.search_frontier.specs.Relax.{relax_at, Relaxed, Walked, walk_first, walk_next, walk_last}
use Rattle.search_labels.specs.Notes.{
  longer,
  most_note,
  note,
  hops_in,
  notes_at,
  Noted,
  note_early,
  noted_first,
  noted_next,
  noted_last,
}
use Rattle.search_frontier.specs.Settle.{Moved}
use Rattle.search_frontier.specs.Frontier.{
  Held,
  Frontier,
  Open,
  Grown,
  last_label,
  last_end,
  unknown,
  entry_in,
  held_place,
  grown_same,
  grown_open,
  grown_then,
}
use Rattle.search_frontier.specs.Take.{Taken, taken_front, taken_open, taken_moved}
use Rattle.search_labels.specs.Ready.{Ready, permit_of}

-- Arc a, taken at tick y and bringing the a-th note from b on: labels, notes and frontier, before and after.
pub record Stepped (g : Graph) (p : Permit) (y b a : ℕ) (L M H K Q R S : List ℕ) (n m : ℕ) : Type 0 where
  pub labels : M ≡ relax_at g p y a L
  pub notes : K ≡ notes_at g p y b a L H
  pub grown : Grown L M Q R n m
  pub front : Frontier M R S m

-- The node u is taken out of the frontier, and all permitted arcs out of it are taken at its label.
pub record Spread (g : Graph) (p : Permit) (u : ℕ) (L M H K Q R S : List ℕ) (n m : ℕ) : Type 0 where
  pub relaxed : Relaxed g p u (label L u) g.arcs L M
  pub noted : Noted g p u (label L u) (longer (note H u)) g.arcs L M H K
  pub moved : Moved L M (Held Q n) (Held R m) u
  pub sum : m + unknown M < n + unknown L
  pub front : Frontier M R S m

-- In the loop: the walk over the arcs out of u, taken at tick y and bringing notes from b on, stands at arc
-- a, or past the last.
pub record Walking (file : List ℕ) (l : Layout) (mask heads starts first next : List ℕ) (u y b a : ℕ)
    (L M H K Q R S : List ℕ) (n m : ℕ) : Type 0 where
  pub ready : Ready file l mask heads starts
  pub tables : Chained (tail (decode file)) l.nodes l.arcs 0 first next
  pub early : y ≤ last_label
  pub at : y ≡ label L u
  pub brings : b ≡ longer (note H u)
  pub few : b ≤ most_note
  pub size : length M ≡ l.nodes
  pub long : length K ≡ most_nodes
  pub walked : Walked (graph_of (decode file)) (permit_of mask) u y a L M
  pub noted : Noted (graph_of (decode file)) (permit_of mask) u y b a L M H K
  pub grown : Grown L M Q R n m
  pub front : Frontier M R S m
  pub above : Open M R m y

-- at the start u is taken out of the frontier
module _ {file : List ℕ} {l : Layout} {mask heads starts L Q P : List ℕ} {n u : ℕ}
    (w : Ready file l mask heads starts) (f : Frontier L Q P n) (e : length L ≡ l.nodes)
    (o : Held Q n u) where
  pub settle_node : u < l.nodes
  settle_node = omega (arith, entry_in f o.place u o.inside (sym o.is))

  pub settle_label : u < length L
  settle_label = omega (arith, settle_node)

  pub settle_place : u < most_nodes
  settle_place = omega (arith, settle_node, w.town.small.nodes_most)

  pub settle_at : get_or P u 0 < most_nodes
  settle_at = held_place f (get_or P u 0) u o refl

  pub settle_some : 0 < n
  settle_some = omega (arith, o.inside)

  pub settle_size : n ≤ most_nodes
  settle_size = omega (arith, f.room)

  pub walking_start : {first next H R S : List ℕ} {m : ℕ} (a b : ℕ) → Taken Q P n u R S × (m ≡ n - 1)
      → Open L Q n (label L u)
      → Chained (tail (decode file)) l.nodes l.arcs 0 first next → label L u ≤ last_label
      → a ≡ get_or first u 0 → b ≡ longer (note H u) → hops_in H u < most_nodes → length H ≡ most_nodes
      → Walking file l mask heads starts first next u (get_or L u 0) b a L L H H R R S m m
  walking_start {R = R} a b (q, less) p c k d r v m =
      let z = label_at L u settle_label in
      let j : NextArc (tail (decode file)) (graph_of (decode file)).arcs u 0 a =
      rw (d, ← w.town.sizes.arcs) (c.firsts u settle_node) in
      rw less (record {
        ready = w;
        tables = c;
        early = omega arith;
        at = z;
        brings = r;
        few = omega arith;
        size = e;
        long = m;
        walked = walk_first a j;
        noted = noted_first a j;
        grown = grown_same L R (n - 1);
        front = taken_front f o q;
        above = rw (← z) at (taken_open f o q refl p);
      })

-- a step
pub arc_place : {file : List ℕ} {l : Layout} {mask heads starts : List ℕ} (a : ℕ)
    → Ready file l mask heads starts
    → a < l.arcs → a < most_arcs
arc_place a w h = omega (arith, w.town.small.arcs_most)

pub arc_scaled : {file : List ℕ} {l : Layout} {mask heads starts : List ℕ} (a : ℕ)
    → Ready file l mask heads starts
    → a < l.arcs → Fits w64 (a * 2)
arc_scaled a w h = omega (arith, w.town.small.arcs_most)

-- FOR `relax`: a node has a place among the notes, and an arc never ends before it is taken
pub node_place : {file : List ℕ} {l : Layout} {mask heads starts : List ℕ} (v : ℕ)
    → Ready file l mask heads starts
    → v < l.nodes → v < most_nodes
node_place v w h = omega (arith, w.town.small.nodes_most)

pub note_fits : {file : List ℕ} {l : Layout} {mask heads starts : List ℕ} (b a : ℕ)
    → Ready file l mask heads starts
    → a < l.arcs → b ≤ most_note → Fits w32 (b + a)
note_fits b a w h o = omega (arith, w.town.small.arcs_most)

pub tick_early : (y : ℕ) → y ≤ last_label → y ≤ last_tick
tick_early y h = omega arith

pub end_small : {file : List ℕ} {l : Layout} {mask heads starts : List ℕ} (y a e : ℕ)
    → Ready file l mask heads starts
    → a < l.arcs → permit_of mask a ≡ true
    → y ≤ last_label → e ≡ ends (graph_of (decode file)) a y → e ≤ last_end
end_small {file} {mask = mask} y a e w h c o q =
    let f : ArcFrom (graph_of (decode file)) (permit_of mask) ((graph_of (decode file)).tail a) a = record
    { listed = omega (arith, w.town.sizes.arcs); permitted = c; leaves = refl } in
    omega (
      arith,
      arc_ends (lawful w.town) (town_bounded w.town.sound) y f,
      w.town.sizes.period,
      w.town.small.period_most,
    )

pub notes_before : {file : List ℕ} {l : Layout} {mask heads starts : List ℕ} (y b a v : ℕ) (N K : List ℕ)
    → Ready file l mask heads starts → a < l.arcs → permit_of mask a ≡ true
    → v ≡ (graph_of (decode file)).head a → v < length N → get_or N v 0 ≤ y
    → K ≡ notes_at (graph_of (decode file)) (permit_of mask) y b a N K
notes_before {file} {mask = mask} y b a v N K w c h q l m =
    note_early (graph_of (decode file)) (permit_of mask) y b a N K (lawful w.town)
    (omega (arith, w.town.sizes.arcs)) v h q l m

module _ {file : List ℕ} {l : Layout} {mask heads starts first next L H Q : List ℕ} {n : ℕ} where
  module _ {u y b a : ℕ} {M K R S : List ℕ} {m : ℕ}
      (k : Walking file l mask heads starts first next u y b a L M H K Q R S n m) (h : a < l.arcs) where
    module _ (j : ℕ) (e : j ≡ get_or next a 0) where
      after : NextArc (tail (decode file)) l.arcs u (a + 1) j
      after = rw e
          (rw (k.walked.here (omega (arith, k.ready.town.sizes.arcs))) at
          (k.tables.nexts a (omega arith) h))

      pub walking_less : l.arcs - j < l.arcs - a
      walking_less = omega (arith, after.from)

      pub walking_next : {N J T U : List ℕ} {r : ℕ}
          → Stepped (graph_of (decode file)) (permit_of mask) y b a M N K J R T U m r
          → Walking file l mask heads starts first next u y b j L N H J Q T U n r
      walking_next s =
          let t = k.ready.town in
          let i : get_or (decode file).heads a 0 < length M =
          omega (arith, head_node t a _ h (λ j. get_or (decode file).heads a 0), k.size) in
          let c : a < (graph_of (decode file)).arcs = omega (arith, t.sizes.arcs) in
          let d : NextArc (tail (decode file)) (graph_of (decode file)).arcs u (a + 1) j =
          rw (← t.sizes.arcs) after in
          let v = walk_next a j k.walked c i d s.labels in
          let o = noted_next a j k.walked k.noted c i
          (omega (arith, k.long, k.size, t.small.nodes_most)) d s.labels s.notes in
          record {
            ready = k.ready;
            tables = k.tables;
            early = k.early;
            at = k.at;
            brings = k.brings;
            few = k.few;
            size = v.done.size ∙ sym k.walked.done.size ∙ k.size;
            long = o.size ∙ sym k.noted.size ∙ k.long;
            walked = v;
            noted = o;
            grown = grown_then k.grown s.grown;
            front = s.front;
            above = grown_open k.above s.grown;
          }

-- at the end; the walk started from the labels L and the rest of the frontier
pub walking_end : {file : List ℕ} {l : Layout} {mask heads starts first next L H Q P R₀ S₀ : List ℕ}
    {n u y b a : ℕ} {M K R S : List ℕ} {k m : ℕ}
    → Frontier L Q P n → Held Q n u → Taken Q P n u R₀ S₀ × (k ≡ n - 1)
    → Walking file l mask heads starts first next u y b a L M H K R₀ R S k m → l.arcs ≤ a
    → Spread (graph_of (decode file)) (permit_of mask) u L M H K Q R S n m
walking_end {a = a} f o (w, less) walked h = let k = rw less at walked in record {
  relaxed = walk_last a _ k.walked k.at (omega (arith, k.ready.town.sizes.arcs));
  noted = noted_last a _ _ k.noted k.at k.brings (omega (arith, k.ready.town.sizes.arcs));
  moved = taken_moved f o w k.grown;
  sum = omega (arith, k.grown.sum, o.inside);
  front = k.front;
}

-- for `search walks` at the needs of the loop
pub ruleset walks = (
  settle_node,
  settle_label,
  settle_place,
  settle_at,
  settle_some,
  settle_size,
  walking_start,
  arc_place,
  arc_scaled,
  walking_less,
  walking_next,
  walking_end,
)
