-- What the search leaves in the labels (`Reached`), and the laws by which its loop comes to it: how it
-- starts, a turn, and its two ends.
use mathlib.Core.{Path.◌≡◌, Path.sym, Path.◌∙◌, Path.ap, Logic.◌≢◌, List.List, List.[], List.◌∷◌}
use Rattle.std.specs.Prelude.{ℕ, zero, suc, ◌+◌, ◌≤◌, ◌<◌, length, get_or, set, replicate}
use native.Mathlib.{Nat.le_trans, Decide.dec_lt, Omega.arith}
use Rattle.std.proofs.Common.{length-set, get_or-set_same, get_or-set_other}
use Rattle.std.proofs.lemmas.List.{length-replicate, get_or-replicate}
use Rattle.std.proofs.Math.ListN.{get_or-eq_default}
use Rattle.theory_paths.specs.{Graph.Graph, Graph.Permit, Earliest.never, Earliest.Exact}
use Rattle.theory_paths.proofs.Drive.{path_takes}
use Rattle.theory_paths.specs.{Labels.label, Hops.Known, Hops.Counted, Chosen.arc_into}
use Rattle.network.specs.{Limits.most_nodes, Decode.decode, Town.graph_of}
use Rattle.network.specs.declared.header.Layout.{Layout}
use Rattle.search_labels.specs.{Walk.Spread, Notes.hops_in, Notes.arc_in}
use Rattle.search_labels.specs.Tally.{
  Tallied,
  tally_start,
  tally_counted,
  tally_arc,
  tally_few,
  tally_settle,
}
use Rattle.search_frontier.specs.Settle.{Search, Nearest, start, settle, nearest_exact}
use Rattle.search_frontier.specs.Frontier.{
  key_of,
  node_of,
  node_at,
  last_label,
  Held,
  Frontier,
  Open,
  unknown,
  known_in,
  key_node,
  held_or,
}
use Rattle.search_frontier.specs.Nearest.{Small, Least, least_held, least_nearest}
use Rattle.search_chains.specs.Town.{Town}
use Rattle.search_labels.specs.Ready.{Ready, Leaving, leaving}

-- The labels L are exact up to the target's, the notes K have the hops of these nodes, and the arcs by which
-- the chosen path comes to them.
pub record Reached (g : Graph) (p : Permit) (s t : ℕ) (L K : List ℕ) : Type 0 where
  pub size : length L ≡ g.nodes
  pub capped : (v : ℕ) → label L v ≤ never
  pub exact : Exact g p s (label L s) (label L) (label L t)
  pub long : length K ≡ most_nodes
  pub counted : Counted g p s L (hops_in K) (label L t)
  pub arcs : (v : ℕ) → v ≢ s → Known g L (label L t) v → arc_in K v ≡ arc_into g p L (hops_in K) v

-- Before the search: the source alone has a label.
pub record Started (nodes s x : ℕ) (L : List ℕ) : Type 0 where
  pub size : length L ≡ nodes
  pub source : label L s ≡ x
  pub others : (v : ℕ) → v ≢ s → label L v ≡ never

-- In the loop.
pub record Searching (g : Graph) (p : Permit) (s x : ℕ) (L K Q P : List ℕ) (n : ℕ) : Type 0 where
  pub left : Leaving g s x
  pub kept : Search g left.most p s x L (Held Q n)
  pub tallied : Tallied g p s L K (Held Q n)
  pub long : length K ≡ most_nodes
  pub front : Frontier L Q P n

pub started : (nodes s x : ℕ) (old new : List ℕ) → length old ≡ nodes → s < nodes
    → new ≡ replicate (length old) never → Started nodes s x (set new s x)
started nodes s x old new l h f =
    let k : length new ≡ nodes = rw f (length-replicate {A = ℕ} (length old) never ∙ l) in
    record {
      size = length-set new s x ∙ k;
      source = get_or-set_same new s x never (omega (arith, k));
      others = λ v ne. get_or-set_other new s v x never ne ∙ elim (dec_lt v (length old)) [
        | yes b ↦ rw f (get_or-replicate (length old) v never never b)
        | no b ↦ get_or-eq_default new never {n = v} (omega (arith, k))
      ];
    }

-- a node with a label leaves room for itself
unknown_most : (L : List ℕ) → unknown L ≤ length L
unfolding unknown
unknown_most [] = omega arith
unknown_most (e ∷ L) = omega (arith, unknown_most L)

unknown_less : (L : List ℕ) (v : ℕ) → label L v < never → 1 + unknown L ≤ length L
unfolding unknown
unknown_less [] v h = absurd (omega arith)
unknown_less (e ∷ L) zero h = omega (arith, unknown_most L)
unknown_less (e ∷ L) (suc v) h = omega (arith, unknown_less L v h)

module _ {g : Graph} {s x : ℕ} (d : Leaving g s x) where
  pub small : x < never
  small = omega (arith, d.early)

  -- the source's entry alone
  module _ {L : List ℕ} (a : Started g.nodes s x L) where
    abbrev keys : List ℕ
    keys = set (replicate most_nodes 0) 0 (key_of x s)

    abbrev places : List ℕ
    places = set (replicate most_nodes 0) s 0

    first_key : get_or keys 0 0 ≡ key_of x s
    first_key = get_or-set_same (replicate most_nodes 0) 0 (key_of x s) 0
        (rw (length-replicate {A = ℕ} most_nodes 0) (omega arith))

    first_node : node_at keys 0 ≡ s
    first_node = ap node_of first_key ∙ key_node x s (omega (arith, d.node, d.few))

    first_place : get_or places s 0 ≡ 0
    first_place = get_or-set_same (replicate most_nodes 0) s 0 0
        (rw (length-replicate {A = ℕ} most_nodes 0) (omega (arith, d.node, d.few)))

    first_known : label L s < never
    first_known = omega (arith, a.source, small)

    only : {k : ℕ} → k < 1 → k ≡ 0
    only l = omega arith

    one_entry : Frontier L keys places 1
    one_entry = record {
      keys_long = length-set {A = ℕ} (replicate most_nodes 0) 0 (key_of x s)
          ∙ length-replicate {A = ℕ} most_nodes 0;
      places_long = length-set {A = ℕ} (replicate most_nodes 0) s 0 ∙ length-replicate {A = ℕ} most_nodes 0;
      few = omega (arith, a.size, d.few);
      keyed = λ k l. rw (only l, first_node, a.source) first_key;
      placed = λ k l. rw (only l, first_node) first_place;
      known = λ k l. rw (only l, first_node) first_known;
      room = omega (arith, unknown_less L s first_known, a.size, d.few);
    }

    one_held : Held keys 1 s
    one_held = record { place = 0; inside = omega arith; is = first_node }

pub search_start : {file L K Q P : List ℕ} {l : Layout} {p : Permit} {s x n : ℕ} → Town file l → s < l.nodes
    → x < l.period
    → Started l.nodes s x L → K ≡ replicate most_nodes 0
    → (Q ≡ set (replicate most_nodes 0) 0 (key_of x s)) × (P ≡ set (replicate most_nodes 0) s 0) × (n ≡ 0 + 1)
    → Searching (graph_of (decode file)) p s x L K Q P n
search_start {s = s} t h k a e q =
    let d = leaving t h k in
    let b = rw t.sizes.nodes at a in
    let r = get_or-replicate {A = ℕ} most_nodes s 0 0 (omega (arith, d.node, d.few)) in
    rw (q.0, q.1, q.2) (record {
      left = d;
      kept = start d.ok d.bounded d.node (small d) b.size b.source b.others (one_held d b);
      tallied = tally_start b.others (one_held d b) (rw e r);
      long = rw e (length-replicate {A = ℕ} most_nodes 0);
      front = one_entry d b;
    })

module _ {g : Graph} {p : Permit} {s x : ℕ} where
  module _ {L K Q P : List ℕ} {n : ℕ} (c : Searching g p s x L K Q P n) where
    reached : (t : ℕ) → Nearest L (Held Q n) t → Reached g p s t L K
    reached t m =
        let d = c.left in
        let e = nearest_exact d.ok d.bounded d.node (small d) c.kept t m in
        record {
          size = c.kept.size;
          capped = c.kept.capped;
          exact = rw e.source e;
          long = c.long;
          counted = tally_counted d.ok d.few_arcs c.tallied t m;
          arcs = tally_arc d.ok d.few_arcs c.tallied t m;
        }

    -- the source keeps its label
    pub search_source : label L s ≡ x
    search_source =
        let d = c.left in
        let r = c.kept.sound s (omega (arith, c.kept.source, small d)) in
        omega (arith, c.kept.source, path_takes d.ok x r.leads, r.at)

    -- the frontier has run dry
    pub search_dry : (t : ℕ) → n ≤ 0 → Reached g p s t L K
    search_dry t h = reached t (λ v w. absurd (omega (arith, w.inside)))

    pub search_room : n ≤ most_nodes
    search_room = omega (arith, c.front.room)

    pub search_small : Small Q n
    search_small = record {
      below = λ k h.
          let early = c.kept.early (node_at Q k) (c.front.known k h) in
          omega (arith, c.front.keyed k h, early, c.left.early);
    }

    -- u is the node of the least key
    module _ {r u : ℕ} (k : Least Q n r) (e : u ≡ node_of r) where
      nearest : Nearest L (Held Q n) u
      nearest = least_nearest c.front k e

      pub turn_held : Held Q n u
      turn_held = least_held c.front k e

      -- it is the target
      pub search_stop : {t : ℕ} → u ≡ t → Reached g p s t L K
      search_stop q = reached _ (rw q at nearest)

      known : label L u < never
      known = rw turn_held.is at (c.front.known turn_held.place turn_held.inside)

      pub turn_early : label L u ≤ last_label
      turn_early = le_trans (c.kept.early u known) c.left.early

      -- one hop more than it has is a small number
      pub turn_few : hops_in K u < most_nodes
      turn_few =
          let d = c.left in
          let l = known_in L u known in
          let o = tally_few d.ok d.few_arcs c.tallied u nearest (omega (arith, c.kept.size))
          known in
          omega (arith, d.few)

      -- what has a label above its is not settled
      pub turn_open : Open L Q n (label L u)
      turn_open = record {
        held = λ v a b. elim (held_or c.front v) [
          | yes h ↦ h
          | no h ↦ absurd (omega (arith, c.kept.order v u (b, h) turn_held))
        ];
      }

      pub turn : {M J R S : List ℕ} {m : ℕ} → Spread g p u L M K J Q R S n m → Searching g p s x M J R S m
      turn w =
          let d = c.left in
          let s = settle d.ok d.bounded d.node (small d) c.kept turn_held known nearest in
          record {
            left = d;
            kept = s w.relaxed w.moved;
            tallied =
                tally_settle d.ok d.few_arcs d.bounded d.node (small d) c.kept turn_held known
                nearest w.relaxed w.moved c.tallied w.noted;
            long = w.noted.size ∙ c.long;
            front = w.front;
          }

-- the labels are as many as the nodes, and as they were
module _ {file mask heads starts L K Q P : List ℕ} {l : Layout} {p : Permit} {s x n : ℕ}
    (w : Ready file l mask heads starts)
    (c : Searching (graph_of (decode file)) p s x L K Q P n) where
  pub search_size : length L ≡ l.nodes
  search_size = c.kept.size ∙ sym w.town.sizes.nodes

  pub search_same : {old : List ℕ} → Started l.nodes s x old → length L ≡ length old
  search_same a = search_size ∙ sym a.size

-- for `search turns` at the needs of the loop
pub ruleset turns = (
  search_start,
  search_source,
  search_dry,
  search_room,
  search_small,
  search_stop,
  search_size,
  search_same,
  turn_held,
  turn_early,
  turn_few,
  turn_open,
  turn,
)
