-- The tables that a search reads of the arcs: each arc's head and its first point. They are filled from the
-- last arc to the first, with the chains, and the number of points before the arcs done is carried along.
use mathlib.Core.{Path.◌≡◌, Path.refl, List.List}
use Rattle.std.specs.Prelude.{ℕ, ◌+◌, ◌-◌, ◌≤◌, ◌<◌}
use native.Mathlib.{Decide.ℕ_discrete, Omega.arith}
use lib.{ListN.length, ListN.get_or, ListN.set, ListN.length-set, Seq.get_or-set_same, Seq.get_or-set_other}
use Rattle.theory_loops.specs.Total.{total_more}
use Rattle.network.specs.declared.header.Layout.{Layout}
use Rattle.network.specs.declared.arcs.Entry.{Entry}
use Rattle.network.specs.{Limits.most_arcs, Arcs.EntryOf, Decode.decode}
use Rattle.network.specs.Network.{Network, tail, head, count, start}
use Rattle.search_chains.specs.Chain.{Chained, Unchained, chain_none, chain_more}
use Rattle.search_chains.specs.Town.{Town, tail_node}

-- Both tables are as they should be for the arcs from i on.
pub record Tabled (n : Network) (arcs i : ℕ) (heads starts : List ℕ) : Type 0 where
  pub heads_long : arcs ≤ length heads
  pub starts_long : arcs ≤ length starts
  pub head_at : (a : ℕ) → i ≤ a → a < arcs → get_or heads a 0 ≡ head n a
  pub start_at : (a : ℕ) → i ≤ a → a < arcs → get_or starts a 0 ≡ start n a

-- THE PASS from the last arc to the first has done the arcs from i on: all four tables are as they should be
-- for those, and `sum` is the points of the arcs before them.
pub record Filling (file : List ℕ) (l : Layout) (i sum : ℕ) (heads starts first next : List ℕ) : Type 0 where
  pub few : l.arcs ≤ most_arcs
  pub small : sum < 65536
  pub before : sum ≡ start (decode file) i
  pub chained : Chained (tail (decode file)) l.nodes l.arcs i first next
  pub tabled : Tabled (decode file) l.arcs i heads starts

-- the same arcs, counted otherwise
pub filling_at : {file : List ℕ} {l : Layout} {i sum : ℕ} {heads starts first next : List ℕ}
    → Filling file l i sum heads starts first next → (k : ℕ) → i ≡ k
    → Filling file l k sum heads starts first next
filling_at f k e = rw e at f

-- one arc more of the two tables
tabled_more : (n : Network) (arcs i s v : ℕ) (heads starts : List ℕ)
    → Tabled n arcs (i + 1) heads starts → i < arcs → v ≡ head n i → s ≡ start n i
    → Tabled n arcs i (set heads i v) (set starts i s)
tabled_more n arcs i s v heads starts t l e f = record {
  heads_long = simp length-set t.heads_long;
  starts_long = simp length-set t.starts_long;
  head_at = λ a b d. elim (ℕ_discrete a i) [
    | yes q ↦ rw (q, get_or-set_same heads i v 0 (omega (arith, t.heads_long))) e
    | no q ↦ rw (get_or-set_other heads i a v 0 q) (t.head_at a (omega arith) d)
  ];
  start_at = λ a b d. elim (ℕ_discrete a i) [
    | yes q ↦ rw (q, get_or-set_same starts i s 0 (omega (arith, t.starts_long))) f
    | no q ↦ rw (get_or-set_other starts i a s 0 q) (t.start_at a (omega arith) d)
  ];
}

module _ {file : List ℕ} {l : Layout} (t : Town file l) {heads starts first next : List ℕ} where
  -- no arc is done: all points stand before the end
  pub filling_none : Unchained l.nodes l.arcs first next → l.arcs ≤ length heads
      → l.arcs ≤ length starts → Filling file l l.arcs l.points heads starts first next
  filling_none u h k =
      let z : l.arcs - 0 ≡ l.arcs = omega arith in
      record {
        few = u.few;
        small = omega (arith, t.small.points_most);
        before = rw t.sizes.arcs (omega (arith, t.sound.sum, t.sizes.points));
        chained = rw z at (chain_none (tail (decode file)) l.nodes l.arcs first next u);
        tabled = record {
          heads_long = h;
          starts_long = k;
          head_at = λ a b d. absurd (omega arith);
          start_at = λ a b d. absurd (omega arith);
        };
      }

  -- one arc more, by its entry
  module _ (i sum : ℕ) (arc : Entry) (f : Filling file l (i + 1) sum heads starts first next)
      (k : i < l.arcs) (e : EntryOf (decode file) i arc) where
    held : start (decode file) i + arc.count ≡ sum
    unfolding start
    held = omega (
      arith,
      f.before,
      total_more (count (decode file)) (start (decode file) i) arc.count i refl e.count,
    )

    pub count_held : arc.count ≤ sum
    count_held = omega (arith, held)

    pub filling_more : Filling file l i (sum - arc.count) (set heads i arc.head)
        (set starts i (sum - arc.count)) (set first arc.tail i) (set next i (get_or first arc.tail 0))
    filling_more =
        let b : sum - arc.count ≡ start (decode file) i = omega (arith, held) in
        record {
          few = f.few;
          small = omega (arith, f.small);
          before = b;
          chained = chain_more _ _ _ i arc.tail first next f.chained k f.few e.tail
              (tail_node t i arc.tail k e.tail);
          tabled = tabled_more (decode file) l.arcs i _ _ heads starts f.tabled k e.head b;
        }
