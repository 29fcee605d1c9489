-- The tables by which the arcs at a node are walked in rising order: each node's first arc, and after each
-- arc the next one at the same node. Said once for both ends of an arc: `end` is its tail for the arcs out of
-- a node, and its head for the arcs into it.
use mathlib.Core.{Path.◌≡◌, Path.sym, Logic.◌≢◌, Bool.Bool, Bool.false, List.List}
use Rattle.std.specs.Prelude.{ℕ, ◌+◌, ◌-◌, ◌≤◌, ◌<◌, length, get_or, set, replicate}
use native.Mathlib.{Decide.ℕ_discrete, Decide.dec_le, Omega.arith}
use Rattle.std.proofs.Common.{length-set, get_or-set_same, get_or-set_other}
use Rattle.std.proofs.lemmas.List.{length-replicate, get_or-replicate}
use Rattle.theory_loops.specs.First.{First}
use Rattle.network.specs.{Limits.most_nodes, Limits.most_arcs, Network.Network, Network.tail, Network.head}
use Rattle.search_chains.specs.declared.chain.End.{End}
use Rattle.search_chains.specs.declared.chain.End.TheVariants.{Tail, Head}

-- the node at an end of arc a
abbrev pub end_of : Network → End → ℕ → ℕ
end_of n Tail = tail n
end_of n Head = head n

-- From number i on, r is the next arc at u; mostArcs stands for none.
pub record NextArc (end : ℕ → ℕ) (arcs u i r : ℕ) : Type 0 where
  pub from : i ≤ r
  pub within : r ≤ most_arcs
  pub meets : r < arcs → end r ≡ u
  pub none : (a : ℕ) → i ≤ a → a < r → a < arcs → end a ≢ u

-- Both tables are as they should be for the arcs from i on.
pub record Chained (end : ℕ → ℕ) (nodes arcs i : ℕ) (first next : List ℕ) : Type 0 where
  pub first_long : nodes ≤ length first
  pub next_long : arcs ≤ length next
  pub firsts : (v : ℕ) → v < nodes → NextArc end arcs v i (get_or first v 0)
  pub nexts : (a : ℕ) → i ≤ a → a < arcs → NextArc end arcs (end a) (a + 1) (get_or next a 0)

-- Before any arc is looked at, no node has one.
pub record Unchained (nodes arcs : ℕ) (first next : List ℕ) : Type 0 where
  pub few : arcs ≤ most_arcs
  pub first_long : nodes ≤ length first
  pub next_long : arcs ≤ length next
  pub none : (v : ℕ) → v < nodes → get_or first v 0 ≡ most_arcs

-- two fresh tables
pub unchained : (nodes arcs : ℕ) → nodes ≤ most_nodes → arcs ≤ most_arcs
    → Unchained nodes arcs (replicate most_nodes most_arcs) (replicate most_arcs most_arcs)
unchained nodes arcs l m = record {
  few = m;
  first_long = rw (length-replicate {A = ℕ} most_nodes most_arcs) l;
  next_long = rw (length-replicate {A = ℕ} most_arcs most_arcs) m;
  none = λ v b. get_or-replicate most_nodes v most_arcs 0 (omega arith);
}

-- FOR THE BACKWARD PASS
module _ (end : ℕ → ℕ) (nodes arcs : ℕ) where
  pub chain_none : (first next : List ℕ) → Unchained nodes arcs first next
      → Chained end nodes arcs (arcs - 0) first next
  chain_none first next h = record {
    first_long = h.first_long;
    next_long = h.next_long;
    firsts = λ v l. rw (h.none v l) (record {
      from = omega (arith, h.few);
      within = omega arith;
      meets = λ m. absurd (omega (arith, h.few));
      none = λ a m n o. absurd (omega arith);
    });
    nexts = λ a l m. absurd (omega arith);
  }

  -- arc i at node v, before the others
  pub chain_more : (i v : ℕ) (first next : List ℕ) → Chained end nodes arcs (i + 1) first next → i < arcs
      → arcs ≤ most_arcs → v ≡ end i → v < nodes
      → Chained end nodes arcs i (set first v i) (set next i (get_or first v 0))
  chain_more i v first next c l few e h = record {
    first_long = simp length-set c.first_long;
    next_long = simp length-set c.next_long;
    firsts = λ w b. elim (ℕ_discrete w v) [
      | yes q ↦ rw (q, get_or-set_same first v i 0 (omega (arith, c.first_long))) here
      | no q ↦ rw (get_or-set_other first v w i 0 q) (past w q (c.firsts w b))
    ];
    nexts = λ a b d. elim (ℕ_discrete a i) [
      | yes q ↦ rw (q, get_or-set_same next i (get_or first v 0) 0 (omega (arith, c.next_long)), ← e)
          (c.firsts v h)
      | no q ↦ rw (get_or-set_other next i a (get_or first v 0) 0 q) (c.nexts a (omega arith) d)
    ];
  }
    where
      here : NextArc end arcs v i i
      here = record {
        from = omega arith;
        within = omega arith;
        meets = λ m. sym e;
        none = λ a m n o. absurd (omega arith);
      }

      past : (w : ℕ) {r : ℕ} → w ≢ v → NextArc end arcs w (i + 1) r → NextArc end arcs w i r
      past w ne n = record {
        from = omega (arith, n.from);
        within = n.within;
        meets = n.meets;
        none = λ a m o b. elim (ℕ_discrete a i) [
          | yes q ↦ rw (q, ← e) (λ z. ne (sym z))
          | no q ↦ n.none a (omega arith) o b
        ];
      }

  -- the same in a loop that has passed k arcs, from the last on
  pub chain_down : (k v : ℕ) (first next : List ℕ) → Chained end nodes arcs (arcs - k) first next → k < arcs
      → arcs ≤ most_arcs → v ≡ end (arcs - 1 - k) → v < nodes
      → Chained end nodes arcs (arcs - (k + 1)) (set first v (arcs - 1 - k))
      (set next (arcs - 1 - k) (get_or first v 0))
  chain_down k v first next c l few e h =
      let p : arcs - k ≡ arcs - 1 - k + 1 = omega arith in
      let q : arcs - (k + 1) ≡ arcs - 1 - k = omega arith in
      rw q (chain_more (arcs - 1 - k) v first next (rw p at c) (omega arith) few e h)

  pub chain_end : (k : ℕ) (first next : List ℕ) → Chained end nodes arcs (arcs - k) first next → arcs ≤ k
      → Chained end nodes arcs 0 first next
  chain_end k first next c l = let e : arcs - k ≡ 0 = omega arith in rw e at c

-- for `search (chains, needs)` at the needs of the pass
pub ruleset chains = (chain_none, chain_down, chain_end)

-- WALKING THE CHAIN of u for the first arc that passes a test, which an arc at another node never does: the
-- walk stands at arc k, or past the last, and no arc before it passes
pub record Walking (end : ℕ → ℕ) (nodes arcs : ℕ) (first next : List ℕ) (test : ℕ → Bool) (u k : ℕ)
    : Type 0 where
  pub tables : Chained end nodes arcs 0 first next
  pub elsewhere : (a : ℕ) → end a ≢ u → test a ≡ false
  pub here : k < arcs → end k ≡ u
  pub passed : (a : ℕ) → a < k → a < arcs → test a ≡ false

module _ {end : ℕ → ℕ} {nodes arcs : ℕ} {first next : List ℕ} {test : ℕ → Bool} {u : ℕ} where
  pub walk_first : (k : ℕ) → Chained end nodes arcs 0 first next → ((a : ℕ) → end a ≢ u → test a ≡ false)
      → u < nodes
      → k ≡ get_or first u 0 → Walking end nodes arcs first next test u k
  walk_first k c f h e =
      let n : NextArc end arcs u 0 k = rw e (c.firsts u h) in
      record {
        tables = c;
        elsewhere = f;
        here = n.meets;
        passed = λ a m b. f a (n.none a (omega arith) m b);
      }

  module _ {k : ℕ} (w : Walking end nodes arcs first next test u k) where
    module _ (h : k < arcs) (j : ℕ) (e : j ≡ get_or next k 0) where
      after : NextArc end arcs u (k + 1) j
      after = rw e (rw (w.here h) at (w.tables.nexts k (omega arith) h))

      pub walk_less : arcs - j < arcs - k
      walk_less = omega (arith, after.from)

      pub walk_next : test k ≡ false → Walking end nodes arcs first next test u j
      walk_next f = record {
        tables = w.tables;
        elsewhere = w.elsewhere;
        here = after.meets;
        passed = λ a m b. elim (ℕ_discrete a k) [
          | yes q ↦ rw q f
          | no q ↦ elim (dec_le (k + 1) a) [
            | yes o ↦ w.elsewhere a (after.none a o m b)
            | no o ↦ w.passed a (omega arith) b
          ]
        ];
      }

    pub walk_none : arcs ≤ k → First arcs test arcs
    walk_none h = record {
      within = omega arith;
      before = λ a m. w.passed a (omega arith) m;
      at = λ m. absurd (omega arith);
    }
