-- A node whose arcs were met one after the other, by their chain: at the end the byte of each tick tells
-- whether the tests 22, 23 and 24 fail there.
use mathlib.Core.{Path.◌≡◌, Path.refl, Path.sym, Path.◌∙◌, Logic.◌≢◌, List.List}
use Rattle.std.specs.Prelude.{Bool, true, ◌&&◌, ◌||◌, get_or}
use Rattle.std.proofs.Math.Bool.{false}
use Prim.Native.Nat.{ℕ, ◌+◌, ◌-◌, ◌≤◌, ◌<◌, min}
use native.Mathlib.{Decide.dec_lt, Omega.arith}
use Rattle.std.proofs.Common.{ne_eqb}
use Rattle.theory_loops.specs.First.{any, any_clear, any_found, any_more, yes_any}
use Rattle.theory_paths.specs.{Graph.all, Partition.Partition}
use Rattle.network.specs.declared.header.Layout.{Layout}
use Rattle.network.specs.{Network.tail, Decode.decode, Town.partition_of}
use Rattle.search_chains.specs.{Town.Town, Chain.Chained, Chain.NextArc}
use Rattle.plan.specs.{Border.border_at, Plan.Plan, Plan.towards}
use Rattle.plan_tests.specs.Tests.{fails22, given}
use Rattle.plan_tests.specs.Giving.{Asked, Less, Same, Flagged, permits, passes}
use Rattle.node_runs.specs.{Bytes.byte_of, Bytes.digit, Bytes.byte_or, Adds.adds, Adds.Met}

-- THE RESULT: the byte of each tick has the three answers
pub record Judged (G : Partition) (p : Plan) (i u period : ℕ) (marks : List ℕ) : Type 0 where
  pub at : (x : ℕ) → x < period
      → get_or marks x 0
      ≡ byte_of (fails22 G p i u x) (given G p all i u x) (given G p (towards G p (border_at G i)) i u x)

-- The walk of the arcs out of u stands at arc k, or past the last, and those before it are met.
pub record Judging (network : List ℕ) (l : Layout) (p : Plan) (first next : List ℕ) (c i u period k : ℕ)
    (marks : List ℕ) : Type 0 where
  pub town : Town network l
  pub tables : Chained (tail (decode network)) l.nodes l.arcs 0 first next
  pub here : k < l.arcs → tail (decode network) k ≡ u
  pub bytes : (x : ℕ) → x < period
      → get_or marks x 0
      ≡ byte_of (any (min k l.arcs) (passes (partition_of (decode network)) p Less i u x))
      (any (min k l.arcs) (passes (partition_of (decode network)) p Same i u x))
      (any (min k l.arcs) (passes (partition_of (decode network)) p (Flagged c) i u x))

-- an arc out of another node never passes
elsewhere : (G : Partition) (p : Plan) (asked : Asked) (i u x a : ℕ) → G.graph.tail a ≢ u
    → passes G p asked i u x a ≡ false
unfolding passes
elsewhere G p asked i u x a e = rw (ne_eqb (G.graph.tail a) u e) (go (permits p asked a))
  where
    go : (q : Bool) → (q && false) ≡ false
    go true = refl
    go false = refl

-- numbers that do not pass may be left out
any_skip : (q : ℕ → Bool) (a b : ℕ) → a ≤ b → ((k : ℕ) → a ≤ k → k < b → q k ≡ false) → any b q ≡ any a q
any_skip q a b l h = go (any a q) refl
  where
    go : (t : Bool) → any a q ≡ t → any b q ≡ any a q
    go true e = let (k, m, z) = any_found q a e in yes_any q b k (omega arith) z ∙ sym e
    go false e =
        (any_clear q b).1
        (λ k m. elim (dec_lt k a) [ yes o ↦ (any_clear q a).0 e k o | no o ↦ h k (omega arith) m ])
        ∙ sym e

module _ {network : List ℕ} {l : Layout} {p : Plan} {first next : List ℕ} {c i u period : ℕ} where
  pub judge_first : {k : ℕ} {marks : List ℕ} → Town network l
      → Chained (tail (decode network)) l.nodes l.arcs 0 first next → u < l.nodes → k ≡ get_or first u 0
      → ((x : ℕ) → x < period → get_or marks x 0 ≡ 0)
      → Judging network l p first next c i u period k marks
  unfolding byte_of digit
  judge_first {k} {marks} t d h e z =
      let n : NextArc (tail (decode network)) l.arcs u 0 k = rw e (d.firsts u h) in
      record {
        town = t;
        tables = d;
        here = n.meets;
        bytes = λ x o. z x o ∙ sym (rw (none n Less x, none n Same x, none n (Flagged c) x));
      }
    where
      none : NextArc (tail (decode network)) l.arcs u 0 k → (asked : Asked) (x : ℕ)
          → any (min k l.arcs) (passes (partition_of (decode network)) p asked i u x) ≡ false
      none n asked x =
          (any_clear _ (min k l.arcs)).1
          (λ a m. elsewhere _ p asked i u x a (n.none a (omega arith) (omega arith) (omega arith)))

  module _ {k : ℕ} {old : List ℕ} (w : Judging network l p first next c i u period k old) where
    module _ (h : k < l.arcs) (j : ℕ) (e : j ≡ get_or next k 0) where
      after : NextArc (tail (decode network)) l.arcs u (k + 1) j
      after = rw e (rw (w.here h) at (w.tables.nexts k (omega arith) h))

      pub judge_less : l.arcs - j < l.arcs - k
      judge_less = omega (arith, after.from)

      more : (asked : Asked) (x : ℕ)
          → any (min j l.arcs) (passes (partition_of (decode network)) p asked i u x)
          ≡ any (min k l.arcs) (passes (partition_of (decode network)) p asked i u x)
          || passes (partition_of (decode network)) p asked i u x k
      more asked x =
          let q = passes (partition_of (decode network)) p asked i u x in
          let m : min k l.arcs ≡ k = omega arith in
          any_skip q (k + 1) (min j l.arcs) (omega (arith, after.from))
          (λ a lo hi. elsewhere _ p asked i u x a (after.none a lo (omega arith) (omega arith)))
          ∙ any_more k q
          ∙ rw m

      pub judge_next : {new : List ℕ} → Met (partition_of (decode network)) p c i k period old new
          → Judging network l p first next c i u period j new
      unfolding adds
      judge_next f = record {
        town = w.town;
        tables = w.tables;
        here = after.meets;
        bytes = λ x o.
            f.at x o
            ∙ rw (w.here h, w.bytes x o, more Less x, more Same x, more (Flagged c) x)
            (byte_or _ _ _ _ _ _);
      }

    pub judge_end : c ≡ (partition_of (decode network)).cell (border_at (partition_of (decode network)) i)
        → l.arcs ≤ k → Judged (partition_of (decode network)) p i u period old
    unfolding fails22 given passes
    judge_end z h =
        let m : min k l.arcs ≡ l.arcs = omega arith in
        let n = w.town.sizes.arcs in
        record { at = λ x o. rw (m, n, z) at (w.bytes x o) }
