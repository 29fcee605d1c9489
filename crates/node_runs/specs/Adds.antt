-- What one arc out of a node adds to the byte of a tick, and what the code does that meets an arc: it merges
-- the runs, or passes the arc, where it can add nothing.
use mathlib.Core.{Path.◌≡◌, Path.refl, Path.sym, Path.◌∙◌, Path.ap, Path.subst, List.List}
use Rattle.std.specs.Prelude.{Bool, ◌&&◌, ℕ, ◌+◌, ◌*◌, ◌%◌, ◌<◌}
use Rattle.std.proofs.Math.Bool.{true, false}
use native.Mathlib.{Nat.mod-lt, Nat.add_comm, Omega.arith}
use lib.{ListN.length, ListN.get_or, Dec.ltb, Dec.eqb, Bits.bit_or, Bits.or_zero_r}
use borrow.Author.Tests.{eq-eqb, le-ltb, ne_eqb}
use Rattle.theory_paths.specs.{Partition.Partition, Profiles.unreachable, Profiles.ticks, Profiles.plus}
use Rattle.network.specs.{Network.tail, Network.head, Decode.decode}
use Rattle.network.specs.Town.{graph_of, partition_of, travel_at}
use Rattle.plan.specs.Plan.{Plan, flag, point_count, profile, profile_value}
use Rattle.plan.specs.PlanDecode.{decode_plan}
use Rattle.plan_tests.specs.declared.tests.{Layouts.Layouts, Target.Target}
use Rattle.plan_tests.specs.Tests as Tests
use Rattle.plan_tests.specs.Checkable.{Checkable}
use Rattle.plan_tests.specs.Giving.{Less, Same, Flagged, passes, profile_same}
use Rattle.day_slopes.specs.Runs.{Runs}
use Rattle.day_runs.specs.Bounds.{Floor, Ceiling}
use Rattle.day_merge.specs.Merged.{giving, bits, bits_at, painted, Told}
use Rattle.profile_runs.specs.Numbers.{number_at, number_value, number_never}
use Rattle.node_runs.specs.Bytes.{byte_of, same_bits, bits_byte, digit}

-- what arc a adds to the byte of its tail at tick x, towards border number i, whose cell is c
unfoldable pub adds : Partition → Plan → ℕ → ℕ → ℕ → ℕ → ℕ
adds G p c i a x =
    byte_of (passes G p Less i (G.graph.tail a) x a) (passes G p Same i (G.graph.tail a) x a)
    (passes G p (Flagged c) i (G.graph.tail a) x a)

-- arc a is met: what it adds stands in the bytes
pub record Met (G : Partition) (p : Plan) (c i a period : ℕ) (old new : List ℕ) : Type 0 where
  pub long : length new ≡ length old
  pub at : (x : ℕ) → x < period → get_or new x 0 ≡ bit_or (get_or old x 0) (adds G p c i a x)

-- an arc that adds nothing may be passed
met_none : (G : Partition) (p : Plan) (c i a period : ℕ) (old : List ℕ)
    → ((x : ℕ) → x < period → adds G p c i a x ≡ 0) → Met G p c i a period old old
met_none G p c i a period old e =
    record { long = refl; at = λ x l. rw (e x l) (sym (or_zero_r (get_or old x 0))) }

-- by the numbers of both: what it gives, and its tail's value
module _ (G : Partition) (p : Plan) (c i a x o : ℕ)
    (f : profile G.graph p i (G.graph.tail a) x ≡ ticks o) where
  adds_ticks : (g : ℕ) → Tests.giving G p i a x ≡ ticks g
      → adds G p c i a x ≡ byte_of (ltb g o) (eqb g o) (flag p a c && eqb g o)
  unfolding adds passes
  adds_ticks g q = rw (eq-eqb (G.graph.tail a) (G.graph.tail a) refl, f, q)

  adds_never : Tests.giving G p i a x ≡ unreachable → adds G p c i a x ≡ 0
  unfolding adds passes byte_of digit
  adds_never q = rw (eq-eqb (G.graph.tail a) (G.graph.tail a) refl, f, q) (go (flag p a c))
    where
      go : (b : Bool) → (digit (b && false) * 2 + 0) * 2 + 0 ≡ 0
      go true = refl
      go false = refl

-- the numbers of node u's profile, where it has points
abbrev pub numbers_of : List ℕ → Layouts → Target → ℕ → ℕ → ℕ
numbers_of plan l b u = number_at l.plan.period (decode_plan plan) (b.number * l.plan.nodes + u)

-- FOR CODE that meets arc a, with head y; both profiles have the numbers of their points
module _ {network plan : List ℕ} {l : Layouts} (w : Checkable network plan l) (b : Target) (a y : ℕ)
    (f : y ≡ head (decode network) a)
    (some : 0 < point_count (decode_plan plan) (b.number * l.plan.nodes + tail (decode network) a)) where
  own_is : (x : ℕ)
      → profile (graph_of (decode network)) (decode_plan plan) b.number (tail (decode network) a) x
      ≡ ticks (numbers_of plan l b (tail (decode network) a) x)
  own_is x = sym (profile_same w b.number (tail (decode network) a) x) ∙ number_value _ _ _ x some

  head_is : (x : ℕ)
      → profile (graph_of (decode network)) (decode_plan plan) b.number (head (decode network) a) x
      ≡ profile_value l.plan.period (decode_plan plan) (b.number * l.plan.nodes + y) x
  head_is x = rw (← f) (sym (profile_same w b.number y x))

  -- the tick at which it ends
  ended : ℕ → ℕ
  ended x = (x + travel_at (decode network) a x) % (decode network).period

  -- its head has no points, and gives nothing
  never_is : point_count (decode_plan plan) (b.number * l.plan.nodes + y) ≡ 0 → (x : ℕ)
      → Tests.giving (partition_of (decode network)) (decode_plan plan) b.number a x ≡ unreachable
  unfolding ended
  never_is z x =
      ap (plus (travel_at (decode network) a x)) (head_is (ended x) ∙ number_never _ _ _ (ended x) z)

  pub met_never : point_count (decode_plan plan) (b.number * l.plan.nodes + y) ≡ 0 → (old : List ℕ)
      → Met (partition_of (decode network)) (decode_plan plan) b.cell b.number a l.network.period old
      old
  met_never z old =
      met_none _ _ _ _ _ _ old (λ x h. adds_never _ _ _ _ _ x _ (own_is x) (never_is z x))

  -- its head has points
  module _ (more : 0 < point_count (decode_plan plan) (b.number * l.plan.nodes + y)) where
    gives_is : (x : ℕ)
        → Tests.giving (partition_of (decode network)) (decode_plan plan) b.number a x
        ≡ ticks (giving (travel_at (decode network) a) (numbers_of plan l b y) l.network.period x)
    unfolding giving ended
    gives_is x =
        ap (plus (travel_at (decode network) a x)) (head_is (ended x) ∙ number_value _ _ _ (ended x) more)
        ∙ ap ticks (rw w.town.sizes.period
        (add_comm (travel_at (decode network) a x) (numbers_of plan l b y (ended x))))

    adds_bits : (x : ℕ)
        → adds (partition_of (decode network)) (decode_plan plan) b.cell b.number a x
        ≡ bits_at (same_bits (flag (decode_plan plan) a b.cell))
        (numbers_of plan l b (tail (decode network) a)) (travel_at (decode network) a) (numbers_of plan l b y)
        l.network.period x
    unfolding bits_at
    adds_bits x =
        adds_ticks _ _ _ _ _ x _ (own_is x) _ (gives_is x)
        ∙ sym (bits_byte (flag (decode_plan plan) a b.cell) _ _)

    -- it was merged
    pub met_merged : {so vo sa va sh vh : List ℕ} {no' na nh : ℕ} (same : ℕ) (old new : List ℕ)
        → same ≡ same_bits (flag (decode_plan plan) a b.cell)
        → Told so vo sa va sh vh no' na nh l.network.period same old new
        → Runs so vo no' l.network.period (numbers_of plan l b (tail (decode network) a))
        → Runs sa va na l.network.period (travel_at (decode network) a)
        → Runs sh vh nh l.plan.period (numbers_of plan l b y)
        → Met (partition_of (decode network)) (decode_plan plan) b.cell b.number a l.network.period
        old
        new
    unfolding painted
    met_merged {sh = sh} {vh = vh} {nh = nh} same old new q t O A H =
        let h = subst (λ (k : ℕ). Runs sh vh nh k (numbers_of plan l b y)) w.period H in
        let p = t.is _ _ _ O A h in
        record { long = p.long; at = λ x h. p.written x (omega arith) h ∙ rw (q, ← adds_bits x) }

    -- it is too far all day: even the least travel to the least value is more than its tail's greatest
    pub met_far : (low least top : ℕ) → top < low + least
        → Ceiling (numbers_of plan l b (tail (decode network) a)) l.network.period top
        → Floor (travel_at (decode network) a) l.network.period least
        → Floor (numbers_of plan l b y) l.network.period low → (old : List ℕ)
        → Met (partition_of (decode network)) (decode_plan plan) b.cell b.number a l.network.period
        old
        old
    unfolding bits_at bits giving
    met_far low least top far o t h old =
        met_none _ _ _ _ _ _ old (λ x k. adds_bits x ∙ more_there x k)
      where
        more_there : (x : ℕ) → x < l.network.period
            → bits_at (same_bits (flag (decode_plan plan) a b.cell))
            (numbers_of plan l b (tail (decode network) a)) (travel_at (decode network) a)
            (numbers_of plan l b y) l.network.period x
            ≡ 0
        more_there x k =
            let own = numbers_of plan l b (tail (decode network) a) x in
            let z = (x + travel_at (decode network) a x) % l.network.period in
            let m = h.least z (mod-lt (x + travel_at (decode network) a x) (omega arith)) in
            let n : own < numbers_of plan l b y z + travel_at (decode network) a x =
            omega (arith, o.most x k, t.least x k) in
            rw (
              le-ltb (numbers_of plan l b y z + travel_at (decode network) a x) own (omega arith),
              ne_eqb (numbers_of plan l b y z + travel_at (decode network) a x) own (λ i. omega arith),
            )
