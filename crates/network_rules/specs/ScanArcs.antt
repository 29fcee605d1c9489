-- A pass over the arcs, block by block: no arc before arc k breaks rule 8, and their points are added up
-- (`ArcsPassed`), or one is the first that does (`FirstBad`).
use mathlib.Core.{Path.◌≡◌, Bool.Bool, Bool.true, Bool.false}
use Rattle.std.specs.Prelude.{ℕ, ◌+◌, ◌*◌, ◌≤◌, ◌<◌}
use native.Mathlib.Omega.{arith}
use Rattle.theory_loops.specs.First.{first, none_yet, pass, stop, first_is, least, found}
use Rattle.theory_loops.specs.Total.{total_none, total_more}
use Rattle.network.specs.{Network.Network, Network.start, Network.count, Rules.bad_arc}

pub record ArcsPassed (n : Network) (k sum : ℕ) : Type 0 where
  pub none : first k (bad_arc n) ≡ k
  pub is : sum ≡ start n k
  pub few : sum ≤ 65535 * k

-- of k arcs, arc a is the first bad one
abbrev pub FirstBad : (k : ℕ) (bad : ℕ → Bool) (a : ℕ) → Type 0
FirstBad k bad a = (a < k) × (a ≡ first k bad)

module _ {n : Network} where
  pub arcs_none : ArcsPassed n 0 0
  unfolding start
  arcs_none = record { none = none_yet (bad_arc n); is = total_none (count n); few = omega arith }

  module _ {k s : ℕ} (p : ArcsPassed n k s) where
    pub arcs_at : (m : ℕ) → m ≡ k → ArcsPassed n m s
    arcs_at m e = rw e p

    -- arc k, which has c points
    pub arcs_more : (c m : ℕ) → bad_arc n k ≡ false → c ≡ count n k → c < 65536 → m ≡ k + 1
        → ArcsPassed n m (s + c)
    unfolding start
    arcs_more c m b e l q = rw q (record {
      none = pass (bad_arc n) k p.none b;
      is = total_more (count n) s c k p.is e;
      few = omega (arith, p.few);
    })

    pub arcs_stop : (m : ℕ) → k < m → bad_arc n k ≡ true → FirstBad m (bad_arc n) k
    arcs_stop m l b = (l, stop (bad_arc n) m k p.none l b)

-- what is found in a block is found in all
pub arcs_found : (bad : ℕ → Bool) (k m a : ℕ) → FirstBad k bad a → k ≤ m → FirstBad m bad a
arcs_found bad k m a (l, e) o = (
  omega arith,
  rw e
      (first_is bad m (first k bad)
      (record {
        within = omega (arith, e);
        before = least bad k;
        at = λ _. found bad k (omega (arith, e));
      })),
)
