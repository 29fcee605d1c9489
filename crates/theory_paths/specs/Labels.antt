-- Earliest arrivals that compute: the labels after as many rounds of relaxation as there are nodes. After k
-- rounds a label is the least arrival over the permitted paths of at most k arcs, and fewer arcs than nodes
-- are enough (Simple). So a label is the earliest arrival (`labels_earliest`), and `never` exactly where
-- there is no path (`labels_never`).
use mathlib.Core.{Path.◌≡◌, List.List}
use Rattle.std.specs.Prelude.{cond, length, get_or, set, replicate}
use Prim.Native.Nat.{ℕ, zero, suc, ◌≤◌, min}
use Rattle.theory_paths.specs.Graph.{Graph, ends, Permit, IsPath, driven}
use Rattle.theory_paths.specs.{Earliest.never}

abbrev pub label : List ℕ → ℕ → ℕ
label L v = get_or L v never

-- v's label is lowered to e, if e is less
abbrev pub lowered : List ℕ → ℕ → ℕ → List ℕ
lowered N v e = set N v (min (label N v) e)

-- The tick at which arc a ends when it is taken at its tail's label.
abbrev pub offer : Graph → List ℕ → ℕ → ℕ
offer g L a = ends g a (label L (g.tail a))

-- Arc a lowers its head's label in N to what it offers, by the labels L.
abbrev pub relax : Graph → Permit → List ℕ → ℕ → List ℕ → List ℕ
relax g p L a N =
    let M = lowered N (g.head a) (offer g L a) in
    cond (p a) M N

-- The labels L after the arcs below k have been relaxed.
unfoldable pub relaxed : Graph → Permit → List ℕ → ℕ → List ℕ
relaxed g p L zero = L
relaxed g p L (suc a) = relax g p L a (relaxed g p L a)

-- The labels after k rounds: at first the source's is x, and no other is known.
unfoldable pub rounds : Graph → Permit → ℕ → ℕ → ℕ → List ℕ
rounds g p s x zero = set (replicate g.nodes never) s x
rounds g p s x (suc k) = relaxed g p (rounds g p s x k) g.arcs

unfoldable pub labels : Graph → Permit → ℕ → ℕ → List ℕ
labels g p s x = rounds g p s x g.nodes

-- Some permitted path of at most k arcs from s to t, driven from tick x, ends at b.
pub record Within (g : Graph) (p : Permit) (s x t k b : ℕ) : Type 0 where
  pub path : List ℕ
  pub leads : IsPath g p s t path
  pub within : length path ≤ k
  pub at : driven g path x ≡ b
