-- What a search leaves in the list of arrivals, in document 01's words. Where there is a way, the least
-- arrival of the target, and of every node that is reached before it, and never for the others
-- (`shows_before`). Where there is none, the least arrival of every node that is reached, and never for the
-- others (`shows_all`). Entries past the nodes stay.
use mathlib.Core.{Path.◌≡◌, Path.refl, Path.◌∙◌, Logic.◌≢◌, List.List}
use Rattle.std.specs.Prelude.{Bool, true, false, cond, ◌||◌, ℕ, ◌≤◌, ◌<◌}
use Rattle.std.proofs.Common.{arith, lt-ltb, le-ltb, eq-eqb, ne_eqb}
use lib.{ListN.length, ListN.get_or, Dec.eqb, Dec.ltb}
use Rattle.theory_loops.specs.Fill.{Filled}
use Rattle.theory_paths.specs.Graph.{Graph, Permit, Reachable, EarliestArrival}
use Rattle.theory_paths.specs.{Earliest.never, Labels.label, Labels.labels}
use Rattle.theory_paths.proofs.Earliest.{exact_value}
use Rattle.search_labels.specs.Ready.{Leaving}
use Rattle.search_path.specs.Trim.{shown, shown_of, shown_all}
use Rattle.search_path.specs.Answering.{true_exact, true_capped}
use Rattle.search_path.specs.Promise.{before_never, never_is}

-- The entries past the nodes are the old ones.
pub record Kept (nodes : ℕ) (arrivals₀ arrivals : List ℕ) : Type 0 where
  pub long : length arrivals ≡ length arrivals₀
  pub rest : (v : ℕ) → nodes ≤ v → get_or arrivals v 0 ≡ get_or arrivals₀ v 0

pub record ShowsBefore (g : Graph) (p : Permit) (s x t : ℕ) (arrivals₀ arrivals : List ℕ) : Type 0 where
  pub target : (c : ℕ) → EarliestArrival g p s x t c → get_or arrivals t 0 ≡ c
  pub before : (v b c : ℕ) → v < g.nodes → EarliestArrival g p s x v b → EarliestArrival g p s x t c → b < c
      → get_or arrivals v 0 ≡ b
  pub after : (v b c : ℕ) → v < g.nodes → v ≢ t → EarliestArrival g p s x v b → EarliestArrival g p s x t c
      → c ≤ b
      → get_or arrivals v 0 ≡ never
  pub none : (v : ℕ) → v < g.nodes → (¬ Reachable g p s v) → get_or arrivals v 0 ≡ never
  pub kept : Kept g.nodes arrivals₀ arrivals

pub record ShowsAll (g : Graph) (p : Permit) (s x : ℕ) (arrivals₀ arrivals : List ℕ) : Type 0 where
  pub reached : (v b : ℕ) → v < g.nodes → EarliestArrival g p s x v b → get_or arrivals v 0 ≡ b
  pub none : (v : ℕ) → v < g.nodes → (¬ Reachable g p s v) → get_or arrivals v 0 ≡ never
  pub kept : Kept g.nodes arrivals₀ arrivals

module _ {g : Graph} {s x : ℕ} (d : Leaving g s x) (p : Permit) (t : ℕ) {arrivals₀ arrivals : List ℕ}
    (q : Filled 0 g.nodes (shown (labels g p s x) t) arrivals₀ arrivals) where
  reads : (v : ℕ) → v < g.nodes
      → get_or arrivals v 0 ≡ shown_of (label (labels g p s x) v) (label (labels g p s x) t) v t
  unfolding shown
  reads v m = q.written v (omega arith) m

  is : (v b : ℕ) → EarliestArrival g p s x v b → label (labels g p s x) v ≡ b
  is v b e = exact_value (true_exact d p) (omega arith) e (omega (arith, before_never d e))

  rests : Kept g.nodes arrivals₀ arrivals
  rests = record { long = q.long; rest = q.after }

  unreached : (v : ℕ) → v < g.nodes → (¬ Reachable g p s v) → get_or arrivals v 0 ≡ never
  unreached v m n =
      reads v m ∙ go (ltb (label (labels g p s x) v) (label (labels g p s x) t) || eqb v t)
      ((never_is d p v).1 n)
    where
      go : (a : Bool) {e : ℕ} → e ≡ never → cond a e never ≡ never
      go true z = z
      go false z = refl

  pub shows_before : t < g.nodes → ShowsBefore g p s x t arrivals₀ arrivals
  shows_before l = record {
    target = λ c e. reads t l ∙ own (ltb (label (labels g p s x) t) (label (labels g p s x) t)) ∙ is t c e;
    before = λ v b c m e f h. reads v m ∙ rw (lt-ltb _ _ (lower v b c e f h)) (is v b e);
    after = λ v b c m ne e f h. reads v m ∙ rw (le-ltb _ _ (higher v b c e f h), ne_eqb v t ne);
    none = unreached;
    kept = rests;
  }
    where
      own : (a : Bool) → cond (a || eqb t t) (label (labels g p s x) t) never ≡ label (labels g p s x) t
      own true = refl
      own false = rw (eq-eqb t t refl)

      lower : (v b c : ℕ) → EarliestArrival g p s x v b → EarliestArrival g p s x t c → b < c
          → label (labels g p s x) v < label (labels g p s x) t
      lower v b c e f h = omega (arith, is v b e, is t c f)

      higher : (v b c : ℕ) → EarliestArrival g p s x v b → EarliestArrival g p s x t c → c ≤ b
          → label (labels g p s x) t ≤ label (labels g p s x) v
      higher v b c e f h = omega (arith, is v b e, is t c f)

  pub shows_all : (¬ Reachable g p s t) → ShowsAll g p s x arrivals₀ arrivals
  shows_all n = record {
    reached = λ v b m e.
        q.written v (omega arith) m ∙ shown_all (labels g p s x) t ((never_is d p t).1 n) (true_capped d p) v
        ∙ is v b e;
    none = unreached;
    kept = rests;
  }
