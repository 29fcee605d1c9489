-- Earliest arrivals that compute: the labels after as many rounds of relaxation as there are nodes. After k
-- rounds a label is the least arrival over the permitted paths of at most k arcs, and fewer arcs than nodes
-- are enough (Simple). So a label is the earliest arrival (`labels_earliest`), and `never` exactly where
-- there is no path (`labels_never`).
use mathlib.Core.{Path.◌≡◌, Path.refl, Path.sym, Path.◌∙◌, Path.ap, List.List, List.[], List.◌∷◌, List.◌++◌}
use Rattle.std.specs.Prelude.{◌≢◌, ◌⊎◌, ◌↔◌, Bool, true, false, cond, length, get_or, replicate}
use Rattle.std.proofs.Math.Logic.{inl}
use Rattle.std.proofs.Common.{inr, true≢false, le_of_lt, le_of_eq, le_of_suc-le-suc, eq-or-lt_of_le, length-set, length-append}
use Prim.Native.Nat.{ℕ, zero, suc, ◌+◌, ◌-◌, ◌*◌, ◌≤◌, ◌<◌, min}
use Rattle.std.proofs.Math.Nat.{le_refl, le_trans, le_step}
use native.Mathlib.{Omega.arith, Decide.ℕ_discrete, Decide.dec_le, Decide.le_ind}
use Rattle.std.proofs.Math.ListN.{length-replicate}
use Rattle.std.proofs.Math.Seq.{get_or-set_same, get_or-set_other}
use Rattle.theory_paths.specs.Graph.{
  Graph,
  Lawful,
  Bounded,
  ends,
  Permit,
  ArcFrom,
  IsPath,
  stop,
  step,
  driven,
  EarliestArrival,
  Reachable,
}
use Rattle.theory_paths.proofs.Drive.{driven_append, path_append, arc_takes, path_takes}
use Rattle.theory_paths.specs.{Earliest.never, Earliest.Exact}
use Rattle.theory_paths.proofs.Earliest.{exact_never}
use Rattle.theory_paths.proofs.Simple.{shorten}
use Rattle.theory_paths.specs.Labels.{label, lowered, offer, relax, relaxed, rounds, labels, Within}

-- what stands at a node's place is its label
pub label_at : (L : List ℕ) (v : ℕ) → v < length L → get_or L v 0 ≡ label L v
label_at [] v l = absurd (omega arith)
label_at (e ∷ L) zero l = refl
label_at (e ∷ L) (suc v) l = label_at L v (omega arith)

upto : {k : ℕ} (Q : ℕ → Type 0) → Q k → ((a : ℕ) → a < k → Q a) → (a : ℕ) → a < suc k → Q a
upto {k} Q z s a l = go (eq-or-lt_of_le (le_of_suc-le-suc l))
  where
    go : (a ≡ k) ⊎ (a < k) → Q a
    go (inl e) = rw e z
    go (inr h) = s a h

-- What relaxing arc a made of u's label m: nothing, or the lesser of it and what the arc offers.
data Entry (g : Graph) (p : Permit) (L : List ℕ) (a u m n : ℕ) : Type 0 where
  untouched : (p a ≡ true → g.head a ≢ u) → n ≡ m → Entry g p L a u m n
  touched : p a ≡ true → g.head a ≡ u → n ≡ min m (offer g L a) → Entry g p L a u m n

-- What relaxing the arcs below k made of it: the least of it and of what the arcs into u offer.
record Offered (g : Graph) (p : Permit) (L : List ℕ) (k u n : ℕ) : Type 0 where
  arc : ℕ
  below : arc < k
  permitted : p arc ≡ true
  enters : g.head arc ≡ u
  at : n ≡ offer g L arc

record Became (g : Graph) (p : Permit) (L : List ℕ) (k u m n : ℕ) : Type 0 where
  less : n ≤ m
  least : (a : ℕ) → a < k → p a ≡ true → g.head a ≡ u → n ≤ offer g L a
  from : (n ≡ m) ⊎ Offered g p L k u n

module _ (g : Graph) (p : Permit) (L : List ℕ) where
  relax_size : (a : ℕ) (N : List ℕ) → length (relax g p L a N) ≡ length N
  relax_size a N =
      elim (p a) as (λ q. length (cond q (lowered N (g.head a) (offer g L a)) N) ≡ length N)
      [ true ↦ simp length-set | false ↦ refl ]

  relaxed_size : (k : ℕ) → length (relaxed g p L k) ≡ length L
  unfolding relaxed
  relaxed_size zero = refl
  relaxed_size (suc a) = relax_size a (relaxed g p L a) ∙ relaxed_size a

  relax_entry : (a : ℕ) (N : List ℕ) → g.head a < length N → (u : ℕ)
      → Entry g p L a u (label N u) (label (relax g p L a N) u)
  relax_entry a N l u = go (p a) refl (ℕ_discrete (g.head a) u)
    where
      go : (q : Bool) → p a ≡ q → Dec (g.head a ≡ u)
          → Entry g p L a u (label N u) (label (cond q (lowered N (g.head a) (offer g L a)) N) u)
      go false z d = untouched (λ y. absurd (true≢false (sym y ∙ z))) refl
      go true z (no ne) =
          untouched (λ y. ne)
          (get_or-set_other N (g.head a) u (min (label N (g.head a)) (offer g L a)) never (λ e. ne (sym e)))
      go true z (yes e) =
          touched z e
          (rw (← e) (get_or-set_same N (g.head a) (min (label N (g.head a)) (offer g L a)) never l))

  wider : {k u m n o : ℕ} → o ≡ n → (n ≡ m) ⊎ Offered g p L k u n → (o ≡ m) ⊎ Offered g p L (suc k) u o
  wider e (inl q) = inl (e ∙ q)
  wider e (inr r) =
      inr (record {
        arc = r.arc;
        below = le_step r.below;
        permitted = r.permitted;
        enters = r.enters;
        at = e
            ∙ r.at;
      })

  became_step : {k u m n o : ℕ} → Became g p L k u m n → Entry g p L k u n o → Became g p L (suc k) u m o
  became_step {k} {u} {m} {n} {o} r (untouched q e) = record {
    less = omega (arith, r.less);
    least = upto (λ a. p a ≡ true → g.head a ≡ u → o ≤ offer g L a) (λ y d. absurd (q y d))
        (λ a l y d. omega (arith, r.least a l y d));
    from = wider e r.from;
  }
  became_step {k} {u} {m} {n} {o} r (touched z h e) = record {
    less = omega (arith, r.less);
    least = upto (λ a. p a ≡ true → g.head a ≡ u → o ≤ offer g L a) (λ y d. omega arith)
        (λ a l y d. omega (arith, r.least a l y d));
    from = go (dec_le n (offer g L k));
  }
    where
      go : Dec (n ≤ offer g L k) → (o ≡ m) ⊎ Offered g p L (suc k) u o
      go (yes l) = wider (omega arith) r.from
      go (no l) = inr (record { arc = k; below = le_refl _; permitted = z; enters = h; at = omega arith })

  became : (k u : ℕ) → ((a : ℕ) → a < k → g.head a < length L)
      → Became g p L k u (label L u) (label (relaxed g p L k) u)
  unfolding relaxed
  became zero u h = record { less = le_refl _; least = λ a l. absurd (omega arith); from = inl refl }
  became (suc k) u h =
      became_step (became k u (λ a l. h a (omega arith)))
      (relax_entry k (relaxed g p L k) (rw (relaxed_size k) (h k (le_refl _))) u)

extend : {g : Graph} {p : Permit} {s x k b a : ℕ} → Within g p s x (g.tail a) k b
    → ArcFrom g p (g.tail a) a → Within g p s x (g.head a) (suc k) (ends g a b)
extend {g} {x = x} {a = a} r f = record {
  path = r.path ++ a ∷ [];
  leads = path_append r.leads (step f (stop refl));
  within = omega (arith, length-append r.path (a ∷ []), r.within);
  at = driven_append g r.path (a ∷ []) x ∙ ap (ends g a) r.at;
}

label_replicate : (n v : ℕ) → label (replicate n never) v ≡ never
label_replicate zero v = refl
label_replicate (suc n) zero = refl
label_replicate (suc n) (suc v) = label_replicate n v

module _ {g : Graph} (ok : Lawful g) (p : Permit) (s x : ℕ) where
  rounds_size : (k : ℕ) → length (rounds g p s x k) ≡ g.nodes
  unfolding rounds
  rounds_size zero = simp (length-set, length-replicate)
  rounds_size (suc k) = relaxed_size g p (rounds g p s x k) g.arcs ∙ rounds_size k

  -- the label of u after k rounds
  abbrev after : ℕ → ℕ → ℕ
  after k u = label (rounds g p s x k) u

  round : (k u : ℕ) → Became g p (rounds g p s x k) g.arcs u (after k u) (after (suc k) u)
  unfolding rounds
  round k u = became g p (rounds g p s x k) g.arcs u (λ a l. rw (rounds_size k) (ok.heads a l))

  rounds_less : (m k u : ℕ) → k ≤ m → after m u ≤ after k u
  rounds_less m k u h =
      le_ind (λ j. after j u ≤ after k u) (le_refl _) (λ j l r. le_trans (round j u).less r) m h

  -- after as many rounds more as a path has arcs, its end's label is no later than the path
  along : {u t y : ℕ} {w : List ℕ} (k m : ℕ) → IsPath g p u t w → k + length w ≤ m → after k u ≤ y
      → after m t ≤ driven g w y
  along {t = t} k m (stop e) h l = le_trans (rounds_less m k t (omega arith)) (rw e at l)
  along k m (step {a = a} f i) h l =
      along (suc k) m i (omega arith)
      (le_trans ((round k (g.head a)).least a f.listed f.permitted refl)
      (ok.fifo a f.listed (rw f.leaves l)))

  module _ (n : s < g.nodes) where
    start : after 0 s ≡ x
    unfolding rounds
    start = get_or-set_same (replicate g.nodes never) s x never (rw length-replicate n)

    start_other : (v : ℕ) → v ≢ s → after 0 v ≡ never
    unfolding rounds
    start_other v ne =
        get_or-set_other (replicate g.nodes never) s v x never ne ∙ label_replicate g.nodes v

    -- after k rounds a label is the least arrival over the permitted paths of at most k arcs
    pub rounds_least : {t : ℕ} {w : List ℕ} (k : ℕ) → IsPath g p s t w → length w ≤ k
        → label (rounds g p s x k) t ≤ driven g w x
    rounds_least k i h = along 0 k i (omega arith) (le_of_eq start)

    pub rounds_sound : (k v : ℕ) → after k v < never → Within g p s x v k (after k v)
    rounds_sound zero v h = go (ℕ_discrete v s)
      where
        go : Dec (v ≡ s) → Within g p s x v 0 (after 0 v)
        go (yes e) = record { path = []; leads = stop (sym e); within = le_refl _; at = rw e (sym start) }
        go (no ne) = absurd (omega (arith, start_other v ne))
    rounds_sound (suc k) v h = go (rounds_sound k) (round k v).from
      where
        go : ((v : ℕ) → after k v < never → Within g p s x v k (after k v))
            → (after (suc k) v ≡ after k v) ⊎ Offered g p (rounds g p s x k) g.arcs v (after (suc k) v)
            → Within g p s x v (suc k) (after (suc k) v)
        go ih (inl e) = let r = ih v (omega arith) in
            record { path = r.path; leads = r.leads; within = le_step r.within; at = r.at ∙ sym e }
        go ih (inr o) =
            let f : ArcFrom g p (g.tail o.arc) o.arc =
            record { listed = o.below; permitted = o.permitted; leaves = refl } in
            rw (o.at, ← o.enters)
            (extend (ih (g.tail o.arc)
            (omega (arith, o.at, arc_takes ok (after k (g.tail o.arc)) f))) f)

    labels_least : {t : ℕ} {w : List ℕ} → IsPath g p s t w → label (labels g p s x) t ≤ driven g w x
    unfolding labels
    labels_least i =
        let r = shorten ok x n i in
        le_trans (rounds_least g.nodes r.leads (le_of_lt r.short)) r.no_later

    pub labels_exact : x < never → Exact g p s x (label (labels g p s x)) never
    unfolding labels
    labels_exact h = record {
      source = let r = rounds_sound g.nodes s (omega (arith, labels_least (stop refl))) in
          omega (arith, labels_least (stop refl), r.at, path_takes ok x r.leads);
      earliest = λ t k l.
          let r = rounds_sound g.nodes t l in
          record {
            arrival = record { path = r.path; leads = r.leads; at = r.at };
            least = λ w i. labels_least i;
          };
      least = λ t w i l. labels_least i;
    }

    pub labels_capped : x ≤ never → (t : ℕ) → label (labels g p s x) t ≤ never
    unfolding labels
    labels_capped h t = go (ℕ_discrete t s)
      where
        go : Dec (t ≡ s) → after g.nodes t ≤ never
        go (yes q) = rw q (omega (arith, rounds_less g.nodes 0 s (omega arith), start))
        go (no q) = omega (arith, rounds_less g.nodes 0 t (omega arith), start_other t q)

    -- a label is the earliest arrival, or never; and where arcs take at most so long, and x is not too late,
    -- it is never exactly where there is no path
    pub labels_earliest : x < never → (t : ℕ) → label (labels g p s x) t < never
        → EarliestArrival g p s x t (label (labels g p s x) t)
    labels_earliest h t l = (labels_exact h).earliest t (le_of_lt l) l

    pub labels_never : {most : ℕ} → Bounded g most → x + (g.nodes - 1) * most < never → (t : ℕ)
        → (label (labels g p s x) t ≡ never) ↔ (¬ Reachable g p s t)
    labels_never b early t =
        exact_never (labels_exact (omega arith)) ok b n early t (labels_capped (omega arith) t)
