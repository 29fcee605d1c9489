-- How few arcs lead to a node at its label. An arc is tight when, taken at its tail's label, it ends at its
-- head's: by exact labels a path over tight arcs reaches each of its nodes at its earliest arrival
-- (`tight_driven`). A node's hops are the fewest arcs of such paths: the labels of the graph in which every
-- arc takes one tick. `Counted` says of each node what they are by its arcs alone, and `hops_counted` that
-- they are so.
use mathlib.Core.{Path.◌≡◌, Path.refl, Path.sym, Path.◌∙◌, Path.ap, List.List, List.[], List.◌∷◌, List.◌++◌}
use Rattle.std.specs.Prelude.{◌≢◌, ◌⊎◌, true, ℕ, zero, suc, ◌+◌, ◌≤◌, ◌<◌}
use Rattle.std.proofs.Common.{inl, inr, ⊎_elim, eqb-true, ltb-true, eq-eqb, lt-ltb}
use Rattle.std.proofs.Math.Bool.{and-eq-true_iff}
use native.Mathlib.{Nat.le_refl, Omega.arith, Decide.ℕ_discrete}
use lib.{ListN.length}
use Rattle.theory_paths.specs.Graph.{
  Graph,
  Lawful,
  ends,
  Permit,
  ArcFrom,
  IsPath,
  stop,
  step,
  driven,
  EarliestArrival,
}
use Rattle.theory_paths.proofs.Drive.{arc_takes, path_takes, path_append, arrival_then, earliest_le}
use Rattle.theory_paths.specs.Earliest.{never, Exact}
use Rattle.theory_paths.proofs.Earliest.{exact_reached}
use Rattle.theory_paths.specs.Labels.{label, offer}
use Rattle.theory_paths.proofs.Labels.{labels_exact}
use Rattle.theory_paths.specs.Hops.{tight, counting, hops, Known, Tight, Last, Counted, LastArc}

module _ {g : Graph} {p : Permit} {L : List ℕ} where
  pub is_tight : {a : ℕ} → a < g.arcs → tight g p L a ≡ true → Tight g p L a
  is_tight l e =
      let (q, e₁) = (and-eq-true_iff _ _).0 e in
      let (k, r) = (and-eq-true_iff _ _).0 e₁ in
      record { listed = l; permitted = q; known = ltb-true _ _ k; at = eqb-true _ _ r }

  pub tight_is : {a : ℕ} → Tight g p L a → tight g p L a ≡ true
  tight_is r = rw (r.permitted, lt-ltb _ _ r.known, eq-eqb _ _ r.at)

  pub tight_arc : {a : ℕ} → Tight g p L a → ArcFrom g (tight g p L) (g.tail a) a
  tight_arc r = record { listed = r.listed; permitted = tight_is r; leaves = refl }

  pub tight_less : {a : ℕ} → Lawful g → Tight g p L a → label L (g.tail a) < label L (g.head a)
  tight_less {a} ok r = rw r.at at (arc_takes ok (label L (g.tail a)) (tight_arc r))

  pub known_tail : {a B : ℕ} → Lawful g → Tight g p L a → Known g L B (g.head a) → Known g L B (g.tail a)
  known_tail {a} ok r c = record {
    node = ok.tails a r.listed;
    upto = omega (arith, c.upto, tight_less ok r);
    known = r.known;
  }

module _ (g : Graph) (p : Permit) (L : List ℕ) where
  arc_tight : {u a : ℕ} → ArcFrom g (tight g p L) u a → Tight g p L a
  arc_tight f = is_tight f.listed f.permitted

  -- a path over tight arcs is permitted, and driven from its first label it ends at its last
  pub tight_path : {u t : ℕ} {w : List ℕ} → IsPath g (tight g p L) u t w → IsPath g p u t w
  tight_path (stop e) = stop e
  tight_path (step f i) = step (record {
    listed = f.listed;
    permitted = (arc_tight f).permitted;
    leaves = f.leaves;
  }) (tight_path i)

  pub tight_driven : {u t : ℕ} {w : List ℕ} → IsPath g (tight g p L) u t w
      → driven g w (label L u) ≡ label L t
  tight_driven (stop e) = ap (label L) e
  tight_driven {w = a ∷ w} (step f i) = ap (driven g w) (rw f.leaves at (arc_tight f).at) ∙ tight_driven i

last_arc : {g : Graph} {p : Permit} {s t : ℕ} {w : List ℕ} (x : ℕ) → IsPath g p s t w
    → ((s ≡ t) × (x ≡ driven g w x)) ⊎ LastArc g p s t x (driven g w x)
last_arc x (stop e) = inl (e, refl)
last_arc {g} {p} {s} {t} x (step {a = a} {w = w} f i) = inr (go (last_arc (ends g a x) i))
  where
    go : ((g.head a ≡ t) × (ends g a x ≡ driven g (a ∷ w) x)) ⊎ LastArc g p (g.head a) t (ends g a x)
        (driven g (a ∷ w) x) → LastArc g p s t x (driven g (a ∷ w) x)
    go (inl e) = record {
      arc = a;
      last = rw f.leaves f;
      enters = e.0;
      before = [];
      leads = stop (sym f.leaves);
      at = e.1;
    }
    go (inr r) = record {
      arc = r.arc;
      last = r.last;
      enters = r.enters;
      before = a ∷ r.before;
      leads = step f r.leads;
      at = r.at;
    }

-- in the graph that counts, the same paths, and their ticks are their arcs
module _ (g : Graph) where
  counting_ends : (a x : ℕ) → ends (counting g) a x ≡ x + 1
  unfolding ends
  counting_ends a x = refl

  counting_driven : (w : List ℕ) (x : ℕ) → driven (counting g) w x ≡ x + length w
  counting_driven [] x = omega arith
  counting_driven (a ∷ w) x = omega (arith, counting_driven w (ends (counting g) a x), counting_ends a x)

  counting_arc : {p : Permit} {u a : ℕ} → ArcFrom g p u a → ArcFrom (counting g) p u a
  counting_arc f = record { listed = f.listed; permitted = f.permitted; leaves = f.leaves }

  counted_arc : {p : Permit} {u a : ℕ} → ArcFrom (counting g) p u a → ArcFrom g p u a
  counted_arc f = record { listed = f.listed; permitted = f.permitted; leaves = f.leaves }

  counting_path : {p : Permit} {s t : ℕ} {w : List ℕ} → IsPath g p s t w → IsPath (counting g) p s t w
  counting_path (stop e) = stop e
  counting_path (step f i) = step (counting_arc f) (counting_path i)

  pub counting_lawful : Lawful g → Lawful (counting g)
  unfolding ends
  counting_lawful ok = record {
    positive = omega arith;
    tails = ok.tails;
    heads = ok.heads;
    takes = λ a x l h. omega arith;
    fifo = λ a l h. omega arith;
  }

module _ {g : Graph} (ok : Lawful g) {p : Permit} {s x : ℕ} (n : s < g.nodes) (L : List ℕ) {B : ℕ}
    (e : Exact g p s x (label L) B) where
  -- every label but the source's has a tight arc that ends at it: the last of a path that does
  last_tight : (v : ℕ) → Known g L B v → LastArc g p s v x (label L v)
      → (a : ℕ) × Tight g p L a × (g.head a ≡ v)
  last_tight v c r =
      let a = r.arc in
      let m = arc_takes ok (driven g r.before x) r.last in
      let l = e.least (g.tail a) r.before r.leads (omega (arith, r.at, c.upto)) in
      let k = (e.earliest (g.tail a) (omega (arith, r.at, c.upto))
      (omega (arith, r.at, c.known))).arrival in
      let o = earliest_le (e.earliest v c.upto c.known)
      (rw r.enters at (arrival_then k r.last)) in
      let d : offer g L a ≡ label L v = omega (arith, ok.fifo a r.last.listed l, r.at) in (
        a,
        record {
          listed = r.last.listed;
          permitted = r.last.permitted;
          known = omega (arith, r.at, c.known);
          at = rw r.enters d;
        },
        r.enters,
      )

  tight_into : (v : ℕ) → v ≢ s → Known g L B v → (a : ℕ) × Tight g p L a × (g.head a ≡ v)
  tight_into v ne c =
      let r = (e.earliest v c.upto c.known).arrival in
      ⊎_elim (λ q. absurd (ne (sym q.0))) (last_tight v c) (rw r.at at (last_arc x r.leads))

  -- so a path over tight arcs leads to it
  abbrev TightTo : ℕ → Type 0
  TightTo v = (w : List ℕ) × IsPath g (tight g p L) s v w

  tight_to : (k v : ℕ) → label L v < k → Known g L B v → TightTo v
  tight_to zero v h c = absurd (omega arith)
  tight_to (suc k) v h c = go (tight_to k) (ℕ_discrete v s)
    where
      go : ((v : ℕ) → label L v < k → Known g L B v → TightTo v) → Dec (v ≡ s) → TightTo v
      go ih (yes q) = ([], stop (sym q))
      go ih (no q) =
          let (a, r, z) = tight_into v q c in
          let (w, i) = ih (g.tail a) (omega (arith, tight_less ok r, ap (label L) z))
          (known_tail ok r (rw z c)) in
          (w ++ a ∷ [], path_append i (step (tight_arc r) (stop z)))

  -- the hops of a node, as the earliest arrival in the graph that counts
  counting_exact : Exact (counting g) (tight g p L) s 0 (label (hops g p s L)) never
  unfolding hops
  counting_exact = labels_exact (counting_lawful g ok) (tight g p L) s 0 n (omega arith)

  fewest : (v : ℕ) → Known g L B v → EarliestArrival (counting g) (tight g p L) s 0 v (label (hops g p s L) v)
  fewest v c =
      let (w, i) = tight_to (suc (label L v)) v (omega arith) c in
      let k = path_takes ok (label L s) (tight_path g p L i) in
      exact_reached counting_exact (le_refl _) (counting_path g i)
      (omega (arith, tight_driven g p L i, counting_driven g w 0, c.known))

  counting_least : (a : ℕ) → Tight g p L a → Known g L B (g.head a)
      → label (hops g p s L) (g.head a) ≤ label (hops g p s L) (g.tail a) + 1
  counting_least a r c =
      let f = counting_arc g (tight_arc r) in
      omega (
        arith,
        earliest_le (fewest (g.head a) c)
            (arrival_then (fewest (g.tail a) (known_tail ok r c)).arrival f),
        counting_ends g a
            (label (hops g p s L) (g.tail a)),
      )

  pub hops_counted : Counted g p s L (label (hops g p s L)) B
  hops_counted = record {
    source = counting_exact.source;
    last = λ v ne c.
        let r = (fewest v c).arrival in
        ⊎_elim (λ q. absurd (ne (sym q.0))) (found v c) (rw r.at at (last_arc 0 r.leads));
    least = counting_least;
  }
    where
      found : (v : ℕ) → Known g L B v → LastArc (counting g) (tight g p L) s v 0 (label (hops g p s L) v)
          → (a : ℕ) × Last g p L (label (hops g p s L)) v a
      found v c r =
          let a = r.arc in
          let k = arc_tight g p L (counted_arc g r.last) in
          let d : Known g L B (g.head a) = rw r.enters c in
          let l = (fewest (g.tail a) (known_tail ok k d)).least r.before r.leads in
          let m = counting_least a k d in
          let q = ap (label (hops g p s L)) r.enters in
          let o = counting_ends g a (driven (counting g) r.before 0) in (
            a,
            record { tight = k; enters = r.enters; fewer = omega (arith, r.at) },
          )
