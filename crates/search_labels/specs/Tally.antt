-- What a search keeps of its notes: by labels that came about from settled nodes, each note is that of the
-- fewest hops and, among these, of the lowest last arc (`Tallied`). Its steps are `tally_start`,
-- `tally_settle` and `tally_counted`, beside `start`, `settle` and `nearest_exact` of Settle; at its end each
-- note has the arc of the chosen path (`tally_arc`).
use mathlib.Core.{Path.◌≡◌, Path.refl, Path.sym, Path.◌∙◌, Path.ap, List.List}
use Rattle.std.specs.Prelude.{◌≢◌, ◌⊎◌, ℕ, ◌+◌, ◌*◌, ◌/◌, ◌%◌, ◌≤◌, ◌<◌}
use Rattle.std.proofs.Common.{inl, inr, ⊎_elim}
use native.Mathlib.{Nat.le_refl, Nat.le_trans, Nat.le_antisymm, Omega.arith, Decide.ℕ_discrete}
use Rattle.theory_paths.specs.Graph.{Graph, Lawful, Bounded, ends, Permit, ArcFrom}
use Rattle.theory_paths.specs.{Earliest.never, Labels.label}
use Rattle.theory_paths.proofs.Drive.{arc_takes, path_takes}
use Rattle.theory_paths.specs.Hops.{Known, Tight, Last, Counted}
use Rattle.theory_paths.proofs.Hops.{tight_less}
use Rattle.theory_paths.specs.Chosen.{arc_into, explains}
use Rattle.theory_paths.proofs.Chosen.{explaining, lowest_passes, arc_into_lem, hop_few}
use Rattle.network.specs.Limits.{most_arcs}
use Rattle.search_frontier.specs.Relax.{ByArc, Relaxed}
use Rattle.search_frontier.specs.Settle.{Settled, Nearest, Search, Moved, was}
use Rattle.search_labels.specs.Notes.{hops_of, arc_of, longer, note, hops_in, arc_in, Noted}

-- The source has no hops; every other label came about by the arc of its note, out of a settled node with one
-- hop less; and no arc out of a settled node that ends at a label brings a lesser note.
pub record Tallied (g : Graph) (p : Permit) (s : ℕ) (L K : List ℕ) (In : ℕ → Type 0) : Type 0 where
  pub source : hops_in K s ≡ 0
  pub last : (v : ℕ) → v ≢ s → label L v < never → Last g p L (hops_in K) v (arc_in K v) × Settled L In
      (g.tail (arc_in K v))
  pub least : (a : ℕ) → Tight g p L a → Settled L In (g.tail a)
      → note K (g.head a) ≤ longer (note K (g.tail a)) + a

-- start: the source's label alone is known
pub tally_start : {g : Graph} {p : Permit} {s : ℕ} {L K : List ℕ} {In : ℕ → Type 0}
    → ((v : ℕ) → v ≢ s → label L v ≡ never) → In s → note K s ≡ 0 → Tallied g p s L K In
tally_start {g} {s = s} o c e = record {
  source = ap hops_of e;
  last = λ v ne l. absurd (omega (arith, o v ne));
  least = λ a r d. absurd (elim (ℕ_discrete (g.tail a) s)
      [ yes q ↦ d.1 (rw q c) | no q ↦ omega (arith, o (g.tail a) q, d.0) ]);
}

-- a note that is no more than that of an arc of one hop more has no more hops, and where it has as many its
-- arc is no higher
hops_most : (n c a : ℕ) → a < most_arcs → n ≤ (c + 1) * most_arcs + a → n / most_arcs ≤ c + 1
hops_most n c a l h = omega arith

arc_most : (n c a : ℕ) → a < most_arcs → n ≤ (c + 1) * most_arcs + a → c + 1 ≡ n / most_arcs → n % most_arcs ≤ a
arc_most n c a l h e = omega arith

hops_longer : (n c a : ℕ) → a < most_arcs → n ≡ (c + 1) * most_arcs + a → n / most_arcs ≡ c + 1
hops_longer n c a l e = omega arith

arc_longer : (n c a : ℕ) → a < most_arcs → n ≡ (c + 1) * most_arcs + a → n % most_arcs ≡ a
arc_longer n c a l e = omega arith

-- stop: where no node of the frontier is nearer than t, they are the hops of the labels up to t's, and the
-- arcs of the chosen path
module _ {g : Graph} (ok : Lawful g) (few : g.arcs ≤ most_arcs) {p : Permit} {s : ℕ} {L K : List ℕ}
    {In : ℕ → Type 0} (i : Tallied g p s L K In) (t : ℕ) (m : Nearest L In t) where
  settled_tail : {a : ℕ} → Tight g p L a → Known g L (label L t) (g.head a) → Settled L In (g.tail a)
  settled_tail {a} r k = (r.known, λ o. omega (arith, m (g.tail a) o, tight_less ok r, k.upto))

  pub tally_counted : Counted g p s L (hops_in K) (label L t)
  tally_counted = record {
    source = i.source;
    last = λ v ne k. (arc_in K v, (i.last v ne k.known).0);
    least = λ a r k. hops_most (note K (g.head a)) (hops_in K (g.tail a)) a (omega (arith, r.listed))
        (i.least a r (settled_tail r k));
  }

  pub tally_arc : (v : ℕ) → v ≢ s → Known g L (label L t) v → arc_in K v ≡ arc_into g p L (hops_in K) v
  tally_arc v ne k =
      let H = hops_in K in
      let a = arc_into g p L H v in
      let r = arc_into_lem ok L H tally_counted v ne k in
      let (o, d) = i.last v ne k.known in
      let l = o.tight.listed in
      let n : note K v ≤ longer (note K (g.tail a)) + a =
      rw r.enters at (i.least a r.tight (settled_tail r.tight (rw r.enters k))) in
      le_antisymm (arc_most (note K v) (H (g.tail a)) a (omega (arith, r.tight.listed)) n r.fewer)
      (lowest_passes (explains g p L H v) g.arcs 0 (arc_in K v) (omega arith) (omega arith)
      (explaining g p L H v (arc_in K v) o)).1

  -- so the nearest node has fewer hops than there are nodes
  pub tally_few : t < g.nodes → label L t < never → hops_in K t < g.nodes
  tally_few l k = hop_few ok L (hops_in K) tally_counted (record { node = l; upto = le_refl _; known = k })

-- settle the nearest node u, and relax its arcs
module _ {g : Graph} (ok : Lawful g) (few : g.arcs ≤ most_arcs) {most : ℕ} (b : Bounded g most) {p : Permit}
    {s x : ℕ} (n : s < g.nodes) (h : x < never) {L : List ℕ} {In : ℕ → Type 0}
    (i : Search g most p s x L In) {u : ℕ} {M : List ℕ} {Out : ℕ → Type 0} (c : In u) (l : label L u < never)
    (m : Nearest L In u)
    (r : Relaxed g p u (label L u) g.arcs L M) (f : Moved L M In Out u) {H K : List ℕ}
    (t : Tallied g p s L H In)
    (w : Noted g p u (label L u) (longer (note H u)) g.arcs L M H K) where
  -- at a node whose label is not above u's nothing changes
  kept : (v : ℕ) → label L v ≤ label L u → (label M v ≡ label L v) × (note K v ≡ note H v)
  kept v k = ⊎_elim (λ e. e)
      (λ e. absurd (omega (arith, r.less v, e.0.at, arc_takes ok (label L u) e.0.from))) (w.from v)

  -- u is settled now, and what was settled stays so
  below : (v : ℕ) → (v ≡ u) ⊎ Settled L In v → label L v ≤ label L u
  below v d = ⊎_elim (λ q. rw q (le_refl _)) (λ e. i.order v u e c) d

  settled : (v : ℕ) → (v ≡ u) ⊎ Settled L In v → Settled M Out v
  settled v d = (
    rw (kept v (below v d)).0 known,
    λ o. ⊎_elim (λ e. ⊎_elim (λ q. e.1 q) (λ k. k.1 e.0) d)
        (λ e. omega (arith, known)) (f.no_more v o),
  )
    where
      known : label L v < never
      known = ⊎_elim (λ q. rw q l) (λ k. k.0) d

  abbrev LastOf : ℕ → ℕ → Type 0
  LastOf v a = Last g p M (hops_in K) v a × Settled M Out (g.tail a)

  old_last : (v : ℕ) → v ≢ s → label M v < never → label M v ≡ label L v → note K v ≡ note H v
      → LastOf v (arc_in H v)
  old_last v ne k e q =
      let a = arc_in H v in
      let (o, d) = t.last v ne (omega arith) in
      let z = kept (g.tail a) (below (g.tail a) (inr d)) in
      let j : Tight g p M a = record {
        listed = o.tight.listed;
        permitted = o.tight.permitted;
        known = rw z.0 d.0;
        at = rw z.0 (o.tight.at ∙ rw o.enters (sym e));
      } in (
        record {
          tight = j;
          enters = o.enters;
          fewer = ap (λ y. hops_of y + 1) z.1 ∙ o.fewer ∙ ap hops_of (sym q);
        },
        settled (g.tail a) (inr d),
      )

  new_last : (v : ℕ) (o : ByArc g p u (label L u) v (label M v)) → note K v ≡ longer (note H u) + o.arc
      → LastOf v o.arc
  new_last v o q =
      let a = o.arc in
      let z = kept u (le_refl _) in
      let e : g.tail a ≡ u = o.from.leaves in
      let j : Tight g p M a = record {
        listed = o.from.listed;
        permitted = o.from.permitted;
        known = rw (e, z.0) l;
        at = rw (e, z.0, o.enters) (sym o.at);
      } in
      let y = hops_longer (note K v) (hops_in H u) a (omega (arith, o.from.listed)) q in (
        record {
          tight = j;
          enters = o.enters;
          fewer = ap (λ d. hops_in K d + 1) e ∙ ap (λ d. hops_of d + 1) z.1 ∙ sym y;
        },
        settled (g.tail a) (inl e),
      )

  -- an arc out of u, or out of a node that was settled
  new_least : (a : ℕ) → Tight g p M a → g.tail a ≡ u → note K (g.head a) ≤ longer (note K (g.tail a)) + a
  new_least a o e =
      let z = kept u (le_refl _) in
      let d : ArcFrom g p u a = record { listed = o.listed; permitted = o.permitted; leaves = e } in
      rw (e, z.1) (w.least a d o.listed (rw (e, z.0) at o.at))

  old_least : (a : ℕ) → Tight g p M a → Settled L In (g.tail a)
      → note K (g.head a) ≤ longer (note K (g.tail a)) + a
  old_least a o d =
      let z = kept (g.tail a) (below (g.tail a) (inr d)) in
      let k = i.closed (g.tail a) a (record {
        listed = o.listed;
        permitted = o.permitted;
        leaves = refl;
      }) d in
      let q : ends g a (label L (g.tail a)) ≡ label M (g.head a) = rw z.0 at o.at in
      let e : label M (g.head a) ≡ label L (g.head a) = omega (arith, r.less (g.head a)) in
      let y = t.least a (record {
        listed = o.listed;
        permitted = o.permitted;
        known = d.0;
        at = q ∙ e;
      }) d in
      rw z.1 (le_trans (w.less (g.head a) e) y)

  pub tally_settle : Tallied g p s M K Out
  tally_settle = record {
    source =
        let e = i.sound u l in
        ap hops_of (kept s (omega (arith, i.source, path_takes ok x e.leads, e.at))).1 ∙ t.source;
    last = λ v ne k. ⊎_elim
        (λ e. rw (← (ap arc_of e.1)) at (old_last v ne k e.0 e.1))
        (λ e. rw (← (arc_longer (note K v) (hops_in H u) e.0.arc (omega (arith, e.0.from.listed))
        e.1)) at (new_last v e.0 e.1)) (w.from v);
    least = λ a o d. ⊎_elim (new_least a o) (old_least a o) (was ok b n h i c l m r f (g.tail a) d);
  }
