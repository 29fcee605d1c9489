-- The notes that a search keeps beside the labels: for each node by how many arcs its label came about, and
-- by which arc last, in one number, so that of two notes the lesser has fewer arcs, or as many and a lower
-- last one. What one arc makes of them (`notes_at`), and what all arcs out of a node have made (`Noted`).
use mathlib.Core.{Path.◌≡◌, Path.refl, Path.sym, Path.◌∙◌, Path.ap, List.List}
use Rattle.std.specs.Prelude.{◌≢◌, ◌⊎◌, Bool, true, false, cond, ℕ, suc, ◌+◌, ◌*◌, ◌/◌, ◌%◌, ◌≤◌, ◌<◌, min}
use Rattle.std.proofs.Common.{inl, inr, true≢false, get_or-set_same, get_or-set_other, eq-eqb, ne_eqb, lt-ltb, le-ltb}
use native.Mathlib.{Nat.le_refl, Numerals.add-one, Omega.arith, Decide.ℕ_discrete, Decide.dec_lt}
use lib.{ListN.length, ListN.get_or, ListN.set, ListN.length-set, Dec.eqb, Dec.ltb}
use Rattle.std.proofs.lemmas.List.{set-get_or}
use Rattle.theory_paths.specs.Graph.{Graph, Lawful, ends, Permit, ArcFrom}
use Rattle.theory_paths.specs.{Earliest.never, Labels.label, Labels.lowered}
use Rattle.theory_paths.proofs.Drive.{arc_takes}
use Rattle.theory_paths.proofs.Labels.{label_at}
use Rattle.network.specs.Limits.{most_nodes, most_arcs}
use Rattle.search_chains.specs.Chain.{NextArc}
use Rattle.search_frontier.specs.Relax.{relax_at, ByArc, Relaxed, NoArc, no_arc, extended, Walked}

-- A note's count of arcs, and its last arc.
abbrev pub hops_of : ℕ → ℕ
hops_of note = note / most_arcs

abbrev pub arc_of : ℕ → ℕ
arc_of note = note % most_arcs

-- The least note with one arc more; arc a out of the node brings the a-th from it on.
abbrev pub longer : ℕ → ℕ
longer note = (hops_of note + 1) * most_arcs

-- The most that a path of fewer arcs than nodes leaves for one arc more.
abbrev pub most_note : ℕ
most_note = most_nodes * most_arcs

-- What the notes K say of node v.
abbrev pub note : List ℕ → ℕ → ℕ
note K v = get_or K v 0

abbrev pub hops_in : List ℕ → ℕ → ℕ
hops_in K v = hops_of (note K v)

abbrev pub arc_in : List ℕ → ℕ → ℕ
arc_in K v = arc_of (note K v)

-- The note of a node that has label m with note h and is offered label e with note k: that of the lesser
-- label, and of equal ones the lesser.
abbrev pub lesser : ℕ → ℕ → ℕ → ℕ → ℕ
lesser e k m h = cond (ltb e m) k (cond (eqb e m) (min h k) h)

-- Arc a, taken at tick y and bringing the a-th note from b on, changes its head's note in K, if it is
-- permitted; N has the labels.
abbrev pub notes_at : Graph → Permit → ℕ → ℕ → ℕ → List ℕ → List ℕ → List ℕ
notes_at g p y b a N K =
    cond (p a) (set K (g.head a) (lesser (ends g a y) (b + a) (label N (g.head a)) (note K (g.head a)))) K

-- What relaxing the permitted arcs out of u below number k, taken at tick y and bringing notes from b on,
-- made of the notes H, while the labels became M from L: at a label that stayed none rose, none is more than
-- an arc that ends at the label brings, and one that changed came about by such an arc.
pub record Noted (g : Graph) (p : Permit) (u y b k : ℕ) (L M H K : List ℕ) : Type 0 where
  pub size : length K ≡ length H
  pub less : (v : ℕ) → label M v ≡ label L v → note K v ≤ note H v
  pub least : (a : ℕ) → ArcFrom g p u a → a < k → ends g a y ≡ label M (g.head a)
      → note K (g.head a) ≤ b + a
  pub from : (v : ℕ)
      → ((label M v ≡ label L v) × (note K v ≡ note H v))
      ⊎ ((r : ByArc g p u y v (label M v)) × (note K v ≡ b + r.arc))

-- how code comes to `notes_at`: v is the arc's head, and e the tick at which it ends
module _ (g : Graph) (p : Permit) (y b a : ℕ) (N K : List ℕ) where
  pub note_less : (J : List ℕ) (v e : ℕ) → J ≡ set K v (b + a) → p a ≡ true → v ≡ g.head a → e ≡ ends g a y
      → v < length N → e < get_or N v 0
      → J ≡ notes_at g p y b a N K
  note_less J v e i h q z l m = i ∙ rw (h, ← q, ← z, lt-ltb e (label N v) (omega (arith, label_at N v l)))

  pub note_fewer : (J : List ℕ) (v e : ℕ) → J ≡ set K v (b + a) → p a ≡ true → v ≡ g.head a → e ≡ ends g a y
      → v < length N → get_or N v 0 ≤ e
      → e ≤ get_or N v 0 → b + a < note K v → J ≡ notes_at g p y b a N K
  note_fewer J v e i h q z l m c n =
      let d = label_at N v l in
      let x : min (note K v) (b + a) ≡ b + a = omega arith in
      i ∙ rw (h, ← q, ← z, le-ltb e (label N v) (omega arith), eq-eqb e (label N v) (omega arith), x)

  pub note_same : (v e : ℕ) → p a ≡ true → v ≡ g.head a → e ≡ ends g a y → v < length N → get_or N v 0 ≤ e
      → e ≤ get_or N v 0 → note K v ≤ b + a
      → K ≡ notes_at g p y b a N K
  note_same v e h q z l m c n =
      let d = label_at N v l in
      let x : min (note K v) (b + a) ≡ note K v = omega arith in
      rw (h, ← q, ← z, le-ltb e (label N v) (omega arith), eq-eqb e (label N v) (omega arith), x)
      (sym (set-get_or K v 0))

  pub note_late : (v e : ℕ) → p a ≡ true → v ≡ g.head a → e ≡ ends g a y → v < length N → get_or N v 0 < e
      → K ≡ notes_at g p y b a N K
  note_late v e h q z l m =
      let d = label_at N v l in
      rw (h, ← q, ← z, le-ltb e (label N v) (omega arith), ne_eqb e (label N v) (λ x. omega arith))
      (sym (set-get_or K v 0))

  pub note_early : Lawful g → a < g.arcs → (v : ℕ) → p a ≡ true → v ≡ g.head a → v < length N
      → get_or N v 0 ≤ y → K ≡ notes_at g p y b a N K
  note_early ok c v h q l m =
      let f : ArcFrom g p (g.tail a) a = record { listed = c; permitted = h; leaves = refl } in
      note_late v (ends g a y) h q refl l (omega (arith, arc_takes ok y f))

  pub note_not : p a ≡ false → K ≡ notes_at g p y b a N K
  note_not h = rw h

-- one arc out of u, permitted: the head's note becomes the lesser
module _ {g : Graph} {p : Permit} {u y b : ℕ} {L H : List ℕ} {M K : List ℕ} (k : ℕ)
    (r : Relaxed g p u y k L M) (h : Noted g p u y b k L M H K)
    (f : ArcFrom g p u k) (l : g.head k < length M) (m : g.head k < length K) where
  abbrev t : ℕ
  t = g.head k

  abbrev e : ℕ
  e = ends g k y

  abbrev N : List ℕ
  N = lowered M t e

  abbrev J : List ℕ
  J = set K t (lesser e (b + k) (label M t) (note K t))

  here : label N t ≡ min (label M t) e
  here = get_or-set_same M t (min (label M t) e) never l

  other : (v : ℕ) → v ≢ t → label N v ≡ label M v
  other v q = get_or-set_other M t v (min (label M t) e) never q

  other_note : (v : ℕ) → v ≢ t → note J v ≡ note K v
  other_note v q = get_or-set_other K t v (lesser e (b + k) (label M t) (note K t)) 0 q

  new_note : note J t ≡ lesser e (b + k) (label M t) (note K t)
  new_note = get_or-set_same K t (lesser e (b + k) (label M t) (note K t)) 0 m

  note_lower : e < label M t → note J t ≡ b + k
  note_lower q = new_note ∙ rw (lt-ltb e (label M t) q)

  note_equal : e ≡ label M t → note J t ≡ min (note K t) (b + k)
  note_equal q = new_note ∙ rw (le-ltb e (label M t) (omega arith), eq-eqb e (label M t) q)

  note_higher : label M t < e → note J t ≡ note K t
  note_higher q = new_note ∙ rw (le-ltb e (label M t) (omega arith), ne_eqb e (label M t) (λ z. omega arith))

  no_more : label M t ≤ e → note J t ≤ note K t
  no_more q = elim (ℕ_discrete e (label M t)) [
    | yes z ↦ omega (arith, note_equal z)
    | no z ↦ omega
        (arith, note_higher (omega arith))
  ]

  at_less : label N t ≡ label L t → note J t ≤ note H t
  at_less q = elim (dec_lt e (label M t)) [
    | yes z ↦ absurd (omega (arith, here, r.less t))
    | no z ↦ omega (arith, no_more (omega arith), h.less t (omega (arith, here)))
  ]

  at_most : ends g k y ≡ label N t → note J t ≤ b + k
  at_most q = elim (dec_lt e (label M t)) [
    | yes z ↦ omega (arith, note_lower z)
    | no z ↦ omega (arith, note_equal (omega (arith, here)))
  ]

  at_earlier : (a : ℕ) → ArcFrom g p u a → a < k → g.head a ≡ t → ends g a y ≡ label N (g.head a)
      → note J (g.head a) ≤ b + a
  at_earlier a d z w q =
      let x = r.least a d z in
      let o = ap (label M) w in
      let c = ap (label N) w in
      let i = h.least a d z (omega (arith, here)) in
      omega (arith, ap (note J) w, ap (note K) w, no_more (omega (arith, here)))

  abbrev FromOld : ℕ → Type 0
  FromOld v = ((label N v ≡ label L v) × (note J v ≡ note H v))
      ⊎ ((r : ByArc g p u y v (label N v)) × (note J v ≡ b + r.arc))

  by_arc : label N t ≡ e → note J t ≡ b + k → FromOld t
  by_arc q z = inr (record { arc = k; from = f; enters = refl; at = q }, z)

  as_before : label N t ≡ label M t → note J t ≡ note K t → FromOld t
  as_before q z = rw (q, z) (h.from t)

  at_from : FromOld t
  at_from = elim (dec_lt e (label M t)) [
    | yes q ↦ by_arc (omega (arith, here)) (note_lower q)
    | no q ↦ elim (ℕ_discrete (note J t) (note K t)) [
      | yes z ↦ as_before (omega (arith, here)) z
      | no z ↦ elim (ℕ_discrete e (label M t)) [
        | yes c ↦ by_arc (omega (arith, here)) (omega (arith, note_equal c))
        | no c ↦ absurd (z (note_higher (omega arith)))
      ]
    ]
  ]

  lower : (j : ℕ) → NoArc g p u (suc k) j → Noted g p u y b j L N H J
  lower j n = record {
    size = length-set K t (lesser e (b + k) (label M t) (note K t)) ∙ h.size;
    less = λ v q. elim (ℕ_discrete v t) [
      | yes z ↦ rw z (at_less (rw z at q))
      | no z ↦ rw (other_note v z) (h.less v (sym (other v z) ∙ q))
    ];
    least = extended (λ a. ends g a y ≡ label N (g.head a) → note J (g.head a) ≤ b + a) (suc k) j
        (λ a (d : ArcFrom g p u a) z q. elim (ℕ_discrete a k) [
          | yes w ↦ rw w (at_most (rw w at q))
          | no w ↦ elim (ℕ_discrete (g.head a) t) [
            | yes x ↦ at_earlier a d (omega arith) x q
            | no x ↦ rw (other_note (g.head a) x) (h.least a d (omega arith) (q ∙ other (g.head a) x))
          ]
        ]) n;
    from = λ v. elim (ℕ_discrete v t) [
      | yes z ↦ rw z at_from
      | no z ↦ rw (other v z, other_note v z)
          (h.from v)
    ];
  }

-- FOR THE WALK over the arcs out of u, beside `walk_first`, `walk_next` and `walk_last` of Relax
module _ {g : Graph} {p : Permit} {u y b : ℕ} {L H : List ℕ} where
  pub noted_first : (k : ℕ) → NextArc g.tail g.arcs u 0 k → Noted g p u y b k L L H H
  noted_first k n = record {
    size = refl;
    less = λ v e. le_refl _;
    least = λ a f l e. absurd (no_arc 0 k n a f (omega arith) l);
    from = λ v. inl (refl, refl);
  }

  skip : {M K : List ℕ} (k j : ℕ) → Noted g p u y b k L M H K → p k ≡ false → NoArc g p u (suc k) j
      → Noted g p u y b j L M H K
  skip {M} {K} k j h e n = record {
    size = h.size;
    less = h.less;
    least = extended (λ a. ends g a y ≡ label M (g.head a) → note K (g.head a) ≤ b + a) k j h.least
        (λ a f l m. elim (ℕ_discrete a k) [
          | yes q ↦ true≢false (sym f.permitted ∙ ap p q ∙ e)
          | no q ↦ n a f (omega arith) m
        ]);
    from = h.from;
  }

  noted_more : (k j : ℕ) {M K : List ℕ} → Relaxed g p u y k L M → Noted g p u y b k L M H K → k < g.arcs
      → g.tail k ≡ u → g.head k < length M → g.head k < length K
      → NoArc g p u (suc k) j → Noted g p u y b j L (relax_at g p y k M) H (notes_at g p y b k M K)
  noted_more k j {M} {K} r h l e a c n = go (p k) refl
    where
      go : (q : Bool) → p k ≡ q
          → Noted g p u y b j L (cond q (lowered M (g.head k) (ends g k y)) M) H
          (cond q (set K (g.head k) (lesser (ends g k y) (b + k) (label M (g.head k))
          (note K (g.head k)))) K)
      go true z = lower k r h (record { listed = l; permitted = z; leaves = e }) a c j n
      go false z = skip k j h z n

  pub noted_next : (k j : ℕ) {M N K J : List ℕ} → Walked g p u y k L M → Noted g p u y b k L M H K
      → k < g.arcs → g.head k < length M → g.head k < length K
      → NextArc g.tail g.arcs u (k + 1) j → N ≡ relax_at g p y k M → J ≡ notes_at g p y b k M K
      → Noted g p u y b j L N H J
  noted_next k j w h l a c n e q =
      let m : NextArc g.tail g.arcs u (suc k) j = rw add-one at n in
      rw (e, q) (noted_more k j w.done h l (w.here l) a c (no_arc (suc k) j m))

  pub noted_last : (k z d : ℕ) {M K : List ℕ} → Noted g p u y b k L M H K → y ≡ z → b ≡ d → g.arcs ≤ k
      → Noted g p u z d g.arcs L M H K
  noted_last k z d h e q l = rw (← e, ← q) (record {
    size = h.size;
    less = h.less;
    least = λ a f m. h.least a f (omega arith);
    from = h.from;
  })
