-- What a search stopped at its target shows: the labels before the target's, the target's own, and no other.
-- It is the same by any labels that are exact up to the target's.
use mathlib.Core.{Path.◌≡◌, Path.refl, Path.sym, Path.◌∙◌, List.List}
use Rattle.std.specs.Prelude.{Bool, ◌||◌, ℕ, ◌+◌, ◌≤◌, ◌<◌}
use Rattle.std.proofs.Math.Bool.{true, false, cond}
use native.Mathlib.{Nat.le_refl, Nat.le_of_lt, Omega.arith, Decide.dec_lt}
use lib.{ListN.length, ListN.get_or, ListN.set, Dec.eqb, Dec.ltb}
use Rattle.std.proofs.Common.{eqb-true, lt-ltb, le-ltb}
use Rattle.theory_loops.specs.Fill.{Filled, fill_up}
use Rattle.theory_paths.specs.{Graph.Graph, Graph.Permit, Labels.label}
use Rattle.theory_paths.proofs.Labels.{label_at}
use Rattle.theory_paths.specs.Earliest.{never, Exact}
use Rattle.theory_paths.proofs.Earliest.{exact_same, exact_equal}

-- v's label e where it is before b, or v is t; else never
abbrev pub shown_of : ℕ → ℕ → ℕ → ℕ → ℕ
shown_of e b v t = cond (ltb e b || eqb v t) e never

-- what is shown of v's label: b is the target's
unfoldable pub shown : List ℕ → ℕ → ℕ → ℕ
shown L t v = shown_of (label L v) (label L t) v t

pub shown_at : (L : List ℕ) (t v : ℕ) → t < length L → v < length L
    → shown_of (get_or L v 0) (get_or L t 0) v t ≡ shown L t v
unfolding shown
shown_at L t v l m = rw (label_at L v m, label_at L t l)

-- FOR THE PASS over the labels: one more is shown
pub trim_more : (L new : List ℕ) (t v b e : ℕ) → Filled 0 v (shown L t) L new → t < length L → v < length L
    → b ≡ get_or L t 0
    → e ≡ shown_of (get_or new v 0) b v t → Filled 0 (v + 1) (shown L t) L (set new v e)
trim_more L new t v b e f l m q z =
    fill_up (shown L t) L 0 v e new f (omega arith) m
    (z ∙ rw (q, f.after v (le_refl v)) (shown_at L t v l m))

-- with no way to t, every label is shown
pub shown_all : (L : List ℕ) (t : ℕ) → label L t ≡ never → ((v : ℕ) → label L v ≤ never) → (v : ℕ)
    → shown L t v ≡ label L v
unfolding shown
shown_all L t e c v = elim (dec_lt (label L v) never) [
  | yes l ↦ rw (lt-ltb (label L v) (label L t) (omega arith))
  | no l ↦ let q : label L v ≡ never = omega (arith, c v) in go (ltb (label L v) (label L t) || eqb v t) q
]
  where
    go : (b : Bool) → label L v ≡ never → cond b (label L v) never ≡ label L v
    go true q = refl
    go false q = sym q

module _ {g : Graph} {p : Permit} {s x : ℕ} (L M : List ℕ) (t : ℕ) (e : Exact g p s x (label L) (label L t))
    (f : Exact g p s x (label M) never)
    (c : (v : ℕ) → label L v ≤ never) (d : (v : ℕ) → label M v ≤ never) where
  pub target_same : label M t ≡ label L t
  target_same = elim (dec_lt (label L t) never) [
    | yes l ↦ exact_same e f t (le_refl _) l l
    | no l ↦ let q : label L t ≡ never = omega (arith, c t) in sym (exact_equal f (rw q at e) t (d t) (c t))
  ]

  pub shown_same : (v : ℕ) → shown L t v ≡ shown M t v
  unfolding shown
  shown_same v = go (dec_lt (label L v) (label L t)) (dec_lt (label M v) (label M t))
    where
      own : (b : Bool) → eqb v t ≡ b → cond b (label L v) never ≡ cond b (label M v) never
      own true q = rw (eqb-true v t q) (sym target_same)
      own false q = refl

      go : Dec (label L v < label L t) → Dec (label M v < label M t)
          → cond (ltb (label L v) (label L t) || eqb v t) (label L v) never ≡ cond
          (ltb (label M v) (label M t) || eqb v t) (label M v) never
      go (yes l) h =
          let q = exact_same e f v (le_of_lt l) (omega (arith, c t)) (omega (arith, c t)) in
          rw (q, target_same, lt-ltb (label L v) (label L t) l)
      go (no l) (yes m) =
          absurd (omega
          (arith, target_same, exact_same f e v (d v) (omega (arith, d t)) (omega (arith, target_same))))
      go (no l) (no m) =
          rw (le-ltb (label L v) (label L t) (omega arith), le-ltb (label M v) (label M t) (omega arith))
          (own (eqb v t) refl)
