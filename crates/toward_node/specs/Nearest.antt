-- The nearest dirty node: the laws of the two looks for it.
use mathlib.Core.{Path.◌≡◌, Path.sym, Path.◌∙◌, Logic.◌≢◌, List.List}
use Rattle.std.specs.Prelude.{ℕ, ◌+◌, ◌≤◌, ◌<◌, max, length, get_or, take, Option, None, Some}
use Rattle.std.specs.{Option.MatchOption, Option.unwrap_or, List.AllWithin, List.HoldsAt}
use Rattle.std.proofs.lemmas.List.{length-take-le, get_or-take}
use native.Mathlib.{Omega.arith, Decide.ℕ_discrete, Decide.dec_lt}
use Rattle.toward_node.specs.Turn.{Found}

-- FOR THE LOOK for the nearest: of the nodes below v, none has more than `most`, and one has it
pub record Most (v most : ℕ) (D : List ℕ) : Type 0 where
  pub all : (u : ℕ) → u < v → get_or D u 0 ≤ most
  pub at : ℕ
  pub met : 0 < most → (at < v) × (get_or D at 0 ≡ most)

module _ (D : List ℕ) where
  pub most_none : Most 0 0 D
  most_none = record { all = λ u l. absurd (omega arith); at = 0; met = λ l. absurd (omega arith) }

  pub most_more : (v most more : ℕ) → Most v most D → more ≡ max most (get_or D v 0) → Most (v + 1) more D
  most_more v most more w q = elim (dec_lt most (get_or D v 0)) [
    | yes h ↦ record { all = all; at = v; met = λ _. (omega arith, omega arith) }
    | no h ↦ record {
      all = all;
      at = w.at;
      met = λ l. let o = w.met (omega arith) in (omega (arith, o.0), omega (arith, o.1));
    }
  ]
    where
      all : (u : ℕ) → u < v + 1 → get_or D u 0 ≤ more
      all u l =
          elim (ℕ_discrete u v)
          [ yes i ↦ rw i (omega arith) | no i ↦ omega (arith, w.all u (omega arith)) ]

  pub most_end : (v most n : ℕ) → Most v most D → v ≤ n → n ≤ v → Most n most D
  most_end v most n w l m = let e : v ≡ n = omega arith in rw e at w

  -- FOR THE LOOK for the first that has it: there is one
  pub first_met : (nodes most : ℕ) (r : Option ℕ) (k : ℕ) → nodes ≤ length D → Most nodes most D → most ≢ 0
      → MatchOption r (AllWithin (λ x. x ≢ most) (take nodes D) 0 (length (take nodes D)))
      (λ i. (i < length (take nodes D)) × HoldsAt (λ x. x ≡ most) (take nodes D) i
      × AllWithin (λ x. x ≢ most) (take nodes D) 0 i)
      → k ≡ unwrap_or r nodes → (k < nodes) × (get_or D k 0 ≡ most)
  first_met nodes most None k l w ne f e =
      let o = w.met (omega arith) in
      let long = length-take-le nodes D l in
      absurd (f w.at 0 (omega arith) (omega (arith, o.0)) (get_or-take nodes D w.at 0 o.0 ∙ o.1))
  first_met nodes most (Some i) k l w ne f e =
      let long = length-take-le nodes D l in
      let within : i < nodes = omega (arith, f.0) in
      rw e (within, sym (get_or-take nodes D i 0 within) ∙ f.1 0)

  module _ (nodes bar most : ℕ) where
    pub found_most : (v : ℕ) → v < nodes → get_or D v 0 ≡ most → bar < most → Found nodes bar D v
    found_most v l q m = record { dirty = λ _ e. omega arith; none = λ n. absurd (omega arith) }

    pub found_none : Most nodes most D → most ≤ bar → Found nodes bar D nodes
    found_none w l = record { dirty = λ m. absurd (omega arith); none = λ _ u m. omega (arith, w.all u m) }
