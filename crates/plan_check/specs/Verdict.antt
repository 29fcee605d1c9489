-- The verdict by what judging the borders has found, and the finds that go with it: the ladder of the tests
-- 21 to 24 (`stands_verdict`), and document 02's bounds (`finds_told_lem`).
use mathlib.Core.{Path.◌≡◌, Path.refl, Path.sym, Path.◌∙◌, Path.ap, Logic.inl, Logic.inr, List.List}
use Rattle.std.specs.Prelude.{Bool, true, false, cond, ℕ, zero, suc, ◌+◌, ◌-◌, ◌≤◌, ◌<◌, ltb, Result, Ok, Err, ⊤}
use native.Mathlib.{Decide.dec_lt, Omega.arith}
use Rattle.std.proofs.Common.{lt-ltb, le-ltb, ltb-false}
use Rattle.theory_loops.specs.{Triple.triple_found, Total.total_most}
use Rattle.theory_paths.specs.Partition.{Partition}
use Rattle.plan.specs.{Border.border_count, Plan.Plan, PlanDecode.decode_plan}
use Rattle.plan_tests.specs.{Tests.fails, Meaning.Nowhere, Checkable.Checkable, Finds.allowed_most}
use Rattle.plan_judge.specs.declared.Found.{Found}
use Rattle.plan_check.specs.{Check.refused_at, Check.triple_rung, Exact.nowhere_rung, Finds.Finds}
use Rattle.file_refusals.specs.declared.Refusal.{Refusal}
use Rattle.network.specs.{Decode.decode}
use Rattle.plan_tests.specs.declared.tests.Layouts.{Layouts}
use Rattle.plan_judge.specs.{Standing.Stands, Tally.Tally, Tally.tally_enough}

-- THE LADDER of the tests from one number on, k of them
unfoldable pub triples_from : ℕ → ℕ → Partition → Plan → Result ⊤ Refusal
triples_from zero number G p = Ok tt
triples_from (suc k) number G p = triple_rung number G p (triples_from k (number + 1) G p)

-- tests that fail nowhere are passed
passed_tests : (G : Partition) (p : Plan) (d k number : ℕ)
    → ((m : ℕ) → number ≤ m → m < number + d → Nowhere G p m)
    → triples_from (d + k) number G p ≡ triples_from k (number + d) G p
unfolding triples_from
passed_tests G p zero k number h =
    let y : 0 + k ≡ k = omega arith in
    let z : number + 0 ≡ number = omega arith in
    ap (λ (m : ℕ). triples_from m number G p) y ∙ ap (λ (m : ℕ). triples_from k m G p) (sym z)
passed_tests G p (suc d) k number h =
    let y : suc d + k ≡ suc (d + k) = omega arith in
    let z : number + suc d ≡ number + 1 + d = omega arith in
    ap (λ (m : ℕ). triples_from m number G p) y
    ∙ nowhere_rung G p number _ (h number (omega arith) (omega arith))
    ∙ passed_tests G p d k (number + 1) (λ m lo hi. h m (omega arith) (omega arith))
    ∙ ap (λ (m : ℕ). triples_from k m G p) (sym z)

-- the verdict by what was found
unfoldable pub verdict_of : Found → Result ⊤ Refusal
verdict_of f =
    cond (ltb f.number 25) (refused_at f.number f.border f.node f.tick) (Ok tt)

pub verdict_refused : (f : Found) → f.number < 25
    → refused_at f.number f.border f.node f.tick ≡ verdict_of f
unfolding verdict_of
verdict_refused f h = rw (lt-ltb f.number 25 h)

pub verdict_accepted : (f : Found) → 25 ≤ f.number → Ok tt ≡ verdict_of f
unfolding verdict_of
verdict_accepted f h = rw (le-ltb f.number 25 h)

-- ALL BORDERS are judged
module _ {G : Partition} {p : Plan} {i : ℕ} {f : Found} (s : Stands G p i 0 f) (e : border_count G ≤ i) where
  nowhere : (number : ℕ) → 21 ≤ number → number < f.number → Nowhere G p number
  nowhere number lo hi j v x b l m = s.passed number j v x lo hi (inl (omega arith)) l m

  rest : (k : ℕ) → f.number + k ≡ 25 → triples_from 4 21 G p ≡ triples_from k f.number G p
  rest k h =
      let a : f.number - 21 + k ≡ 4 = omega (arith, s.low) in
      let b : 21 + (f.number - 21) ≡ f.number = omega (arith, s.low) in
      ap (λ (m : ℕ). triples_from m 21 G p) (sym a)
      ∙ passed_tests G p (f.number - 21) k 21 (λ m lo hi. nowhere m lo (omega (arith, s.low)))
      ∙ ap (λ (m : ℕ). triples_from k m G p) b

  accepted : 25 ≤ f.number → Ok tt ≡ triples_from 4 21 G p
  unfolding triples_from
  accepted h = sym (rest 0 (omega (arith, s.high)))

  refused : f.number < 25 → refused_at f.number f.border f.node f.tick ≡ triples_from 4 21 G p
  unfolding triples_from triple_rung
  refused h =
      let w = s.found h in
      triple_found (fails f.number G p) (border_count G) G.graph.nodes G.graph.period f.border
      f.node f.tick w.border w.node w.tick.within w.tick.at
      (λ j v x a l m. w.before j v x (inl a) l m)
      (λ v x a m. w.before f.border v x (inr (refl, a)) (omega (arith, w.node)) m) w.tick.before
      (refused_at f.number) (triples_from (24 - f.number) (f.number + 1) G p)
      ∙ sym (rest (suc (24 - f.number)) (omega arith))

  pub stands_verdict : {r : Result ⊤ Refusal} → r ≡ verdict_of f → r ≡ triples_from 4 21 G p
  stands_verdict q = q ∙ elim (dec_lt f.number 25) [
    | yes h ↦ sym (verdict_refused f h) ∙ refused h
    | no h ↦ sym (verdict_accepted f (omega arith)) ∙ accepted (omega arith)
  ]

-- and what the check tells of them
module _ {network plan : List ℕ} {l : Layouts} (w : Checkable network plan l) (f : Found) {finds : ℕ}
    (t : Tally (decode network) (decode_plan plan) l.plan.borders f.number finds) (low : 21 ≤ f.number)
    (high : f.number ≤ 25) where
  refused_late : (b : Bool) → ltb f.number 25 ≡ b → (r : Refusal)
      → cond b (refused_at f.number f.border f.node f.tick) (Ok tt) ≡ Err r → r.number ≤ 20
      → finds ≡ 0
  refused_late true e r q h =
      let z : f.number ≡ r.number = ap number_of q in
      absurd (omega arith)
    where
      number_of : Result ⊤ Refusal → ℕ
      number_of (Ok _) = 0
      number_of (Err r) = r.number
  refused_late false e r q h = let z : ◌≡◌ {A = ℕ} 0 1 = cc in absurd (omega arith)

  accepted_all : (b : Bool) → ltb f.number 25 ≡ b
      → cond b (refused_at f.number f.border f.node f.tick) (Ok tt) ≡ Ok tt → f.number ≡ 25
  accepted_all true e q = let z : ◌≡◌ {A = ℕ} 0 1 = cc in absurd (omega arith)
  accepted_all false e q = omega (arith, ltb-false f.number 25 e)

  pub finds_told_lem : {r : Result ⊤ Refusal} → r ≡ verdict_of f → Finds network plan r finds
  unfolding verdict_of
  finds_told_lem e = record {
    none = λ q g h. refused_late (ltb f.number 25) refl q (sym e ∙ g) h;
    each = t.each;
    sum = rw w.borders at t.sum;
    within = λ i h. t.within i (omega (arith, w.borders));
    enough = λ g.
        let z = accepted_all (ltb f.number 25) refl (sym e ∙ g) in
        rw w.borders at (tally_enough (decode network) (decode_plan plan) (rw z at t));
    small =
        omega (
          arith,
          t.sum,
          w.formed.small.borders_most,
          total_most t.each 3221356542 l.plan.borders
              (λ i h. omega (arith, t.within i h, allowed_most w h)),
        );
  }
