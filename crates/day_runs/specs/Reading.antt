-- Points read one after the other: what a reader has before it, told by what it had before it at first.
use Rattle.std.specs.Prelude.{◌≡◌, List, ℕ, ◌+◌, ◌-◌, ◌<◌, get_or}
use Rattle.std.proofs.Common.{◌∙◌, ap, arith}
use Rattle.theory_travel.specs.Table.{entry_at}

-- of n points with ticks t and values v, k are passed: n' are left, with ticks t' and values v'
pub record Passed (k : ℕ) (t v : ℕ → ℕ) (n : ℕ) (t' v' : ℕ → ℕ) (n' : ℕ) : Type 0 where
  pub tick : (i : ℕ) → t' i ≡ t (k + i)
  pub value : (i : ℕ) → v' i ≡ v (k + i)
  pub left : k + n' ≡ n

module _ {t v : ℕ → ℕ} {n : ℕ} where
  pub passed_none : Passed 0 t v n t v n
  passed_none = record {
    tick = λ i. ap t (omega arith);
    value = λ i. ap v (omega arith);
    left = omega arith;
  }

  module _ {k : ℕ} {t' v' : ℕ → ℕ} {n' : ℕ} (p : Passed k t v n t' v' n') where
    pub passed_next : {t'' v'' : ℕ → ℕ} {n'' : ℕ} → Passed 1 t' v' n' t'' v'' n''
        → Passed (k + 1) t v n t'' v'' n''
    passed_next q = record {
      tick = λ i. q.tick i ∙ p.tick (1 + i) ∙ ap t (omega arith);
      value = λ i. q.value i ∙ p.value (1 + i) ∙ ap v (omega arith);
      left = omega (arith, p.left, q.left);
    }

    -- what is read where the reader stands is the k-th
    pub tick_read : {r : ℕ} → r ≡ t' 0 → r ≡ t k
    tick_read e = e ∙ p.tick 0 ∙ ap t (omega arith)

    pub value_read : {r : ℕ} → r ≡ v' 0 → r ≡ v k
    value_read e = e ∙ p.value 0 ∙ ap v (omega arith)

-- a reader of points that stand in lists, n of them, goes on from point q
pub passed_entries : (ticks values : List ℕ) (n q : ℕ) → 1 < n - q
    → Passed 1 (entry_at ticks q) (entry_at values q) (n - q)
    (entry_at ticks (q + 1)) (entry_at values (q + 1)) (n - (q + 1))
unfolding entry_at
passed_entries ticks values n q h = record {
  tick = λ i. ap (λ (k : ℕ). get_or ticks k 0) (omega arith);
  value = λ i. ap (λ (k : ℕ). get_or values k 0) (omega arith);
  left = omega arith;
}
