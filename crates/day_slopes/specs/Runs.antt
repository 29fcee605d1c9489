-- A day as runs of equal value: run i holds the ticks from starts[i] up to starts[i + 1], where starts[n] is
-- the period.
use mathlib.Core.{Path.◌≡◌, Path.sym, Path.◌∙◌, List.List}
use Rattle.std.specs.Prelude.{ℕ, zero, suc, ◌+◌, ◌-◌, ◌≤◌, ◌<◌}
use native.Mathlib.{Numerals.add-one, Decide.ℕ_discrete, Decide.dec_lt, Omega.arith}
use lib.{ListN.length, ListN.get_or, ListN.set, Seq.get_or-set_same, Seq.get_or-set_other}

-- ticks that part a day into n runs
pub record Grid (starts : List ℕ) (n period : ℕ) : Type 0 where
  pub begun : get_or starts 0 0 ≡ 0
  pub ended : get_or starts n 0 ≡ period
  pub rise : (i : ℕ) → i < n → get_or starts i 0 < get_or starts (i + 1) 0

-- THE RECORD: f, at every tick below the period, by n runs
pub record Runs (starts values : List ℕ) (n period : ℕ) (f : ℕ → ℕ) : Type 0 where
  pub grid : Grid starts n period
  pub held : (i x : ℕ) → i < n → get_or starts i 0 ≤ x → x < get_or starts (i + 1) 0 → f x ≡ get_or values i 0

-- the same up to tick a, where the last run is still open: it will have the value q
pub record Pending (starts values : List ℕ) (n a q : ℕ) (f : ℕ → ℕ) : Type 0 where
  pub at : ℕ
  pub upto : at ≤ a
  pub runs : Runs starts values n at f
  pub same : (x : ℕ) → at ≤ x → x < a → f x ≡ q

-- n travels of at most a period
pub record Short (travels : List ℕ) (n period : ℕ) : Type 0 where
  pub most : (i : ℕ) → i < n → get_or travels i 0 ≤ period

-- each run has a tick, so there are no more of them than ticks
pub starts_few : (starts : List ℕ) (n period : ℕ) → Grid starts n period → (i : ℕ) → i ≤ n
    → i ≤ get_or starts i 0
starts_few starts n period g zero l = omega arith
starts_few starts n period g (suc i) l =
    let h : i ≤ get_or starts i 0 = starts_few starts n period g i (omega arith) in
    let m : get_or starts i 0 < get_or starts (i + 1) 0 = g.rise i (omega arith) in
    rw (← add-one i) (omega arith)

pub runs_few : {starts : List ℕ} {n period : ℕ} → Grid starts n period → n ≤ period
runs_few {starts} {n} {period} g = omega (arith, starts_few starts n period g n (omega arith), g.ended)

-- no run begins after the day
starts_from : (starts : List ℕ) (n period : ℕ) → Grid starts n period → (k i : ℕ) → i + k ≡ n
    → get_or starts i 0 ≤ period
starts_from starts n period g zero i e = let q : i ≡ n = omega arith in rw q (omega (arith, g.ended))
starts_from starts n period g (suc k) i e =
    omega (arith, starts_from starts n period g k (i + 1) (omega arith), g.rise i (omega arith))

pub starts_within : {starts : List ℕ} {n period : ℕ} → Grid starts n period → (i : ℕ) → i ≤ n
    → get_or starts i 0 ≤ period
starts_within {starts} {n} {period} g i l = starts_from starts n period g (n - i) i (omega arith)

-- the same values in another list
pub runs_copied : {starts values copy : List ℕ} {n period : ℕ} {f : ℕ → ℕ} → Runs starts values n period f
    → ((i : ℕ) → i < n → get_or copy i 0 ≡ get_or values i 0) → Runs starts copy n period f
runs_copied h e = record { grid = h.grid; held = λ i x l lo hi. h.held i x l lo hi ∙ sym (e i l) }

-- what holds of f at every tick holds of every run's value
pub runs_all : {starts values : List ℕ} {n period : ℕ} {f : ℕ → ℕ} (P : ℕ → Type 0)
    → Runs starts values n period f
    → ((x : ℕ) → x < period → P (f x)) → (i : ℕ) → i < n → P (get_or values i 0)
runs_all {starts} P h all i l =
    let m = h.grid.rise i l in
    rw (← h.held i (get_or starts i 0) l (omega arith) m)
    (all (get_or starts i 0) (omega (arith, starts_within h.grid (i + 1) (omega arith))))

-- FOR CODE that puts run after run
module _ (f : ℕ → ℕ) where
  pub runs_none : (starts values : List ℕ) → get_or starts 0 0 ≡ 0 → Runs starts values 0 0 f
  runs_none starts values e =
      record {
        grid =
            record { begun = e; ended = e; rise = λ i l. absurd (omega arith) };
        held = λ i x l. absurd (omega arith);
      }

  -- one run more, from tick x up to e, with value r
  module _ (s v : List ℕ) (n x e r : ℕ) (m : x < e) (in_s : n + 1 < length s) (in_v : n < length v) where
    put_before : (i : ℕ) → i ≤ n → get_or (set s (n + 1) e) i 0 ≡ get_or s i 0
    put_before i l = get_or-set_other s (n + 1) i e 0 (omega arith)

    put_at : get_or (set s (n + 1) e) (n + 1) 0 ≡ e
    put_at = get_or-set_same s (n + 1) e 0 in_s

    put_grid : Grid s n x → Grid (set s (n + 1) e) (n + 1) e
    put_grid g = record {
      begun = put_before 0 (omega arith) ∙ g.begun;
      ended = put_at;
      rise = λ i l. elim (ℕ_discrete i n) [
        | yes q ↦ rw q (rw (put_before n (omega arith), put_at) (omega (arith, g.ended)))
        | no q ↦ rw (put_before i (omega arith), put_before (i + 1) (omega arith)) (g.rise i (omega arith))
      ];
    }

    put_held : Runs s v n x f → ((y : ℕ) → x ≤ y → y < e → f y ≡ r)
        → (i y : ℕ) → i < n + 1 → get_or (set s (n + 1) e) i 0 ≤ y → y < get_or (set s (n + 1) e) (i + 1) 0
        → f y ≡ get_or (set v n r) i 0
    put_held p h i y l lo hi = elim (ℕ_discrete i n) [
      | yes q ↦
          let lo' = rw (q, put_before n (omega arith), p.grid.ended) at lo in
          let hi' = rw (q, put_at) at hi in
          h y lo' hi' ∙ sym (rw q (get_or-set_same v n r 0 in_v))
      | no q ↦
          let lo' = rw (put_before i (omega arith)) at lo in
          let hi' = rw (put_before (i + 1) (omega arith)) at hi in
          p.held i y (omega arith) lo' hi' ∙ sym (get_or-set_other v n i r 0 q)
    ]

    pub runs_put : Runs s v n x f → ((y : ℕ) → x ≤ y → y < e → f y ≡ r)
        → Runs (set s (n + 1) e) (set v n r) (n + 1) e f
    runs_put p h = record { grid = put_grid p.grid; held = put_held p h }

  -- the next run is open, and has no tick yet
  pub runs_open : {s v : List ℕ} {n x : ℕ} (q : ℕ) → Runs s v n x f → Pending s v n x q f
  runs_open {x =
      x} q p = record { at = x; upto = omega arith; runs = p; same = λ y l m. absurd (omega arith) }

  -- the open run goes on
  unfoldable pub runs_on : {s v : List ℕ} {n x q : ℕ} (e : ℕ) → Pending s v n x q f → x ≤ e
      → ((y : ℕ) → x ≤ y → y < e → f y ≡ q) → Pending s v n e q f
  runs_on {x = x} e p l h = record {
    at = p.at;
    upto = omega (arith, p.upto);
    runs = p.runs;
    same = λ y lo hi. elim (dec_lt y x) [ yes i ↦ p.same y lo i | no i ↦ h y (omega arith) hi ];
  }

  -- and ends
  pub runs_close : {s v : List ℕ} {n e q : ℕ} (p : Pending s v n e q f) → p.at < e → n + 1 < length s
      → n < length v → Runs (set s (n + 1) e) (set v n q) (n + 1) e f
  runs_close {s} {v} {n} {e} {q} p m in_s in_v = runs_put s v n p.at e q m in_s in_v p.runs p.same
