-- Least travels to a node b, worked out backwards from b by whole rows: an arc, lowered at all ticks at once,
-- lowers its tail's numbers to what it gives. A node is dirty while its numbers have fallen and the arcs into
-- it have not been lowered since. Arcs that give nothing below a bar may be left out. Where no dirty node has
-- a number below the bar, the numbers up to it are least (`queue_least`), whatever the order in which nodes
-- were taken.
use mathlib.Core.{Path.◌≡◌, Path.sym, Path.◌∙◌, Logic.◌≢◌, List.List}
use Rattle.std.specs.Prelude.{ℕ, ◌+◌, ◌%◌, ◌≤◌, ◌<◌}
use native.Mathlib.{Nat.le_trans, Nat.mod-lt, Omega.arith, Decide.ℕ_discrete, Decide.dec_lt, Decide.dec_le}
use lib.{ListN.length, ListN.get_or, ListN.set, Seq.get_or-set_same, Seq.get_or-set_other}
use Rattle.theory_paths.specs.{Graph.Graph, Graph.Lawful, Graph.all, Graph.Arrival, Earliest.never}
use Rattle.theory_paths.specs.Least.{Travels, IsLeast}
use Rattle.theory_paths.specs.Settled.{gives_ticks, Sound}
use Rattle.theory_paths.proofs.Settled.{settled_least, arc_path, first_sound}
use Rattle.theory_paths.specs.Queue.{Lowering, Queue}

module _ {g : Graph} (ok : Lawful g) {a : ℕ} {T U : Travels} (r : Lowering g a T U) (l : a < g.arcs) where
  -- no number rises
  lowering_lower : (u x : ℕ) → u < g.nodes → x < g.period → U u x ≤ T u x
  lowering_lower u x n h = elim (ℕ_discrete u (g.tail a)) [
    | yes e ↦ rw e (omega (arith, r.at x h))
    | no e ↦ omega (arith, r.other u x n h e)
  ]

  -- each number that falls is a path's, that of the arc and on from its head
  lowering_travel : {b : ℕ} (x : ℕ) → x < g.period → Sound g b T → U (g.tail a) x < never
      → Arrival g all (g.tail a) x b (x + U (g.tail a) x)
  lowering_travel x h s k = elim (dec_le (T (g.tail a) x) (gives_ticks g T a x)) [
    | yes e ↦
        let z : U (g.tail a) x ≡ T (g.tail a) x = omega (arith, r.at x h) in
        rw z (s.travel (g.tail a) x (ok.tails a l) h (omega arith))
    | no e ↦
        let z : U (g.tail a) x ≡ gives_ticks g T a x = omega (arith, r.at x h) in
        rw z (arc_path ok s a x l h (omega arith))
  ]

  pub lowering_sound : {b : ℕ} → Sound g b T → Sound g b U
  lowering_sound {b} s = record {
    capped = λ u x n h. le_trans (lowering_lower u x n h) (s.capped u x n h);
    travel = λ u x n h k. go u x n h k (ℕ_discrete u (g.tail a));
  }
    where
      go : (u x : ℕ) → u < g.nodes → x < g.period → U u x < never → Dec (u ≡ g.tail a)
          → Arrival g all u x b (x + U u x)
      go u x n h k (yes e) = rw e (lowering_travel x h s (rw e at k))
      go u x n h k (no e) = let q = r.other u x n h e in rw q (s.travel u x n h (omega arith))

  -- an arc whose head's numbers have stayed gives what it gave
  lowering_gives : (c x : ℕ) → c < g.arcs → g.head c ≢ g.tail a → gives_ticks g U c x ≡ gives_ticks g T c x
  unfolding gives_ticks
  lowering_gives c x m ne =
      rw (r.other (g.head c) ((x + g.travel c x) % g.period) (ok.heads c m)
      (mod-lt (x + g.travel c x) ok.positive) ne)

  -- arc a, the next into v: its tail is dirty now
  pub queue_lower : {b bar v : ℕ} {D : List ℕ} (d : ℕ) → 0 < d → Queue g b bar v a T D → g.tail a < length D
      → Queue g b bar v (a + 1) U (set D (g.tail a) d)
  queue_lower {b} {bar} {v} {D} d some q long = record {
    node = q.node;
    sound = lowering_sound q.sound;
    home = λ x h. elim (ℕ_discrete b (g.tail a)) [
      | yes e ↦ let z : T (g.tail a) x ≡ 0 = rw (← e) (q.home x h) in rw e (omega (arith, r.at x h))
      | no e ↦ r.other b x q.node h e ∙ q.home x h
    ];
    settled = λ c x m h z k j. go c x m h z k j (ℕ_discrete (g.head c) (g.tail a)) (ℕ_discrete c a);
  }
    where
      go : (c x : ℕ) → c < g.arcs → x < g.period → get_or (set D (g.tail a) d) (g.head c) 0 ≡ 0
          → (g.head c ≡ v → c < a + 1) → gives_ticks g U c x < bar
          → Dec (g.head c ≡ g.tail a) → Dec (c ≡ a) → U (g.tail c) x ≤ gives_ticks g U c x
      go c x m h z k j (yes e) _ = absurd (omega (arith, get_or-set_same D (g.tail a) d 0 long, rw e at z))
      go c x m h z k j (no e) (yes f) = rw (lowering_gives c x m e, f) (omega (arith, r.at x h))
      go c x m h z k j (no e) (no f) =
          let o : get_or D (g.head c) 0 ≡ 0 = sym (get_or-set_other D (g.tail a) (g.head c) d 0 e) ∙ z in
          let gives = lowering_gives c x m e in
          let y = q.settled c x m h o (λ w. omega (arith, k w, f)) (omega arith) in
          omega (arith, lowering_lower (g.tail c) x (ok.tails c m) h)

module _ {g : Graph} {b bar : ℕ} {T : Travels} {D : List ℕ} where
  -- node v is taken: it is clean, and of the arcs into it none has been lowered
  pub queue_begin : {u i : ℕ} → Queue g b bar u i T D → g.arcs ≤ i → (v : ℕ)
      → Queue g b bar v 0 T (set D v 0)
  queue_begin q l v = record {
    node = q.node;
    sound = q.sound;
    home = q.home;
    settled = λ a x m h d k j. elim (ℕ_discrete (g.head a) v) [
      | yes e ↦ absurd (omega (arith, k e))
      | no e ↦ q.settled a x m h (sym (get_or-set_other D v (g.head a) 0 0 e) ∙ d) (λ _. omega arith) j
    ];
  }

  -- on to the next arc into v
  pub queue_skip : {v i j : ℕ} → Queue g b bar v i T D
      → ((a : ℕ) → i ≤ a → a < j → a < g.arcs → g.head a ≢ v) → Queue g b bar v j T D
  queue_skip {v} {i} q none = record {
    node = q.node;
    sound = q.sound;
    home = q.home;
    settled =
        λ a x m h d k j.
        q.settled a x m h d
        (λ e. elim (dec_lt a i) [ yes o ↦ o | no o ↦ absurd (none a (omega arith) (k e) m e) ]) j;
  }

  -- arc i gives no less, or nothing below the bar
  pub queue_quiet : {v i : ℕ} → Queue g b bar v i T D
      → ((x : ℕ) → x < g.period → gives_ticks g T i x < bar → T (g.tail i) x ≤ gives_ticks g T i x)
      → Queue g b bar v (i + 1) T D
  queue_quiet {v} {i} q no_less = record {
    node = q.node;
    sound = q.sound;
    home = q.home;
    settled =
        λ a x m h d k j.
        elim (ℕ_discrete a i)
        [ yes e ↦ rw e (no_less x h (rw e at j)) | no e ↦ q.settled a x m h d (λ w. omega (arith, k w)) j ];
  }

  -- a lower bar
  pub queue_bar : {v i less : ℕ} → less ≤ bar → Queue g b bar v i T D → Queue g b less v i T D
  queue_bar l q = record {
    node = q.node;
    sound = q.sound;
    home = q.home;
    settled = λ a x m h d k j. q.settled a x m h d k (omega arith);
  }

  -- no dirty node has a number below the bar
  pub queue_least : {v i : ℕ} → Lawful g → Queue g b bar v i T D → g.arcs ≤ i
      → ((u x : ℕ) → u < g.nodes → x < g.period → get_or D u 0 ≢ 0 → bar ≤ T u x)
      → (u x : ℕ) → u < g.nodes → x < g.period → T u x ≤ bar → IsLeast g b u x (T u x)
  unfolding gives_ticks
  queue_least ok q l far =
      settled_least ok q.sound (record {
        home = q.home;
        no_less = λ a x m h j. elim (ℕ_discrete (get_or D (g.head a) 0) 0) [
          | yes e ↦ q.settled a x m h e (λ _. omega arith) j
          | no e ↦
              let y = (x + g.travel a x) % g.period in
              let z = far (g.head a) y (ok.heads a m) (mod-lt (x + g.travel a x) ok.positive) e in
              absurd (omega arith)
        ];
      })

  -- the first numbers, where b alone is dirty
  pub queue_first : {v i : ℕ} → Lawful g → b < g.nodes → ((x : ℕ) → x < g.period → T b x ≡ 0)
      → ((u x : ℕ) → u < g.nodes → x < g.period → u ≢ b → T u x ≡ never) → get_or D b 0 ≢ 0
      → Queue g b bar v i T D
  unfolding gives_ticks
  queue_first ok n home away e =
      let s = first_sound home away in
      record {
        node = n;
        sound = s;
        home = home;
        settled = λ a x m h d k _.
            let y = (x + g.travel a x) % g.period in
            let ne : g.head a ≢ b = λ q. e (rw q at d) in
            let z = away (g.head a) y (ok.heads a m) (mod-lt (x + g.travel a x) ok.positive) ne in
            omega (arith, s.capped (g.tail a) x (ok.tails a m) h);
      }
