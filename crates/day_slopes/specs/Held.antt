-- The runs of one piece put after those before it: what the loops hold, the law of one run more, and the
-- pieces of one run. All is told for whatever day the runs before are of, so that code needs no such
-- argument.
use mathlib.Core.{Path.◌≡◌, Path.refl, Path.◌∙◌, List.List}
use Prim.Native.Nat.{ℕ, ◌+◌, ◌≤◌, ◌<◌}
use Rattle.std.proofs.Common.{arith, length-set}
use Rattle.std.specs.Prelude.{length, get_or, set}
use Rattle.theory_travel.specs.Pieces.{line_at}
use Rattle.travel_runs.specs.Runs.{value_first, value_flat}
use Rattle.day_slopes.specs.Runs.{Runs, Pending, runs_open, runs_on, runs_close, runs_few, starts_few}

-- After n runs, which may leave one of value q open at tick a, m are there up to tick b: those of g from a
-- on. Whatever f the n runs were of, the m are of it.
pub record Added (s₀ v₀ s v : List ℕ) (n m a q b : ℕ) (g : ℕ → ℕ) : Type 0 where
  pub runs : (f : ℕ → ℕ) → Pending s₀ v₀ n a q f → ((y : ℕ) → a ≤ y → y < b → f y ≡ g y) → Runs s v m b f
  pub long_s : length s ≡ length s₀
  pub long_v : length v ≡ length v₀
  pub few : m ≤ b

-- The same in a loop: the run from tick b on will have the value r.
pub record Held (s₀ v₀ s v : List ℕ) (n m a q b r : ℕ) (g : ℕ → ℕ) : Type 0 where
  pub runs : (f : ℕ → ℕ) → Pending s₀ v₀ n a q f → ((y : ℕ) → a ≤ y → y < b → f y ≡ g y) → Pending s v m b r f
  pub long_s : length s ≡ length s₀
  pub long_v : length v ≡ length v₀
  pub few : m ≤ b

-- after runs that end, one is open that has no tick yet
pub added_held : {s₀ v₀ s v : List ℕ} {n m a q b : ℕ} {g : ℕ → ℕ} (r : ℕ) → Added s₀ v₀ s v n m a q b g
    → Held s₀ v₀ s v n m a q b r g
added_held r h = record {
  runs = λ f p k. runs_open f r (h.runs f p k);
  long_s = h.long_s;
  long_v = h.long_v;
  few = h.few;
}

-- what the code rests on that puts a piece from tick a to tick b
pub record Room (s v : List ℕ) (n a b : ℕ) : Type 0 where
  pub apart : a < b
  pub few : n ≤ a
  pub last : b ≤ 65535
  pub in_s : b < length s
  pub in_v : b ≤ length v

module _ {s₀ v₀ : List ℕ} {n a b : ℕ} (room : Room s₀ v₀ n a b) where
  pub held_start : (q : ℕ) (g : ℕ → ℕ) → Held s₀ v₀ s₀ v₀ n n a q a q g
  held_start q g = record { runs = λ f p k. p; long_s = refl; long_v = refl; few = room.few }

  -- room for one run more
  pub held_room : {s v : List ℕ} {m q x r : ℕ} {g : ℕ → ℕ} → Held s₀ v₀ s v n m a q x r g → x < b
      → (m + 1 < length s) × (m < length v)
  held_room z l = (omega (arith, z.few, z.long_s, room.in_s), omega (arith, z.few, z.long_v, room.in_v))

  -- one run more
  module _ (s v s' v' : List ℕ) (m x q e r : ℕ) (g : ℕ → ℕ) where
    pub held_put : Held s₀ v₀ s v n m a q x r g → s' ≡ set s (m + 1) e → v' ≡ set v m r → a ≤ x → x < e
        → e ≤ b → ((y : ℕ) → x ≤ y → y < e → g y ≡ r)
        → Added s₀ v₀ s' v' n (m + 1) a q e g
    unfolding runs_on
    held_put z es ev l o u h = record {
      runs = λ f p k. rw (es, ev) (put f (z.runs f p (λ y lo hi. k y lo (omega arith))) k);
      long_s = rw es (length-set s (m + 1) e) ∙ z.long_s;
      long_v = rw ev (length-set v m r) ∙ z.long_v;
      few = omega (arith, z.few);
    }
      where
        put : (f : ℕ → ℕ) → Pending s v m x r f → ((y : ℕ) → a ≤ y → y < e → f y ≡ g y)
            → Runs (set s (m + 1) e) (set v m r) (m + 1) e f
        put f p k =
            runs_close f (runs_on f e p (omega arith) (λ y lo hi. k y (omega arith) hi ∙ h y lo hi))
            (omega (arith, p.upto)) (held_room z (omega arith)).0 (held_room z (omega arith)).1

    pub held_next : (t : ℕ) → Held s₀ v₀ s v n m a q x r g → s' ≡ set s (m + 1) e → v' ≡ set v m r → a ≤ x
        → x < e → e ≤ b → ((y : ℕ) → x ≤ y → y < e → g y ≡ r)
        → Held s₀ v₀ s' v' n (m + 1) a q e t g
    held_next t z es ev l o u h = added_held t (held_put z es ev l o u h)

  -- the open run goes on
  pub held_on : {s v : List ℕ} {m q x r : ℕ} {g : ℕ → ℕ} → Held s₀ v₀ s v n m a q x r g → a ≤ x → x ≤ b
      → ((y : ℕ) → x ≤ y → y < b → g y ≡ r) → Held s₀ v₀ s v n m a q b r g
  held_on z l o h = record {
    runs =
        λ f p k. runs_on f b (z.runs f p (λ y lo hi. k y lo (omega arith))) o
        (λ y lo hi. k y (omega arith) hi ∙ h y lo hi);
    long_s = z.long_s;
    long_v = z.long_v;
    few = omega (arith, z.few);
  }

  -- FLAT
  pub flat_held : (q w : ℕ) → q ≡ w → Held s₀ v₀ s₀ v₀ n n a q b w (line_at a q b w)
  flat_held q w z =
      rw (← z) (held_on (held_start q _) (omega arith) (omega (arith, room.apart))
      (λ y lo hi. value_flat y a q b lo hi))

  -- ONE TICK
  pub tick_held : (s v : List ℕ) (q w : ℕ) → b ≡ a + 1 → s ≡ set s₀ (n + 1) b → v ≡ set v₀ n q
      → Held s₀ v₀ s v n (n + 1) a q b w (line_at a q b w)
  tick_held s v q w z es ev =
      held_next s₀ v₀ s v n a q b q _ w (held_start q _) es ev (omega arith) room.apart (omega arith)
      (λ y lo hi. let e : y ≡ a = omega arith in rw e (value_first a q b w room.apart))

-- what the code rests on that ends a day at tick b, where the run after the n-th is open
pub record Ending (s v : List ℕ) (n b : ℕ) : Type 0 where
  pub few : n ≤ get_or s n 0
  pub begun : get_or s n 0 ≤ b
  pub last : b ≤ 65535
  pub in_s : b < length s
  pub in_v : b ≤ length v

-- THE RESULT: a day of n runs and an open one of value q, whatever it is of, is one of m runs
pub record Closed (s₀ v₀ s v : List ℕ) (n m b q : ℕ) : Type 0 where
  pub runs : (f : ℕ → ℕ) → Pending s₀ v₀ n b q f → Runs s v m b f
  pub long_s : length s ≡ length s₀
  pub long_v : length v ≡ length v₀

module _ (s v : List ℕ) (n b q : ℕ) (h : Ending s v n b) where
  pub closed_put : (s' v' : List ℕ) → get_or s n 0 < b → s' ≡ set s (n + 1) b → v' ≡ set v n q
      → Closed s v s' v' n (n + 1) b q
  closed_put s' v' l es ev = record {
    runs =
        λ f p. rw (es, ev) (runs_close f p (omega (arith, p.runs.grid.ended))
        (omega (arith, h.few, h.in_s))
        (omega (arith, h.few, h.in_v)));
    long_s = rw es (length-set s (n + 1) b);
    long_v = rw ev (length-set v n q);
  }

  pub closed_none : b ≤ get_or s n 0 → Closed s v s v n n b q
  closed_none l = record {
    runs = λ f p. let e : p.at ≡ b = omega (arith, p.runs.grid.ended, p.upto) in rw (← e) p.runs;
    long_s = refl;
    long_v = refl;
  }

-- n runs and an open one of value q up to tick a, of some day that goes on by g up to tick b
pub record Leading (s v : List ℕ) (n a q b : ℕ) (g : ℕ → ℕ) : Type 0 where
  pub day : ℕ → ℕ
  pub runs : Pending s v n a q day
  pub on : (y : ℕ) → a ≤ y → y < b → day y ≡ g y

-- FOR CODE that puts the day's last piece and ends the day
module _ {s₀ v₀ s v : List ℕ} {n m a q b r : ℕ} {g : ℕ → ℕ} (room : Room s₀ v₀ n a b)
    (lead : Leading s₀ v₀ n a q b g) (h : Held s₀ v₀ s v n m a q b r g) where
  pub finish_ending : Ending s v m b
  finish_ending =
      let p = h.runs lead.day lead.runs lead.on in
      let e = p.runs.grid.ended in
      record {
        few = starts_few s m p.at p.runs.grid m (omega arith);
        begun = omega (arith, e, p.upto);
        last = room.last;
        in_s = omega (arith, room.in_s, h.long_s);
        in_v = omega (arith, room.in_v, h.long_v);
      }

  pub finish_added : {s' v' : List ℕ} {k : ℕ} → Closed s v s' v' m k b r → Added s₀ v₀ s' v' n k a q b g
  finish_added c = record {
    runs = λ f p o. c.runs f (h.runs f p o);
    long_s = c.long_s ∙ h.long_s;
    long_v = c.long_v ∙ h.long_v;
    few = runs_few (c.runs lead.day (h.runs lead.day lead.runs lead.on)).grid;
  }
