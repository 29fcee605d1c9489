-- What a merge leaves in the bytes of the ticks: bit 1 where the arc gives less than the node's own profile
-- says, and the bits of `same` where it gives just that. Bits that stay the same from one span to the next
-- wait, and are painted together.
use mathlib.Core.{Path.◌≡◌, Path.refl, Path.sym, Path.◌∙◌, Logic.◌⊎◌, Logic.inl, Logic.inr, Bool.cond}
use Rattle.std.specs.Prelude.{List, ℕ, ◌+◌, ◌-◌, ◌%◌, ◌≤◌, ◌<◌}
use native.Mathlib.{Decide.dec_lt, Omega.arith}
use lib.{ListN.length, ListN.get_or, Dec.ltb, Dec.eqb, Bits.bit_or, Bits.or_zero_r}
use Rattle.std.proofs.Common.{lt-ltb, le-ltb, eq-eqb, ne_eqb}
use Rattle.theory_loops.specs.Fill.{Filled, fill_none}
use Rattle.day_slopes.specs.Runs.{Runs}
use Rattle.day_merge.specs.declared.Place.{Place}
use Rattle.day_walk.specs.Walk.{At, Span, at_end, later}

-- what an arc with travel w gives at tick x, where h is its head's profile
unfoldable pub giving : (ℕ → ℕ) → (ℕ → ℕ) → ℕ → ℕ → ℕ
giving w h period x = h ((x + w x) % period) + w x

-- the bits of a tick at which an arc gives g and the node's own value is o
unfoldable pub bits : ℕ → ℕ → ℕ → ℕ
bits same g o = cond (ltb g o) 1 (cond (eqb g o) same 0)

-- and at every tick
unfoldable pub bits_at : ℕ → (ℕ → ℕ) → (ℕ → ℕ) → (ℕ → ℕ) → ℕ → ℕ → ℕ
bits_at same own w h period x = bits same (giving w h period x) (own x)

-- the same number at every tick
unfoldable pub always : ℕ → ℕ → ℕ
always m x = m

-- the bytes, where the bits of m are set
unfoldable pub painted : (ℕ → ℕ) → List ℕ → ℕ → ℕ
painted m old x = bit_or (get_or old x 0) (m x)

-- THE RESULT, of whatever profiles and travel the lists are the runs
pub record Told (so vo sa va sh vh : List ℕ) (no' na nh period same : ℕ) (old new : List ℕ) : Type 0 where
  pub is : (own w h : ℕ → ℕ) → Runs so vo no' period own → Runs sa va na period w → Runs sh vh nh period h
      → Filled 0 period (painted (bits_at same own w h period) old) old new

-- In the loop at tick t: all is painted up to tick `since`, and from there on the bits are `held`.
pub record Walked (so vo sa va sh vh : List ℕ) (no' na nh period same since t held : ℕ) (old new : List ℕ)
    : Type 0 where
  pub order : since ≤ t
  pub long : length new ≡ length old
  pub done : (own w h : ℕ → ℕ) → Runs so vo no' period own → Runs sa va na period w → Runs sh vh nh period h
      → Filled 0 since (painted (bits_at same own w h period) old) old new
  pub waits : (own w h : ℕ → ℕ) → Runs so vo no' period own → Runs sa va na period w → Runs sh vh nh period h
      → (x : ℕ) → since ≤ x → x < t → bits_at same own w h period x ≡ held

-- the bits held are painted up to r: to tick t, or none, where they go on
pub record Turned (since t held more r : ℕ) (old new : List ℕ) : Type 0 where
  pub painting : Filled since r (painted (always held) old) old new
  pub where_to : (r ≡ t) ⊎ ((r ≡ since) × (more ≡ held))

-- A walk goes on: whatever was there before, what is told up to tick t₀ is told up to tick t.
pub record Onward (so vo sa va sh vh : List ℕ) (no' na nh period same since₀ t₀ held₀ since t held : ℕ)
    (old new : List ℕ) : Type 0 where
  pub walked : (base : List ℕ) → Walked so vo sa va sh vh no' na nh period same since₀ t₀ held₀ base old
      → Walked so vo sa va sh vh no' na nh period same since t held base new

-- from place p to place r, within run k of the arc
pub record Swept (so vo sa va sh vh : List ℕ) (no' na nh period same k : ℕ) (p r : Place) (old new : List ℕ)
    : Type 0 where
  pub ahead : p.t < r.t
  pub arc : r.t ≤ get_or sa (k + 1) 0
  pub own : r.t < period → At so no' r.i r.t
  pub head : r.j ≤ nh
  pub onward : Onward so vo sa va sh vh no' na nh period same p.since p.t p.held r.since r.t
      r.held old new

-- since when the bits are the same
pub turned_order : {since t held more r : ℕ} {old new : List ℕ} → Turned since t held more r old new
    → since ≤ t → r ≤ t
turned_order {since} {t} {held} {more} {r} f o = go f.where_to
  where
    go : (r ≡ t) ⊎ ((r ≡ since) × (more ≡ held)) → r ≤ t
    go (inl z) = omega arith
    go (inr (z, y)) = omega arith

-- FOR THE CODE that works out bits and paints
pub bits_less : (same g o : ℕ) → g < o → 1 ≡ bits same g o
unfolding bits
bits_less same g o h = rw (lt-ltb g o h)

pub bits_same : (same g o : ℕ) → g ≡ o → same ≡ bits same g o
unfolding bits
bits_same same g o h = rw (le-ltb g o (omega arith), eq-eqb g o h)

pub bits_none : (same g o : ℕ) → o ≤ g → (g ≡ o → ⊥) → 0 ≡ bits same g o
unfolding bits
bits_none same g o l h = rw (le-ltb g o l, ne_eqb g o h)

pub painted_none : (old : List ℕ) (a b more : ℕ) → more ≡ 0 → Filled a b (painted (always more) old) old old
unfolding painted always
painted_none old a b more e = record {
  long = refl;
  written = λ x lo hi. rw e (sym (or_zero_r (get_or old x 0)));
  before = λ x lo. refl;
  after = λ x lo. refl;
}

pub turned_not : (old : List ℕ) (since t held more : ℕ) → more ≡ held → Turned since t held more since old old
turned_not old since t held more e =
    record { painting = fill_none _ old since; where_to = inr (refl, e) }

pub turned_done : (old new : List ℕ) (since t held more : ℕ)
    → Filled since t (painted (always held) old) old new
    → Turned since t held more t old new
turned_done old new since t held more f = record { painting = f; where_to = inl refl }

-- parts painted one after the other
painted_more : (m : ℕ → ℕ) (old mid new : List ℕ) (a b held : ℕ) → Filled 0 a (painted m old) old mid
    → Filled a b (painted (always held) mid) mid new → a ≤ b → ((x : ℕ) → a ≤ x → x < b → m x ≡ held)
    → Filled 0 b (painted m old) old new
unfolding painted always
painted_more m old mid new a b held p f l e = record {
  long = f.long ∙ p.long;
  written = λ x lo hi. elim (dec_lt x a) [
    | yes q ↦ f.before x q ∙ p.written x lo q
    | no q ↦ f.written x (omega arith) hi ∙ rw (e x (omega arith) hi, p.after x (omega arith))
  ];
  before = λ x lo. absurd (omega arith);
  after = λ x lo. f.after x lo ∙ p.after x (omega arith);
}

-- THREE LISTS of runs, and where the walk stands in them at tick t; the arc ends at tick e
module _ {so vo sa va sh vh : List ℕ} {no' na nh period : ℕ} {own w h : ℕ → ℕ} (O : Runs so vo no' period own)
    (A : Runs sa va na period w) (H : Runs sh vh nh period h) (i k j t e stop to : ℕ) (pi : At so no' i t)
    (pk : At sa na k t) (pj : At sh nh j e) (is : e ≡ (t + get_or va k 0) % period)
    (span : Span so i sh j t e stop to period) (short : stop ≤ get_or sa (k + 1) 0) where
  own_there : (x : ℕ) → t ≤ x → x < to → own x ≡ get_or vo i 0
  own_there x lo hi = O.held i x pi.below (omega (arith, pi.from)) (omega (arith, span.own))

  arc_there : (x : ℕ) → t ≤ x → x < to → w x ≡ get_or va k 0
  arc_there x lo hi = A.held k x pk.below (omega (arith, pk.from)) (omega (arith, span.arc))

  giving_there : (x : ℕ) → t ≤ x → x < to → giving w h period x ≡ get_or vh j 0 + get_or va k 0
  unfolding giving
  giving_there x lo hi =
      let m = at_end H.grid j e pj in
      let u : e + (x - t) < period = omega (arith, pj.to, span.head) in
      let z = later t (get_or va k 0) period e x (omega arith) is lo u in
      let y =
      H.held j (e + (x - t)) pj.below (omega (arith, pj.from)) (omega (arith, pj.to, span.head)) in
      rw (arc_there x lo hi, z, y)

  -- all three are constant there, and so are the bits
  pub bits_there : (same more : ℕ) → more ≡ bits same (get_or vh j 0 + get_or va k 0) (get_or vo i 0)
      → (x : ℕ) → t ≤ x → x < to → bits_at same own w h period x ≡ more
  unfolding bits_at
  bits_there same more r x lo hi = rw (giving_there x lo hi, own_there x lo hi, ← r)

-- FOR THE LOOP
module _ (so vo sa va sh vh : List ℕ) (no' na nh period same : ℕ) (old : List ℕ) where
  pub walked_none : (held : ℕ) → Walked so vo sa va sh vh no' na nh period same 0 0 held old old
  walked_none held = record {
    order = omega arith;
    long = refl;
    done = λ own w h O A H. fill_none _ old 0;
    waits = λ own w h O A H x lo hi. absurd (omega arith);
  }

  pub walked_more : (mid new : List ℕ) (i k j t e stop to since held more r : ℕ)
      → Walked so vo sa va sh vh no' na nh period same since t held old mid → At so no' i t → At sa na k t
      → At sh nh j e → e ≡ (t + get_or va k 0) % period → Span so i sh j t e stop to period
      → stop ≤ get_or sa (k + 1) 0
      → more ≡ bits same (get_or vh j 0 + get_or va k 0) (get_or vo i 0) → Turned since t held more r mid new
      → Walked so vo sa va sh vh no' na nh period same r to more old new
  walked_more mid new i k j t e stop to since held more r p pi pk pj is span short em f = go f.where_to
    where
      there : (own w h : ℕ → ℕ) → Runs so vo no' period own → Runs sa va na period w → Runs sh vh nh period h
          → (x : ℕ) → t ≤ x → x < to → bits_at same own w h period x ≡ more
      there own w h O A H x lo hi =
          bits_there O A H i k j t e stop to pi pk pj is span short same more em x lo hi

      -- up to r the bits are those held
      so_far : since ≤ r → r ≤ t → (own w h : ℕ → ℕ) → Runs so vo no' period own → Runs sa va na period w
          → Runs sh vh nh period h → Filled 0 r (painted (bits_at same own w h period) old) old new
      so_far u v own w h O A H =
          painted_more _ old mid new since r held (p.done own w h O A H) f.painting u
          (λ x lo hi. p.waits own w h O A H x lo (omega arith))

      go : (r ≡ t) ⊎ ((r ≡ since) × (more ≡ held))
          → Walked so vo sa va sh vh no' na nh period same r to more old new
      go (inl z) = record {
        order = omega (arith, span.some);
        long = f.painting.long ∙ p.long;
        done = so_far (omega (arith, p.order)) (omega arith);
        waits = λ own w h O A H x lo hi. there own w h O A H x (omega arith) hi;
      }
      go (inr (z, y)) = record {
        order = omega (arith, p.order, span.some);
        long = f.painting.long ∙ p.long;
        done = so_far (omega arith) (omega (arith, p.order));
        waits = λ own w h O A H x lo hi. elim (dec_lt x t) [
          | yes q ↦ p.waits own w h O A H x (omega arith) q ∙ sym y
          | no q ↦ there own w h O A H x (omega arith) hi
        ];
      }

  pub walked_end : (mid new : List ℕ) (since t held : ℕ)
      → Walked so vo sa va sh vh no' na nh period same since t held old mid → t ≤ period → period ≤ t
      → Filled since period (painted (always held) mid) mid new
      → Told so vo sa va sh vh no' na nh period same old new
  walked_end mid new since t held p l m f = record {
    is = λ own w h O A H.
        painted_more _ old mid new since period held (p.done own w h O A H) f (omega (arith, p.order))
        (λ x lo hi. p.waits own w h O A H x lo (omega arith));
  }

-- FOR THE LOOP over a run of the arc
module _ (so vo sa va sh vh : List ℕ) (no' na nh period same since₀ t₀ held₀ : ℕ) (old : List ℕ) where
  pub onward_none : Onward so vo sa va sh vh no' na nh period same since₀ t₀ held₀ since₀ t₀ held₀ old old
  onward_none = record { walked = λ base p. p }

  pub onward_more : (mid new : List ℕ) (i k j t e stop to since held more r : ℕ)
      → Onward so vo sa va sh vh no' na nh period same since₀ t₀ held₀ since t held old mid → At so no' i t
      → At sa na k t → At sh nh j e → e ≡ (t + get_or va k 0) % period → Span so i sh j t e stop to period
      → stop ≤ get_or sa (k + 1) 0 → more ≡ bits same (get_or vh j 0 + get_or va k 0) (get_or vo i 0)
      → Turned since t held more r mid new
      → Onward so vo sa va sh vh no' na nh period same since₀ t₀ held₀ r to more old new
  onward_more mid new i k j t e stop to since held more r p pi pk pj is span short em f = record {
    walked = λ base q.
        walked_more so vo sa va sh vh no' na nh period same base mid new i k j t e stop to since held more r
        (p.walked base q) pi pk pj is span short em f;
  }
