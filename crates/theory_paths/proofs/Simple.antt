-- The pigeonhole: distinct numbers below n are at most n. So a path of n arcs or more visits a node twice,
-- and every path has one of fewer than n arcs, with its cycles cut out, that ends no later.
use mathlib.Core.{Path.◌≡◌, Path.refl, Path.◌∙◌, Path.ap, Logic.◌⊎◌, Logic.inl, Logic.inr}
use Rattle.std.specs.Prelude.{List, [], ◌∷◌, ℕ, zero, suc, ◌+◌, ◌-◌, ◌*◌, ◌≤◌, ◌<◌, length}
use native.Mathlib.{Nat.le_refl, Nat.le_trans, Nat.mul-le-mul_right, Omega.arith, Decide.ℕ_discrete}
use Rattle.theory_paths.specs.Graph.{Graph, Lawful, Bounded, ends, Permit, IsPath, stop, step, driven}
use Rattle.theory_paths.proofs.Drive.{arc_takes, later, path_bound}
use Rattle.theory_paths.specs.Simple.{◌∉◌}
use Rattle.theory_paths.specs.Simple.{Distinct, Below, visits, Short}

lower : (n : ℕ) (l : List ℕ) → Below (suc n) l → n ∉ l → Below n l
lower n [] b h = tt
lower n (u ∷ l) b h = (omega arith, lower n l b.1 h.1)

-- without the number n, one less
record Without (n : ℕ) (l : List ℕ) : Type 0 where
  rest : List ℕ
  distinct : Distinct rest
  below : Below n rest
  one : length l ≤ suc (length rest)
  fewer : (v : ℕ) → v ∉ l → v ∉ rest

without : (n : ℕ) (l : List ℕ) → Distinct l → Below (suc n) l → Without n l
without n [] d b = record { rest = []; distinct = tt; below = tt; one = omega arith; fewer = λ v h. tt }
without n (u ∷ l) d b = go (without n l d.1 b.1) (ℕ_discrete u n)
  where
    go : Without n l → Dec (u ≡ n) → Without n (u ∷ l)
    go r (yes e) =
        record {
          rest = l;
          distinct = d.1;
          below = lower n l b.1 (rw e at d.0);
          one = le_refl _;
          fewer = λ v h. h.1;
        }
    go r (no ne) = record {
      rest = u ∷ r.rest;
      distinct = (r.fewer u d.0, r.distinct);
      below = (omega arith, r.below);
      one = omega (arith, r.one);
      fewer = λ v h. (h.0, r.fewer v h.1);
    }

pub pigeonhole : (n : ℕ) (l : List ℕ) → Distinct l → Below n l → length l ≤ n
pigeonhole zero [] d b = le_refl _
pigeonhole zero (u ∷ l) d b = omega arith
pigeonhole (suc n) l d b =
    let r = without n l d b in
    omega (arith, r.one, pigeonhole n r.rest r.distinct r.below)

visits_length : (g : Graph) (s : ℕ) (w : List ℕ) → length (visits g s w) ≡ suc (length w)
visits_length g s [] = refl
visits_length g s (a ∷ w) = ap suc (visits_length g (g.head a) w)

-- A permitted path from s to t that visits no node twice and, driven from x, ends at b or before.
record Simple (g : Graph) (p : Permit) (s t x b : ℕ) : Type 0 where
  path : List ℕ
  leads : IsPath g p s t path
  distinct : Distinct (visits g s path)
  no_later : driven g path x ≤ b

module _ {g : Graph} {p : Permit} (ok : Lawful g) where
  visits_below : {s t : ℕ} {w : List ℕ} → s < g.nodes → IsPath g p s t w → Below g.nodes (visits g s w)
  visits_below h (stop e) = (h, tt)
  visits_below h (step {a = a} f i) = (h, visits_below (ok.heads a f.listed) i)

  pub distinct_short : {s t : ℕ} {w : List ℕ} → s < g.nodes → IsPath g p s t w → Distinct (visits g s w)
      → length w < g.nodes
  distinct_short {s} {w = w} h i d =
      omega (arith, pigeonhole g.nodes (visits g s w) d (visits_below h i), visits_length g s w)

  -- if a simple path from u visits s, its rest from s
  seek : {u t y : ℕ} {w : List ℕ} (s x : ℕ) → x ≤ y → IsPath g p u t w → Distinct (visits g u w)
      → (s ∉ visits g u w) ⊎ Simple g p s t x (driven g w y)
  seek {u} {t} {y} s x h (stop e) d = go (ℕ_discrete s u)
    where
      go : Dec (s ≡ u) → (s ∉ (u ∷ [])) ⊎ Simple g p s t x y
      go (yes q) = inr (record { path = []; leads = stop (q ∙ e); distinct = (tt, tt); no_later = h })
      go (no q) = inl (q, tt)
  seek {u} {t} {y} s x h (step {a = a} {w = w} f i) d =
      go (seek s x (omega (arith, arc_takes ok y f)) i d.1) (ℕ_discrete s u)
    where
      go : (s ∉ visits g (g.head a) w) ⊎ Simple g p s t x (driven g (a ∷ w) y) → Dec (s ≡ u)
          → (s ∉ visits g u (a ∷ w)) ⊎ Simple g p s t x (driven g (a ∷ w) y)
      go r (yes q) =
          inr (record
          { path = a ∷ w; leads = rw q (step f i); distinct = rw q d; no_later = later ok (step f i) h })
      go (inl k) (no q) = inl (q, k)
      go (inr r) (no q) = inr r

  simple : {s t : ℕ} {w : List ℕ} (x : ℕ) → IsPath g p s t w → Simple g p s t x (driven g w x)
  simple x (stop e) = record { path = []; leads = stop e; distinct = (tt, tt); no_later = le_refl x }
  simple {s} {t} x (step {a = a} {w = w} f i) = go (simple (ends g a x) i)
    where
      go : Simple g p (g.head a) t (ends g a x) (driven g (a ∷ w) x) → Simple g p s t x (driven g (a ∷ w) x)
      go r = pick (seek {y = ends g a x} s x (omega (arith, arc_takes ok x f)) r.leads r.distinct)
        where
          pick : (s ∉ visits g (g.head a) r.path) ⊎ Simple g p s t x (driven g r.path (ends g a x))
              → Simple g p s t x (driven g (a ∷ w) x)
          pick (inl k) =
              record {
                path = a ∷ r.path;
                leads = step f r.leads;
                distinct = (k, r.distinct);
                no_later = r.no_later;
              }
          pick (inr q) =
              record {
                path = q.path;
                leads = q.leads;
                distinct = q.distinct;
                no_later = le_trans q.no_later r.no_later;
              }

  pub shorten : {s t : ℕ} {w : List ℕ} (x : ℕ) → s < g.nodes → IsPath g p s t w
      → Short g p s t x (driven g w x)
  shorten {s} x h i =
      let r = simple x i in
      record {
        path = r.path;
        leads = r.leads;
        no_later = r.no_later;
        short = distinct_short h r.leads r.distinct;
      }

  -- so who can arrive at all can arrive within n - 1 times the longest travel
  pub arrive_bound : {most : ℕ} → Bounded g most → {s t : ℕ} {w : List ℕ} (x : ℕ) → s < g.nodes
      → IsPath g p s t w
      → Short g p s t x (x + (g.nodes - 1) * most)
  arrive_bound {most} b x h i =
      let r = shorten x h i in
      let k : length r.path ≤ g.nodes - 1 = omega (arith, r.short) in
      record {
        path = r.path;
        leads = r.leads;
        short = r.short;
        no_later = omega (arith, path_bound ok b x r.leads, mul-le-mul_right most k);
      }
