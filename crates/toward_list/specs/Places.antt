-- Where a node's row stands, and the laws of the loops that copy one, and look for its least and its greatest
-- number.
use mathlib.Core.{Path.◌≡◌, Path.refl, Path.sym, List.List}
use Rattle.std.specs.Prelude.{ℕ, ◌+◌, ◌-◌, ◌*◌, ◌≤◌, ◌<◌, min, max}
use native.Mathlib.{Nat.mul-le-mul, Nat.mul-le-mul_right, Omega.arith, Decide.ℕ_discrete, Decide.dec_lt}
use Rattle.std.proofs.Math.ListN.{get_or}
use mir.{Val.Fits, Syntax.w64}
use Rattle.theory_loops.specs.{Fill.Filled, Grid.grid_at}
use Rattle.theory_paths.specs.Earliest.{never}
use Rattle.network.specs.declared.header.Layout.{Layout}
use Rattle.network.specs.{Decode.Small, Limits.most_nodes}
use Rattle.toward_list.specs.{Heights.Near, Heights.Highest, Rows.rows_of}

module _ {l : Layout} (s : Small l) {u : ℕ} (h : u < l.nodes) where
  pub row_early : u * l.period + l.period < 2000000
  row_early =
      let n : u + 1 ≤ most_nodes = omega (arith, s.nodes_most) in
      omega (arith, mul-le-mul n s.period_most)

  pub row_fits : Fits w64 (u * l.period)
  row_fits = omega (arith, row_early)

  pub row_within : u * l.period + l.period ≤ l.nodes * l.period
  row_within = let n : u + 1 ≤ l.nodes = omega arith in omega (arith, mul-le-mul_right l.period n)

-- FOR THE COPY of a row from place p on
unfoldable pub copied : List ℕ → ℕ → ℕ → ℕ
copied W p x = get_or W (p + x) 0

pub copy_entry : (W : List ℕ) (p x : ℕ) → get_or W (p + x) 0 ≡ copied W p x
unfolding copied
copy_entry W p x = refl

pub copy_row_lem : (W old new : List ℕ) (p v wide : ℕ) → p ≡ v * wide → Filled 0 wide (copied W p) old new
    → Filled 0 wide (rows_of wide W v) old new
unfolding copied grid_at
copy_row_lem W old new p v wide e f = rw e at f

-- FOR THE LEAST of a row that starts at place p: none of its first n entries is less
pub record Lower (p n : ℕ) (W : List ℕ) (low : ℕ) : Type 0 where
  pub all : (x : ℕ) → x < n → low ≤ get_or W (p + x) 0

module _ {p : ℕ} {W : List ℕ} where
  pub lower_none : (low : ℕ) → Lower p 0 W low
  lower_none low = record { all = λ x h. absurd (omega arith) }

  pub lower_more : {n low number less : ℕ} → Lower p n W low → number ≡ get_or W (p + n) 0
      → less ≡ min low number → Lower p (n + 1) W less
  lower_more {n} w e q = record {
    all = λ x h.
        elim (ℕ_discrete x n) [ yes o ↦ rw o (omega arith) | no o ↦ omega (arith, w.all x (omega arith)) ];
  }

  pub lower_near : {n low wide u : ℕ} → Lower p n W low → wide ≤ n → p ≡ u * wide → low ≤ never
      → Near wide W u (never - low)
  unfolding grid_at
  lower_near w l q m = record { all = λ x h. let z = rw q at (w.all x (omega arith)) in omega arith }

-- FOR THE GREATEST of a row that starts at place p: none of its first n entries is greater, and one of all is
-- the greatest
pub record Upper (p n wide : ℕ) (W : List ℕ) (high : ℕ) : Type 0 where
  pub all : (x : ℕ) → x < n → get_or W (p + x) 0 ≤ high
  pub at : ℕ
  pub within : at < wide
  pub met : get_or W (p + at) 0 ≡ high

module _ {p wide : ℕ} {W : List ℕ} where
  pub upper_none : {high : ℕ} → 0 < wide → high ≡ get_or W p 0 → Upper p 0 wide W high
  upper_none l q = let z : p + 0 ≡ p = omega arith in record {
    all = λ x h. absurd (omega arith);
    at = 0;
    within = l;
    met = rw z (sym q);
  }

  pub upper_more : {n high number more : ℕ} → Upper p n wide W high → n < wide → number ≡ get_or W (p + n) 0
      → more ≡ max high number → Upper p (n + 1) wide W more
  upper_more {n} {high} {number} {more} w m e q = elim (dec_lt high number) [
    | yes h ↦ record { all = all; at = n; within = m; met = omega arith }
    | no h ↦ record { all = all; at = w.at; within = w.within; met = omega (arith, w.met) }
  ]
    where
      all : (x : ℕ) → x < n + 1 → get_or W (p + x) 0 ≤ more
      all x h =
          elim (ℕ_discrete x n) [ yes o ↦ rw o (omega arith) | no o ↦ omega (arith, w.all x (omega arith)) ]

  pub upper_end : {n high u : ℕ} → Upper p n wide W high → wide ≤ n → p ≡ u * wide → Highest wide W u high
  unfolding grid_at
  upper_end w l q = record {
    most = λ x h. rw q at (w.all x (omega arith));
    at = w.at;
    within = w.within;
    met = rw q at w.met;
  }
