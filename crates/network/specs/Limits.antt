-- The limits of a network's numbers, and the header that numbers within them make.
use mathlib.Core.{Path.◌≡◌, Path.refl, Path.sym, Bool.Bool, Bool.true, Bool.false, Bool.cond}
use Rattle.std.specs.Prelude.{ℕ, ◌-◌, ◌≤◌, ltb, Option, Some, None}
use Rattle.std.proofs.Common.{arith}
use borrow.Author.Tests.{ltb-false, le-ltb}
use Rattle.network.specs.declared.header.{Header.Header}

abbrev pub most_period : ℕ
most_period = 2880

abbrev pub most_nodes : ℕ
most_nodes = 512

abbrev pub most_arcs : ℕ
most_arcs = 2048

abbrev pub most_cells : ℕ
most_cells = 64

abbrev pub most_points : ℕ
most_points = 65535

-- whether hours are held
abbrev pub most_hours : ℕ
most_hours = 1

-- the most arcs of a path that comes to no node twice
abbrev pub most_roads : ℕ
most_roads = most_nodes - 1

-- a period, nodes and cells are 1 or more
unfoldable pub made : ℕ → ℕ → ℕ → ℕ → ℕ → ℕ → ℕ → Option Header
made number period nodes arcs cells points hours =
    cond (ltb period 1) None
    (cond (ltb most_period period) None
    (cond (ltb nodes 1) None
    (cond (ltb most_nodes nodes) None
    (cond (ltb most_arcs arcs) None
    (cond (ltb cells 1) None
    (cond (ltb most_cells cells) None
    (cond (ltb most_points points) None
    (cond (ltb most_hours hours) None
    (Some (record {
      number = number;
      period = period;
      nodes = nodes;
      arcs = arcs;
      cells = cells;
      points = points;
      hours = hours;
    }))))))))))

-- a header within the limits
pub record WithinLimits (h : Header) : Type 0 where
  pub period_some : 1 ≤ h.period
  pub period_most : h.period ≤ most_period
  pub nodes_some : 1 ≤ h.nodes
  pub nodes_most : h.nodes ≤ most_nodes
  pub arcs_most : h.arcs ≤ most_arcs
  pub cells_some : 1 ≤ h.cells
  pub cells_most : h.cells ≤ most_cells
  pub points_most : h.points ≤ most_points
  pub hours_most : h.hours ≤ most_hours

-- a limit that is passed where a header is made
limit_passed : (t : Bool) (m : Option Header) (h : Header) → cond t None m ≡ Some h → (t ≡ false) × (m ≡ Some h)
limit_passed true m h e = let z : ◌≡◌ {A = ℕ} 0 1 = cc in absurd (omega arith)
limit_passed false m h e = (refl, e)

one_header : (a b : Header) → Some a ≡ Some b → a ≡ b
one_header a b e = cc

-- a header that is made is within the limits, and holds the numbers
module _ (number period nodes arcs cells points hours : ℕ) where
  abbrev these : Header
  these = record {
    number = number;
    period = period;
    nodes = nodes;
    arcs = arcs;
    cells = cells;
    points = points;
    hours = hours;
  }

  pub made_within : (h : Header) → made number period nodes arcs cells points hours ≡ Some h
      → WithinLimits h × (h ≡ record {
        number = number;
        period = period;
        nodes = nodes;
        arcs = arcs;
        cells = cells;
        points = points;
        hours = hours;
      })
  unfolding made
  made_within h e =
      let (p₁, e₁) = limit_passed _ _ h e in
      let (p₂, e₂) = limit_passed _ _ h e₁ in
      let (n₁, e₃) = limit_passed _ _ h e₂ in
      let (n₂, e₄) = limit_passed _ _ h e₃ in
      let (a, e₅) = limit_passed _ _ h e₄ in
      let (c₁, e₆) = limit_passed _ _ h e₅ in
      let (c₂, e₇) = limit_passed _ _ h e₆ in
      let (q, e₈) = limit_passed _ _ h e₇ in
      let (o, e₉) = limit_passed _ _ h e₈ in
      let w : WithinLimits these = record {
        period_some = ltb-false _ _ p₁;
        period_most = ltb-false _ _ p₂;
        nodes_some = ltb-false _ _ n₁;
        nodes_most = ltb-false _ _ n₂;
        arcs_most = ltb-false _ _ a;
        cells_some = ltb-false _ _ c₁;
        cells_most = ltb-false _ _ c₂;
        points_most = ltb-false _ _ q;
        hours_most = ltb-false _ _ o;
      } in
      let f : these ≡ h = one_header these h e₉ in
      (rw f at w, sym f)

  -- and numbers within the limits make one
  pub within_made : WithinLimits
      (record {
        number = number;
        period = period;
        nodes = nodes;
        arcs = arcs;
        cells = cells;
        points = points;
        hours = hours;
      })
      → made number period nodes arcs cells points hours ≡ Some
      (record {
        number = number;
        period = period;
        nodes = nodes;
        arcs = arcs;
        cells = cells;
        points = points;
        hours = hours;
      })
  unfolding made
  within_made w = rw (
    le-ltb _ _ w.period_some,
    le-ltb _ _ w.period_most,
    le-ltb _ _ w.nodes_some,
    le-ltb _ _ w.nodes_most,
    le-ltb _ _ w.arcs_most,
    le-ltb _ _ w.cells_some,
    le-ltb _ _ w.cells_most,
    le-ltb _ _ w.points_most,
    le-ltb _ _ w.hours_most,
  )
