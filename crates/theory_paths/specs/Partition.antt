-- A graph whose nodes lie in cells: what borders, flags and the check of a plan are about.
use Rattle.std.specs.Prelude.{ℕ}
use Rattle.theory_paths.specs.Graph.{Graph}

pub record Partition : Type 0 where
  pub graph : Graph
  -- for each node its cell
  pub cell : ℕ → ℕ
