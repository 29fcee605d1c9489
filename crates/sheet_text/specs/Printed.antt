-- What a step of the sheet leaves in lent bytes: a text from the first byte on, of at most so many bytes as
-- a line may have.
use mathlib.Core.{Path.◌≡◌, Path.refl, List.List, List.[]}
use Rattle.std.specs.Prelude.{ℕ, ◌*◌, ◌≤◌}
use Rattle.std.proofs.Common.{arith}
use lib.{ListN.length, Seq.sets}
use Rattle.text_numbers.specs.Text.{Stored}
use Rattle.network.specs.Limits.{most_nodes}

-- The most bytes of a line: a road takes six, and a trip has a road less than there are nodes.
abbrev pub most_line : ℕ
most_line = 8 * most_nodes

-- What a step of the sheet leaves: a text of at most a line from the first byte on, and its length.
pub record Printed (old new : List ℕ) (count : ℕ) (text : List ℕ) : Type 0 where
  pub bytes : new ≡ sets old 0 text
  pub counted : count ≡ length text
  pub few : count ≤ most_line

pub printed : (old new : List ℕ) (count : ℕ) (text : List ℕ) → Stored old new 0 count text
    → count ≤ most_line → Printed old new count text
printed old new count text p l = record { bytes = p.bytes; counted = omega (arith, p.ends); few = l }

pub printed_none : (old : List ℕ) → Printed old old 0 []
printed_none old = record { bytes = refl; counted = refl; few = omega arith }
