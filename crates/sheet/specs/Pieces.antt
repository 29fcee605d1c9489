-- An input that comes in pieces: the state after a piece's bytes, one after the other, and after piece upon
-- piece. How many bytes a piece has, and which, is for whoever reads it.
use mathlib.Core.{Path.◌≡◌, Path.refl, Path.sym, Path.◌∙◌, Path.ap, List.List, List.[], List.◌++◌}
use Rattle.std.specs.Prelude.{ℕ}
use Rattle.text_spaced.specs.Fold.{folded, folded_append, folded_none, folded_next, folded_end}
use Rattle.sheet.specs.declared.reading.Reading.{Reading}
use Rattle.sheet.specs.Reading.{stepped, stepped_all}

-- the state `after` is reached from the state `before` over bytes of the input
pub record Fed (before after : Reading) : Type 0 where
  pub bytes : List ℕ
  pub reaches : after ≡ stepped_all before bytes

-- FOR A LOOP over pieces: none is read, and one more
pub fed_none : (r : Reading) → Fed r r
unfolding folded
fed_none r = record { bytes = []; reaches = refl }

pub fed_more : (before r next : Reading) (piece : List ℕ) → Fed before r → next ≡ stepped_all r piece
    → Fed before next
fed_more before r next piece f e = record {
  bytes = f.bytes ++ piece;
  reaches =
      e
      ∙ ap (λ (s : Reading). stepped_all s piece) f.reaches
      ∙ sym (folded_append stepped before f.bytes piece);
}

-- for `search pieces` in that loop, and in the one over a piece's bytes
pub ruleset pieces = (fed_none, fed_more, folded_none, folded_next, folded_end)
