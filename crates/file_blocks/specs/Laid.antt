-- A file that is as long as its header says, laid out so: what all reading in place requires. Said once, over
-- the numbers in its first block (H), the layout that they make (L), their limits, and the count of blocks.
use mathlib.Core.{Path.◌≡◌, Path.◌∙◌, Path.ap, List.List}
use Rattle.std.specs.Prelude.{ℕ, ◌*◌, length}
use Rattle.file_fields.specs.Block.{block_size}

pub record LaidOut {H L : Type 0} (header_at : List ℕ → H) (layout_of : H → L) (Within : H → Type 0)
    (blocksOf : H → ℕ) (file : List ℕ) (l : L) : Type 0 where
  pub is : l ≡ layout_of (header_at file)
  pub within : Within (header_at file)
  pub long : length file ≡ block_size * blocksOf (header_at file)

-- by a header that is the file's
pub laid_by : {H L : Type 0} {header_at : List ℕ → H} {layout_of : H → L} {Within : H → Type 0}
    {blocksOf : H → ℕ} {file : List ℕ} {h : H} {l : L} → h ≡ header_at file → l ≡ layout_of h → Within h
    → length file ≡ block_size * blocksOf h → LaidOut header_at layout_of Within blocksOf file l
laid_by {layout_of = layout_of} d e w f = record
    { is = e ∙ ap layout_of d; within = rw d at w; long = rw d at f }
