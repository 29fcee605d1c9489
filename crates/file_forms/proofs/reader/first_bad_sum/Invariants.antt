-- `file_forms::reader::first_bad_sum` meets its contract: the reader reads the file, and has passed right
-- blocks alone; the number of blocks left falls.
use Rattle.std.proofs.Common.{◌≡◌, ◌/◌, ◌≤◌, ◌-◌, length}
use Rattle.theory_loops.specs.First.{first}
use Rattle.file_fields.specs.Block.{block_size}
use Rattle.file_forms.specs.Read.{bad}
use Rattle.file_forms.proofs.reader.first_bad_sum.Given as goal

abbrev pub invariant-loop-blocks : goal.invariant-loop-blocks
invariant-loop-blocks l =
    (l.blocks.file.now ≡ l.file) × (l.blocks.at ≤ length l.file / block_size)
    × (first l.blocks.at (bad l.file) ≡ l.blocks.at)

abbrev pub decreases-loop-blocks : goal.decreases-loop-blocks
decreases-loop-blocks l = length l.file / block_size - l.blocks.at
