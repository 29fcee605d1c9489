-- `sheet_text::numbers::put_roads` meets its contract.
use mathlib.Core.Path.{◌≡◌}
use Prim.Native.Nat.{◌+◌, ◌*◌, ◌≤◌}
use lib.ListN.{length, take}
use Rattle.text_numbers.specs.Text.{Stored}
use Rattle.sheet_text.specs.Numbers.{spaced}
use Rattle.sheet_text.proofs.numbers.put_roads.Given as goal

abbrev pub invariant-loop-road : goal.invariant-loop-road
invariant-loop-road l =
    (l.road-index ≤ l.count) × (length l.out ≡ length l.initial.out) × (l.next ≤ l.at + 6 * l.road-index)
    × Stored l.initial.out l.out l.at l.next (spaced (take l.road-index (take l.count l.roads)))
