-- `text_spaced::spaced::scan_line` meets its contract.
use Rattle.std.proofs.Common.{◌≡◌, ◌≤◌, length, take}
use Rattle.text_spaced.specs.Scanning.{fresh, scanned_all}
use Rattle.text_spaced.proofs.spaced.scan_line.Given as goal

abbrev pub invariant-loop-byte : goal.invariant-loop-byte
invariant-loop-byte l =
    (l.byte-index ≤ length l.line) × (l.s ≡ scanned_all l.most fresh (take l.byte-index l.line))
