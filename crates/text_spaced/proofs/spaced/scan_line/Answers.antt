-- `text_spaced::spaced::scan_line` meets its contract.
use Rattle.std.proofs.Common.{rules}
use Rattle.text_spaced.specs.Fold.{bytewise}
use Rattle.text_spaced.proofs.spaced.scan_line.Goals as goal

pub loop-byte-init : goal.loop-byte-init
loop-byte-init c = (search rules, search (rules, bytewise))

pub loop-byte-preserved : goal.loop-byte-preserved
loop-byte-preserved c = (search rules, search (rules, bytewise))

pub returns : goal.returns
returns c = search (rules, bytewise)
