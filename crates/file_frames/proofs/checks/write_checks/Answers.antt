-- `file_frames::checks::write_checks` meets its contract: the blocks passed have their checks.
use Rattle.file_frames.specs.Sealed.{sealed_none, sealed_more, sealed_end}
use borrow.Author.Rules.{rules}
use Rattle.file_frames.proofs.checks.write_checks.Goals as goal

pub loop-b-init : goal.loop-b-init
loop-b-init c = (search rules, search rules, search sealed_none)

pub loop-b-preserved : goal.loop-b-preserved
loop-b-preserved c = (search rules, search rules, search sealed_more)

pub returns : goal.returns
returns c = search sealed_end
