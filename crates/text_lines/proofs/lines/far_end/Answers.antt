-- `text_lines::lines::far_end` meets its contract.
use Rattle.text_lines.specs.Lines.{feed_met, feed_missed}
use Rattle.text_lines.proofs.lines.far_end.Goals as goal

pub returns-in-Some : goal.returns-in-Some
returns-in-Some c = feed_met c.args.text.now c.args.at c.requires c.in-Some.feed c.in-Some.ensures

pub returns-in-None : goal.returns-in-None
returns-in-None c = feed_missed c.args.text.now c.args.at c.requires c.in-None.ensures
