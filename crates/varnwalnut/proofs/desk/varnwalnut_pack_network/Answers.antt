-- `varnwalnut::desk::varnwalnut_pack_network` meets its contract.
use mathlib.Core.Path.{refl}
use Rattle.varnwalnut.specs.Calling.{write_short, write_written}
use Rattle.varnwalnut.proofs.desk.varnwalnut_pack_network.Goals as goal

pub returns-then-answer-lt4 : goal.returns-then-answer-lt4
returns-then-answer-lt4 c = write_short _ _ _ _ _ c.if-answer-lt4.true refl

pub returns : goal.returns
returns c = search write_written
