-- `network_encode::encode::put_points` meets its contract.
use Rattle.network_encode.specs.{Written.point_put}
use Rattle.network_encode.specs.Entries.{entry_none, entry_end}
use borrow.Author.Rules.{rules}
use Rattle.network_encode.proofs.encode.put_points.Goals as goal

pub loop-e-init : goal.loop-e-init
loop-e-init c = (search rules, entry_none _ _ _ _ _)

pub loop-e-preserved : goal.loop-e-preserved
loop-e-preserved c = (search rules, search point_put)

pub returns : goal.returns
returns c = search entry_end
