-- `network_encode::encode::put_header` meets its contract.
use Rattle.network_encode.specs.Written.{header_put}
use Rattle.network_encode.proofs.encode.put_header.Goals as goal

pub returns : goal.returns
returns c =
    header_put _ c.requires.within_limits c.requires.number_bound.0 _ _ _ _ _ _ _ _
    c.put32.ensures
    c.put16.ensures
    c.put16-2.ensures
    c.put16-3.ensures
    c.put16-4.ensures
    c.put32-2.ensures
    c.put8.ensures
