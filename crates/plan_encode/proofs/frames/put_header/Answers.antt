-- `plan_encode::frames::put_header` meets its contract: eight fields, one behind the other.
use Rattle.plan_encode.specs.Frames.{header_put}
use Rattle.plan_encode.proofs.frames.put_header.Goals as goal

pub returns : goal.returns
returns c =
    header_put _ c.requires.plan_within c.requires.number_bound.0 _ _ _ _ _ _ _ _ _
    c.put32.ensures
    c.put16.ensures
    c.put16-2.ensures
    c.put16-3.ensures
    c.put16-4.ensures
    c.put16-5.ensures
    c.put16-6.ensures
    c.put32-2.ensures
