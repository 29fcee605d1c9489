-- `search_path::path::write` meets its contract: the loop goes back by the notes, and writes each arc before
-- those written.
use Rattle.search_path.specs.Trail.{Writing}
use Rattle.search_path.proofs.path.write.Given as goal

abbrev pub invariant-loop-n : goal.invariant-loop-n
invariant-loop-n l =
    Writing l.file l.l l.notes l.target l.count l.v l.n l.initial.roads l.roads

abbrev pub decreases-loop-n : goal.decreases-loop-n
decreases-loop-n l = l.n
