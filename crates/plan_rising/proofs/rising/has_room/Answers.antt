-- `plan_rising::rising::has_room` meets its contract.
use mathlib.Core.{Path.sym, Bool.true≢false}
use Rattle.plan_rising.proofs.rising.has_room.Goals as goal

pub returns-then-l-count : goal.returns-then-l-count
returns-then-l-count c = λ e. absurd (true≢false (sym e))
