-- `c_replies::trip::write_roads` meets its contract.
use native.Mathlib.Omega.{arith}
use Rattle.c_trip.specs.{Writing.roads_none, Writing.roads_next, Writing.roads_end}
use borrow.Author.Rules.{rules}
use Rattle.c_trip.proofs.trip.write_roads.Goals as goal

pub loop-i-init : goal.loop-i-init
loop-i-init c = (search rules, search roads_none, search rules)

pub loop-i-preserved : goal.loop-i-preserved
loop-i-preserved c = (
  search rules,
  roads_next _ _ c.loop-i.i
      c.loop-i.answer _ (omega arith)
      c.loop-i.invariant.1 (search rules),
  search rules,
)

pub returns : goal.returns
returns c = search roads_end
