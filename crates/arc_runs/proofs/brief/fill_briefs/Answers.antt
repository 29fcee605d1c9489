-- `arc_runs::brief::fill_briefs` meets its contract.
use mathlib.Core.Path.{◌≡◌, refl, ◌∙◌}
use Prim.Native.Nat.{◌<◌}
use native.Mathlib.Omega.{arith}
use lib.ListN.{length-set}
use Rattle.arc_runs.specs.Brief.{briefs_none, briefs_more}
use borrow.Author.Rules.{rules}
use Rattle.arc_runs.proofs.brief.fill_briefs.Goals as goal

pub loop-a-init : goal.loop-a-init
loop-a-init c = (search rules, refl, briefs_none _)

pub brief_of-requires-clause-town : goal.brief_of-requires-clause-town
brief_of-requires-clause-town c = let h : c.loop-a.a < c.args.l.arcs = omega (arith, c.loop-a-test.true) in
    c.requires.town

pub brief_of-requires-clause-arc_lt_arcs : goal.brief_of-requires-clause-arc_lt_arcs
brief_of-requires-clause-arc_lt_arcs c =
    let h : c.loop-a.a < c.args.l.arcs = omega (arith, c.loop-a-test.true) in
    (h, c.requires.pointed.at _ h)

pub loop-a-preserved : goal.loop-a-preserved
loop-a-preserved c = (
  search rules,
  length-set c.loop-a.briefs c.loop-a.a _ ∙ c.loop-a.invariant.1,
  briefs_more _ c.loop-a.invariant.2 (omega (arith, c.loop-a.invariant.1, c.requires.arcs_in_bounds))
      c.brief_of.ensures,
)

pub returns : goal.returns
returns c = let e : c.loop-a.a ≡ c.args.l.arcs = omega arith in
    rw e at c.loop-a.invariant.2
