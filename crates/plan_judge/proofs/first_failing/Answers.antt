-- `plan_judge::first_failing` meets its contract.
use mathlib.Core.Path.{◌≡◌, refl, sym, ◌∙◌}
use native.Mathlib.Omega.{arith}
use Rattle.theory_loops.specs.First.{none_yet, pass}
use Rattle.network.specs.{Decode.decode, Network.nodes}
use Rattle.plan_values.specs.Starts.{started_of}
use Rattle.plan_tests.specs.Finds.{allowed_most}
use Rattle.plan_judge.specs.Finding.{lent_same, lent_rooms, border_number, at_border_lem, from_start}
use Rattle.plan_judge.specs.Standing.{stands_first, stands_kept, stands_lower, some_tick, stands_least, stands_row}
use Rattle.plan_judge.specs.Tally.{row_none, row_room, row_more, tally_none, tally_room, tally_more, tally_least}
use borrow.Author.Rules.{rules}
use Rattle.plan_judge.proofs.first_failing.Goals as goal

pub borders-init : goal.borders-init
borders-init c = (
  search rules,
  from_start _ _,
  c.requires.lent,
  stands_first,
  rw c.requires.finds_value (tally_none _ _),
)

pub profile_starts-from-requires-clause-formed : goal.profile_starts-from-requires-clause-formed
profile_starts-from-requires-clause-formed c = c.requires.equipped.check.formed

pub profile_starts-from-requires-clause-i_lt_borders : goal.profile_starts-from-requires-clause-i_lt_borders
profile_starts-from-requires-clause-i_lt_borders c = (
  c.borders-test.true,
  omega
      (arith, c.requires.equipped.check.formed.small.nodes_most, c.borders.invariant.2.starts),
)

pub profile_starts-from-requires-clause-from_value : goal.profile_starts-from-requires-clause-from_value
profile_starts-from-requires-clause-from_value c = c.borders.invariant.1

pub fill_lows-requires-clause-formed : goal.fill_lows-requires-clause-formed
fill_lows-requires-clause-formed c = c.requires.equipped.check.formed

pub fill_lows-requires-clause-started : goal.fill_lows-requires-clause-started
fill_lows-requires-clause-started c = started_of c.profile_starts-from.ensures.1

pub fill_lows-requires-clause-i_lt_borders : goal.fill_lows-requires-clause-i_lt_borders
fill_lows-requires-clause-i_lt_borders c = (
  c.borders-test.true,
  omega (
    arith,
    c.requires.equipped.check.formed.small.nodes_most,
    c.borders.invariant.2.least,
  ),
)

pub target_at-target-requires-clause-town : goal.target_at-target-requires-clause-town
target_at-target-requires-clause-town c = c.requires.equipped.check.town

pub target_at-target-requires-clause-listed : goal.target_at-target-requires-clause-listed
target_at-target-requires-clause-listed c = c.requires.equipped.listed

pub target_at-target-requires-clause-i_bound : goal.target_at-target-requires-clause-i_bound
target_at-target-requires-clause-i_bound c = (
  border_number c.requires.equipped c.borders-test.true,
  omega
      (arith, c.borders-test.true, c.requires.equipped.check.formed.small.borders_most),
)

pub places-init : goal.places-init
places-init c = (
  search rules,
  lent_same c.borders.invariant.2 c.profile_starts-from.ensures.1.long c.fill_lows.ensures.1 refl refl refl
      refl refl
      refl refl,
  c.borders.invariant.3,
  omega arith,
  row_none _ _ _ _ _,
)

pub judge-number-requires-clause-at_border : goal.judge-number-requires-clause-at_border
judge-number-requires-clause-at_border c = at_border_lem c.requires.equipped c.borders-test.true
    c.profile_starts-from.ensures.1 c.target_at-target.ensures.0 c.target_at-target.ensures.1

pub judge-number-requires-clause-briefs : goal.judge-number-requires-clause-briefs
judge-number-requires-clause-briefs c = (
  c.requires.briefs,
  rw c.target_at-target.ensures.0 c.fill_lows.ensures.0,
)

pub judge-number-requires-clause-limit_bound : goal.judge-number-requires-clause-limit_bound
judge-number-requires-clause-limit_bound c = (c.places.invariant.2.high, c.places-test.true)

pub judge-number-requires-clause-period_in_bounds : goal.judge-number-requires-clause-period_in_bounds
judge-number-requires-clause-period_in_bounds c = (
  omega (arith, c.places.invariant.1.own_s, c.requires.equipped.check.town.small.period_most),
  omega (arith, c.places.invariant.1.own_v, c.requires.equipped.check.town.small.period_most),
)

pub judge-number-requires-clause-rooms : goal.judge-number-requires-clause-rooms
judge-number-requires-clause-rooms c = lent_rooms c.places.invariant.1
    c.requires.equipped.check.town.small.period_most

pub judge-number-requires-clause-node_bound : goal.judge-number-requires-clause-node_bound
judge-number-requires-clause-node_bound c = rw c.target_at-target.ensures.0
    (row_room _ _ _ c.places.invariant.4 _
    (tally_room _ _ (λ a m. (c.requires.equipped.check.town.sound.arc a m).tail_node) c.borders.invariant.4
    (λ j l. allowed_most c.requires.equipped.check (omega arith))
    (omega (arith, c.borders-test.true, c.requires.equipped.check.formed.small.borders_most)))
    (omega (arith, c.places-test.true, c.requires.equipped.check.town.sizes.nodes)))

pub overflow_step-node : goal.overflow_step-node
overflow_step-node c = omega (
  arith,
  c.places-test.true,
  c.requires.equipped.check.town.small.nodes_most,
)

pub places-smaller-then-best-number : goal.places-smaller-then-best-number
places-smaller-then-best-number c = omega (
  arith,
  c.places-test.true,
)

pub places-preserved-then-best-number : goal.places-preserved-then-best-number
places-preserved-then-best-number c =
    let told = rw (c.target_at-target.ensures.0, c.requires.equipped.check.town.sizes.period) at
    c.judge-number.ensures in (
      omega (
        arith,
        c.places-test.true,
      ),
      lent_same c.places.invariant.1 refl refl c.judge-number.auto.so c.judge-number.auto.vo
          c.judge-number.auto.sa c.judge-number.auto.va c.judge-number.auto.sh
          c.judge-number.auto.vh c.judge-number.auto.marks,
      stands_kept c.places.invariant.2 told.0 c.if-best-number.true,
      c.places.invariant.3,
      row_more _ _ _ c.places.invariant.4 _
          (rw (c.requires.equipped.check.nodes, c.requires.equipped.check.town.sizes.nodes)) told.1 (omega arith)
          c.places.invariant.2.high,
    )

pub ticks-init : goal.ticks-init
ticks-init c = (search rules, refl, refl, none_yet _)

pub fails_at-requires : goal.fails_at-requires
fails_at-requires c = omega (
  arith,
  c.ticks-test.true,
  c.requires.equipped.check.town.small.period_most,
  c.places.invariant.1.bytes,
  c.judge-number.auto.marks,
)

pub overflow_step-node-then-fails_at : goal.overflow_step-node-then-fails_at
overflow_step-node-then-fails_at c = omega (
  arith,
  c.ticks.invariant.2,
  c.places-test.true,
  c.requires.equipped.check.town.small.nodes_most,
)

pub places-smaller-then-fails_at : goal.places-smaller-then-fails_at
places-smaller-then-fails_at c = omega (
  arith,
  c.ticks.invariant.2,
  c.places-test.true,
)

pub places-preserved-then-fails_at : goal.places-preserved-then-fails_at
places-preserved-then-fails_at c =
    let told = rw (c.target_at-target.ensures.0, c.requires.equipped.check.town.sizes.period) at
    c.judge-number.ensures in
    let stands = stands_lower c.places.invariant.2 told.0 c.if-best-number.false c.ticks.invariant.3 (omega
    (arith, c.borders-test.true, c.requires.equipped.check.borders))
    (omega (arith, c.places-test.true, c.requires.equipped.check.town.sizes.nodes)) (omega (
      arith,
      c.ticks-test.true,
      c.requires.equipped.check.town.sizes.period,
    ))
    (sym c.fails_at.ensures ∙ c.if-fails_at.true) in
    let row = row_more _ _ _ c.places.invariant.4 c.judge-number.result
    (rw (c.requires.equipped.check.nodes, c.requires.equipped.check.town.sizes.nodes)) told.1
    (omega arith) c.places.invariant.2.high in
    rw c.ticks.invariant.2 (
      omega (arith, c.places-test.true),
      lent_same c.places.invariant.1 refl refl c.judge-number.auto.so c.judge-number.auto.vo
          c.judge-number.auto.sa c.judge-number.auto.va c.judge-number.auto.sh
          c.judge-number.auto.vh c.judge-number.auto.marks,
      stands,
      omega (arith, c.places.invariant.3),
      row,
    )

pub overflow_step-tick : goal.overflow_step-tick
overflow_step-tick c = omega (
  arith,
  c.ticks-test.true,
  c.requires.equipped.check.town.small.period_most,
)

pub ticks-smaller : goal.ticks-smaller
ticks-smaller c = omega (arith, c.ticks-test.true)

pub ticks-preserved : goal.ticks-preserved
ticks-preserved c = (
  omega (arith, c.ticks-test.true),
  c.ticks.invariant.1,
  c.ticks.invariant.2,
  pass _ _ c.ticks.invariant.3 (sym c.fails_at.ensures ∙ c.if-fails_at.false),
)

pub overflow_step-node-in-places : goal.overflow_step-node-in-places
overflow_step-node-in-places c = omega (
  arith,
  c.ticks.invariant.2,
  c.places-test.true,
  c.requires.equipped.check.town.small.nodes_most,
)

pub places-smaller : goal.places-smaller
places-smaller c = omega (
  arith,
  c.ticks.invariant.2,
  c.places-test.true,
)

pub places-preserved : goal.places-preserved
places-preserved c = let told = rw (
  c.target_at-target.ensures.0,
  c.requires.equipped.check.town.sizes.period,
) at c.judge-number.ensures in
    absurd (some_tick c.places.invariant.2 told.0 c.if-best-number.false c.ticks.invariant.3
    (omega (arith, c.ticks-test.false, c.requires.equipped.check.town.sizes.period)))

pub overflow_step-i : goal.overflow_step-i
overflow_step-i c = omega (
  arith,
  c.borders-test.true,
  c.requires.equipped.check.formed.small.borders_most,
)

pub borders-smaller : goal.borders-smaller
borders-smaller c = omega (
  arith,
  c.borders-test.true,
)

pub borders-preserved : goal.borders-preserved
borders-preserved c = let e : c.places.node ≡ nodes (decode c.args.network.now) =
    omega (arith, c.places-test.false, c.places.invariant.0, c.requires.equipped.check.town.sizes.nodes) in (
      omega (
        arith,
        c.borders-test.true,
      ),
      c.profile_starts-from.ensures.0,
      c.places.invariant.1,
      stands_row c.places.invariant.2 (omega (arith, e)),
      tally_more _ _ (λ a m. (c.requires.equipped.check.town.sound.arc a m).tail_node) c.borders.invariant.4
          (rw e at c.places.invariant.4) c.places.invariant.3 c.borders.invariant.3.high,
    )

pub returns-after-borders : goal.returns-after-borders
returns-after-borders c =
    let e : c.borders.i ≡ c.args.l.plan.borders = omega (
      arith,
      c.borders-test.false,
      c.borders.invariant.0,
    ) in
    (rw e at c.borders.invariant.3, rw e at c.borders.invariant.4)

pub shape_of-so-then-best-le-BORDER : goal.shape_of-so-then-best-le-BORDER
shape_of-so-then-best-le-BORDER c =
    omega (arith, c.places.invariant.1.own_s, c.requires.lent.own_s)

pub shape_of-vo-then-best-le-BORDER : goal.shape_of-vo-then-best-le-BORDER
shape_of-vo-then-best-le-BORDER c =
    omega (arith, c.places.invariant.1.own_v, c.requires.lent.own_v)

pub shape_of-sa-then-best-le-BORDER : goal.shape_of-sa-then-best-le-BORDER
shape_of-sa-then-best-le-BORDER c =
    omega (arith, c.places.invariant.1.arc_s, c.requires.lent.arc_s)

pub shape_of-va-then-best-le-BORDER : goal.shape_of-va-then-best-le-BORDER
shape_of-va-then-best-le-BORDER c =
    omega (arith, c.places.invariant.1.arc_v, c.requires.lent.arc_v)

pub shape_of-sh-then-best-le-BORDER : goal.shape_of-sh-then-best-le-BORDER
shape_of-sh-then-best-le-BORDER c =
    omega (arith, c.places.invariant.1.head_s, c.requires.lent.head_s)

pub shape_of-vh-then-best-le-BORDER : goal.shape_of-vh-then-best-le-BORDER
shape_of-vh-then-best-le-BORDER c =
    omega (arith, c.places.invariant.1.head_v, c.requires.lent.head_v)

pub shape_of-marks-then-best-le-BORDER : goal.shape_of-marks-then-best-le-BORDER
shape_of-marks-then-best-le-BORDER c =
    omega (arith, c.places.invariant.1.bytes, c.requires.lent.bytes)

pub returns-then-best-le-BORDER : goal.returns-then-best-le-BORDER
returns-then-best-le-BORDER c = let e : c.places.node ≡ nodes (decode c.args.network.now) =
    omega (arith, c.places-test.false, c.places.invariant.0, c.requires.equipped.check.town.sizes.nodes) in
    let tally = tally_more _ _ (λ a m. (c.requires.equipped.check.town.sound.arc a m).tail_node)
    c.borders.invariant.4 (rw e at c.places.invariant.4) c.places.invariant.3
    c.borders.invariant.3.high in (
      stands_least c.places.invariant.2 c.if-best-le-BORDER.true _,
      tally_least _ _ (λ a m. (c.requires.equipped.check.town.sound.arc a m).tail_node) tally
          (omega (arith, c.if-best-le-BORDER.true))
          (omega (
            arith,
            c.borders-test.true,
          )),
    )
