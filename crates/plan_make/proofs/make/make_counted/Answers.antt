-- `plan_make::make::make_counted` meets its contract.
use mathlib.Core.Path.{refl}
use native.Mathlib.Omega.{arith}
use Rattle.network.specs.Decode.{decode}
use Rattle.plan_make.specs.Making.{borders_fit, header_within, header_made, points_few, file_few}
use Rattle.plan_make.specs.{Making.file_long, Making.made_short, Making.made_whole}
use Rattle.plan_make.proofs.make.make_counted.Goals as goal

pub overflow_cast-head : goal.overflow_cast-head
overflow_cast-head c =
    omega (
      arith,
      borders_fit c.requires.valid_file.0 c.args.borders.now.whole c.requires.counted.0
          c.requires.counted.1,
    )

pub layout-k-requires : goal.layout-k-requires
layout-k-requires c =
    header_within c.requires.valid_file.0 c.args.borders.now.whole c.requires.counted.0
    c.requires.counted.1

pub overflow_mul-long : goal.overflow_mul-long
overflow_mul-long c =
    omega (
      arith,
      file_few c.layout-k.ensures
          (header_within c.requires.valid_file.0 c.args.borders.now.whole c.requires.counted.0
          c.requires.counted.1),
    )

pub returns-then-out-long : goal.returns-then-out-long
returns-then-out-long c =
    let n = decode c.args.borders.now.roads.file.now in
    let h = header_made c.requires.valid_file.0 c.args.borders.now.whole c.requires.counted.0
    c.requires.counted.1 in
    made_short n c.args.out.now _ (points_few c.requires.valid_file.0 c.args.borders.now.whole
    c.requires.counted.0 c.requires.counted.1)
    (file_long n c.layout-k.ensures h) c.if-out-long.true c.refused.ensures

pub write_plan-requires : goal.write_plan-requires
write_plan-requires c =
    let h = header_made c.requires.valid_file.0 c.args.borders.now.whole c.requires.counted.0
    c.requires.counted.1 in (
      record {
        is = c.layout-k.ensures;
        within = header_within c.requires.valid_file.0 c.args.borders.now.whole c.requires.counted.0
            c.requires.counted.1;
        number_fits = c.requires.valid_file.1;
        whole = omega arith;
      },
      h,
      c.requires.counted.2,
    )

pub overflow_cast-result : goal.overflow_cast-result
overflow_cast-result c =
    omega (
      arith,
      file_few c.layout-k.ensures
          (header_within c.requires.valid_file.0 c.args.borders.now.whole c.requires.counted.0
          c.requires.counted.1),
    )

pub returns : goal.returns
returns c =
    let n = decode c.args.borders.now.roads.file.now in
    let h = header_made c.requires.valid_file.0 c.args.borders.now.whole c.requires.counted.0
    c.requires.counted.1 in
    made_whole n c.args.out.now _ (points_few c.requires.valid_file.0 c.args.borders.now.whole
    c.requires.counted.0 c.requires.counted.1) _
    (file_long n c.layout-k.ensures h) c.if-out-long.false c.write_plan.ensures refl
