-- `dimacs_import::import::import_sized` meets its contract.
use native.Mathlib.Omega.{arith}
use Rattle.dimacs_import.specs.Roads.{roads_packable, roads_few, roads_short, roads_whole}
use borrow.Author.Rules.{rules}
use Rattle.dimacs_import.proofs.import.import_sized.Goals as goal

pub overflow_mul-long : goal.overflow_mul-long
overflow_mul-long c =
    omega (arith, roads_few c.args.number c.args.k _ c.requires.0 c.layout-l.ensures)

pub returns-then-out-long : goal.returns-then-out-long
returns-then-out-long c = search (rules, roads_short)

pub write_network-requires-clause-packable : goal.write_network-requires-clause-packable
write_network-requires-clause-packable c = search (rules, roads_packable)

pub overflow_cast-result : goal.overflow_cast-result
overflow_cast-result c =
    omega (arith, roads_few c.args.number c.args.k _ c.requires.0 c.layout-l.ensures)

pub returns : goal.returns
returns c = search (rules, roads_whole)
