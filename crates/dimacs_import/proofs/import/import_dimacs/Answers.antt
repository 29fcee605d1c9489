-- `dimacs_import::import::import_dimacs` meets its contract.
use Rattle.dimacs_import.specs.{Import.import_refused, Roads.accepted_within, Roads.roads_imported}
use Rattle.dimacs_import.proofs.import.import_dimacs.Goals as goal

pub import_sized-requires : goal.import_sized-requires
import_sized-requires c =
    accepted_within _ _ _ _ c.judge.ensures c.in-Ok.is

pub returns-in-Err : goal.returns-in-Err
returns-in-Err c = search import_refused

pub returns-in-Ok : goal.returns-in-Ok
returns-in-Ok c = search roads_imported
