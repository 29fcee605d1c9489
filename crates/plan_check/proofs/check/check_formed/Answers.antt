-- `plan_check::check::check_formed` meets its contract.
use Rattle.plan_check.specs.Checking.{checks}
use Rattle.plan_check.proofs.check.check_formed.Goals as goal

pub layout-requires-2 : goal.layout-requires-2
layout-requires-2 c = search checks

pub list_borders-requires-clause-laid : goal.list_borders-requires-clause-laid
list_borders-requires-clause-laid c = search checks

pub list_borders-requires-clause-sound_network : goal.list_borders-requires-clause-sound_network
list_borders-requires-clause-sound_network c = search checks

pub check_tests-requires-clause-checkable : goal.check_tests-requires-clause-checkable
check_tests-requires-clause-checkable c = search checks

pub check_tests-requires-clause-listed : goal.check_tests-requires-clause-listed
check_tests-requires-clause-listed c = search checks
