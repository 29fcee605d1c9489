-- `c_replies::trip::write_trip` meets its contract.
use Rattle.c_trip.specs.Writing.{replies}
use borrow.Author.Rules.{rules}
use Rattle.c_trip.proofs.trip.write_trip.Goals as goal

pub write_arrived-requires : goal.write_arrived-requires
write_arrived-requires c = (search replies, search replies, search rules)

pub returns-in-Ok-clause-code : goal.returns-in-Ok-clause-code
returns-in-Ok-clause-code c = search replies

pub returns-in-Ok-clause-bytes : goal.returns-in-Ok-clause-bytes
returns-in-Ok-clause-bytes c = search replies

pub returns-in-Err-clause-code : goal.returns-in-Err-clause-code
returns-in-Err-clause-code c = search replies

pub returns-in-Err-clause-bytes : goal.returns-in-Err-clause-bytes
returns-in-Err-clause-bytes c = search replies
