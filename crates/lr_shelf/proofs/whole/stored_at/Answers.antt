use Rattle.std.proofs.Common.{rules, arith}
use Rattle.lr_shelf.proofs.whole.stored_at.Goals as goal

pub stored_in-requires-clause-right : goal.stored_in-requires-clause-right
stored_in-requires-clause-right g c = search (rules, arith)

pub returns-clause-stored : goal.returns-clause-stored
returns-clause-stored g c = search (rules, arith)

pub returns-in_err-stored_in-clause-refused : goal.returns-in_err-stored_in-clause-refused
returns-in_err-stored_in-clause-refused g c = search (rules, arith)
