use Rattle.std.proofs.Common.{arith, rules}
use Rattle.lr_io.proofs.sink.write_and_flush.Goals as goal

pub returns-clause-errors : goal.returns-clause-errors
returns-clause-errors g c = search (rules, arith)

pub returns-clause-flushed : goal.returns-clause-flushed
returns-clause-flushed g c = search (rules, arith)
