use Rattle.std.proofs.Common.{arith, rules}
use Rattle.lr_io.proofs.sink.WriteSinkSink.put.Goals as goal

pub returns-in-Ok-clause-some : goal.returns-in-Ok-clause-some
returns-in-Ok-clause-some g c = search (rules, arith)

pub returns-in-Ok-clause-appended : goal.returns-in-Ok-clause-appended
returns-in-Ok-clause-appended g c = search (rules, arith)
