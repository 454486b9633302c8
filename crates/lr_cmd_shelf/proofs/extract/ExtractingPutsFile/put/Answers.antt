use Rattle.std.proofs.Common.{rules, arith}
use Rattle.lr_cmd_shelf.proofs.extract.ExtractingPutsFile.put.Goals as goal

pub returns-clause-puts : goal.returns-clause-puts
returns-clause-puts g c = search (rules, arith)

pub returns-clause-stops : goal.returns-clause-stops
returns-clause-stops g c = search (rules, arith)
