use Rattle.std.proofs.Common.{rules, arith}
use Rattle.lr_causes.proofs.fault.ExportFault.word.Goals as goal

pub returns-in-Short : goal.returns-in-Short
returns-in-Short c = search (rules, arith)
