use Rattle.std.proofs.Common.{rules, arith}
use Rattle.lr_cmd_shelf.proofs.one_file.OneFileReadsFiles.gone_entry.Goals as goal

pub returns-clause-puts : goal.returns-clause-puts
returns-clause-puts g c = search (rules, arith)
