use Rattle.std.proofs.Common.{rules, arith}
use Rattle.lr_cmd_render.proofs.content.content_by.Goals as goal

pub returns-in-NoMemory-clause-refused : goal.returns-in-NoMemory-clause-refused
returns-in-NoMemory-clause-refused c = search (rules, arith)
