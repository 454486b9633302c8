use Rattle.std.proofs.Common.{rules, arith}
use Rattle.lr_cmd_shelf.proofs.show.show_text.Goals as goal

pub returns : goal.returns
returns c = search (rules, arith)
