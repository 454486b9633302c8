use Rattle.std.proofs.Common.{arith, rules}
use Rattle.lr_vc.proofs.channel.is_next.Goals as goal

pub returns-in-Some : goal.returns-in-Some
returns-in-Some c = search (rules, arith)
