use Rattle.std.proofs.Common.{rules, arith}
use Rattle.lr_uplink.proofs.packet.flags_of.Goals as goal

pub returns-else-index-bodies-clause-value : goal.returns-else-index-bodies-clause-value
returns-else-index-bodies-clause-value c = search (rules, arith)
