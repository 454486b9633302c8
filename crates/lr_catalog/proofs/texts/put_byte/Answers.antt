use Rattle.std.proofs.Common.{arith, rules}
use Rattle.lr_catalog.proofs.texts.put_byte.Goals as goal

pub returns-else-is_plain : goal.returns-else-is_plain
returns-else-is_plain c = search (rules, arith)
