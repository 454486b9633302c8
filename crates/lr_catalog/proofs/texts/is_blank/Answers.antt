use Rattle.std.proofs.Common.{arith, rules}
use Rattle.lr_catalog.proofs.texts.is_blank.Goals as goal

pub returns-then-byte-eq0 : goal.returns-then-byte-eq0
returns-then-byte-eq0 c = search (rules, arith)

pub returns-else-byte-eq0 : goal.returns-else-byte-eq0
returns-else-byte-eq0 c = search (rules, arith)
