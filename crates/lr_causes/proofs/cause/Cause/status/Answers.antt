use Rattle.std.proofs.Common.{rules, arith}
use Rattle.lr_causes.proofs.cause.Cause.status.Goals as goal

pub returns-in-Refused-NoSuchFile : goal.returns-in-Refused-NoSuchFile
returns-in-Refused-NoSuchFile c = search (rules, arith)
