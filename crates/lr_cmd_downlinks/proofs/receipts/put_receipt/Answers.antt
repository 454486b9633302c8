use Rattle.std.proofs.Common.{arith, rules}
use Rattle.lr_cmd_downlinks.proofs.receipts.put_receipt.Goals as goal

pub returns-clause-put : goal.returns-clause-put
returns-clause-put g c = search (rules, arith)

pub returns-clause-failed : goal.returns-clause-failed
returns-clause-failed g c = search (rules, arith)
