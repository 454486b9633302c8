use Rattle.std.proofs.Common.{rules, arith}
use Rattle.lr_cmd_receive.proofs.withdrawal.is_first_gate_open.Goals as goal

pub returns-clause-gate : goal.returns-clause-gate
returns-clause-gate g c = search (rules, arith)
