use Rattle.std.proofs.Common.{rules, arith}
use Rattle.lr_shelf.proofs.gate.gate_in.Goals as goal

pub returns-then-bytes-lt-GATE_BYTES-clause-gate : goal.returns-then-bytes-lt-GATE_BYTES-clause-gate
returns-then-bytes-lt-GATE_BYTES-clause-gate c = search (rules, arith)
