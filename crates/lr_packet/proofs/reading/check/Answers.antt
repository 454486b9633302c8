use Rattle.std.proofs.Common.{rules, arith}
use Rattle.std.proofs.lemmas.Grind.{common_steps}
use Rattle.lr_packet.proofs.reading.check.Goals as goal

pub returns-then-head-eq-IDLE_APPLICATION : goal.returns-then-head-eq-IDLE_APPLICATION
returns-then-head-eq-IDLE_APPLICATION c = search rules

pub invariant_of-result-clause-body_fits : goal.invariant_of-result-clause-body_fits
invariant_of-result-clause-body_fits c = search rules

pub returns : goal.returns
returns c = grind (arith, common_steps)
