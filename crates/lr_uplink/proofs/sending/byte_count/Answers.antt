use Rattle.std.proofs.Common.{arith}
use Rattle.std.proofs.lemmas.List.{get_or_default}
use Rattle.lr_uplink.proofs.sending.byte_count.Goals as goal

pub returns-clause-fit : goal.returns-clause-fit
returns-clause-fit c = λ k d inside. omega (arith, c.type_inv.bytes k, get_or_default c.args.bytes.now k d 0 inside)
