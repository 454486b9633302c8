use Rattle.std.proofs.Common.{arith, ap, ◌∙◌}
use Rattle.lr_gf.specs.Dual.{dual_of}
use Rattle.lr_gf.proofs.DualLaws.{from-is, dual-conventional}
use Rattle.lr_gf.proofs.dual.from_dual.Goals as goal

pub returns-clause-from : goal.returns-clause-from
returns-clause-from c = from-is c.args.byte (omega arith)

pub returns-clause-back : goal.returns-clause-back
returns-clause-back c = ap dual_of (from-is c.args.byte (omega arith)) ∙ dual-conventional c.args.byte (omega arith)
