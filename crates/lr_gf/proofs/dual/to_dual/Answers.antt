use Rattle.std.proofs.Common.{arith, ap, ◌∙◌}
use Rattle.lr_gf.specs.Dual.{conventional_of}
use Rattle.lr_gf.proofs.DualLaws.{to-is, conventional-dual}
use Rattle.lr_gf.proofs.dual.to_dual.Goals as goal

pub returns-clause-to : goal.returns-clause-to
returns-clause-to c = to-is c.args.byte (omega arith)

pub returns-clause-back : goal.returns-clause-back
returns-clause-back c = ap conventional_of (to-is c.args.byte (omega arith))
    ∙ conventional-dual c.args.byte (omega arith)
