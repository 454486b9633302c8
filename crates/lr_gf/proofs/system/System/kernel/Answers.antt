use Rattle.std.proofs.Common.{◌≡◌, ℕ, List, false, subst}
use Rattle.lr_gf.specs.Systems.{entry, HasTrivialKernel}
use Rattle.lr_gf.proofs.system.System.kernel.Goals as goal

pub returns-clause-none : goal.returns-clause-none
returns-clause-none c =
    subst (λ (z : List (List ℕ)). c.kernel_of.result ≡ false
    → HasTrivialKernel c.args.rows c.args.columns (entry z)) c.self.view_is c.kernel_of.ensures.none
