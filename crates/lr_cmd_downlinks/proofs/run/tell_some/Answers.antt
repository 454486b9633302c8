use Rattle.std.proofs.Common.{refl}
use Rattle.lr_cmd_downlinks.proofs.run.tell_some.Goals as goal

pub returns-clause-same : goal.returns-clause-same
returns-clause-same g c = refl
