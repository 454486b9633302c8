use Rattle.std.proofs.Common.{rules}
use Rattle.lr_workers.proofs.pool.conduct.Goals as goal

pub returns-clause-conducts : goal.returns-clause-conducts
returns-clause-conducts g c = search rules
