use Rattle.lr_redecode.proofs.Staying.{restored_stays, restored_whole}
use Rattle.lr_redecode.proofs.laws.restored_stays.Goals as goal

pub returns-clause-later : goal.returns-clause-later
returns-clause-later c = restored_stays

pub returns-clause-whole : goal.returns-clause-whole
returns-clause-whole c = restored_whole
