use Rattle.lr_rice.proofs.ReadingLines.{faults_are_one}
use Rattle.lr_rice.proofs.laws.faults_are_one.Goals as goal

pub returns : goal.returns
returns c = faults_are_one
