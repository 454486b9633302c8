use Rattle.std.proofs.Common.{rules}
use Rattle.lr_rounds.proofs.beside.drive.Goals as goal

pub drive_alone-requires-clause-alone : goal.drive_alone-requires-clause-alone
drive_alone-requires-clause-alone g c κs within = search rules
