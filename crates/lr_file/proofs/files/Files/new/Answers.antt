use Rattle.std.proofs.Common.{refl}
use Rattle.lr_file.proofs.Histories.{stands_new}
use Rattle.lr_file.proofs.files.Files.new.Goals as goal

pub returns : goal.returns
returns c = stands_new _ refl c.new.ensures.empty c.new.ensures.ordered
