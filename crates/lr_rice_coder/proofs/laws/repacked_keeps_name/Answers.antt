use Rattle.lr_rice_coder.proofs.NewImages.{repacked_keeps_name}
use Rattle.lr_rice_coder.proofs.laws.repacked_keeps_name.Goals as goal

pub returns : goal.returns
returns c = repacked_keeps_name
