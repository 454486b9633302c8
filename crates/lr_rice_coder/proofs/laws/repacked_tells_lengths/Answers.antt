use Rattle.lr_rice_coder.proofs.NewImages.{repacked_tells_lengths}
use Rattle.lr_rice_coder.proofs.laws.repacked_tells_lengths.Goals as goal

pub returns : goal.returns
returns c = repacked_tells_lengths
