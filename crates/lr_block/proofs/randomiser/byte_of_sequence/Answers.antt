use Rattle.lr_block.proofs.Sequence.{table-is}
use Rattle.lr_block.proofs.randomiser.byte_of_sequence.Goals as goal

pub returns : goal.returns
returns c = table-is c.args.i
