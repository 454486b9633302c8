use Rattle.lr_downlinks.proofs.Merging.{get-merge, length-merge}
use Rattle.lr_downlinks.proofs.laws.merges_keep_the_order.Goals as goal

pub returns : goal.returns
returns c count files order is = (length-merge count files order is, get-merge count files order is)
