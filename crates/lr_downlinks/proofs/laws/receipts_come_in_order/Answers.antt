use Rattle.lr_downlinks.proofs.Listing.{are_receipts}
use Rattle.lr_downlinks.proofs.laws.receipts_come_in_order.Goals as goal

pub returns : goal.returns
returns c = are_receipts
