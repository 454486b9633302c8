use Rattle.lr_downlinks.proofs.Merging.{each_receipt, places_differ}
use Rattle.lr_downlinks.proofs.laws.each_file_has_a_receipt.Goals as goal

pub returns : goal.returns
returns c base order = (each_receipt base order, places_differ order)
