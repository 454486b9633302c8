use Rattle.lr_shelf_format.proofs.WayLemmas.{has_one_way}
use Rattle.lr_shelf_format.proofs.reading.bytes_have_one_way.Goals as goal

pub returns : goal.returns
returns c = has_one_way
