use Rattle.lr_shelf_format.proofs.WayLemmas.{has_way}
use Rattle.lr_shelf_format.proofs.reading.shelf_has_its_way.Goals as goal

pub returns : goal.returns
returns c = has_way
