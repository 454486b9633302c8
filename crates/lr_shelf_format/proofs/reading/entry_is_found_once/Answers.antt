use Rattle.lr_shelf_format.proofs.WayLemmas.{found_once}
use Rattle.lr_shelf_format.proofs.reading.entry_is_found_once.Goals as goal

pub returns : goal.returns
returns c = found_once
