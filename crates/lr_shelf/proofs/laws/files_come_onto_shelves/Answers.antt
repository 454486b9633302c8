use Rattle.lr_shelf.proofs.OnShelves.{files_come_onto_shelves}
use Rattle.lr_shelf.proofs.laws.files_come_onto_shelves.Goals as goal

pub returns : goal.returns
returns c = files_come_onto_shelves
