use Rattle.lr_laws.proofs.MarkedPlaces.{files_are_made}
use Rattle.lr_laws.proofs.mending.a_mark_names_the_fillers.Goals as goal

pub returns : goal.returns
returns c = files_are_made
