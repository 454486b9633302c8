use Rattle.lr_shelf_format.proofs.SomeEntry.{some_found}
use Rattle.lr_shelf_format.proofs.reading.entry_is_found.Goals as goal

pub returns : goal.returns
returns c bytes entry fit = some_found bytes fit entry
