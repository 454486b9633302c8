use Rattle.lr_shelf.proofs.EntryLemmas.{marked}
use Rattle.lr_shelf.proofs.walk.mark.Goals as goal

pub returns : goal.returns
returns c =
    marked c.args.entries.now.items c.args.number c.index.result.now c.requires c.index.ensures
