use Rattle.std.proofs.Common.{◌≡◌, sym, ap, ◌∙◌, subst}
use Rattle.lr_shelf_format.specs.Record.{IsHead, head_of}
use Rattle.lr_shelf_format.proofs.ItemLemmas.{begun_old, head_of-take}
use Rattle.lr_shelf_format.proofs.item.read_old.Goals as goal

pub returns-in-None-clause-none : goal.returns-in-None-clause-none
returns-in-None-clause-none c head begins =
    let same : head_of c.copy_from_slice.new.self ≡ head_of c.args.bytes.now =
    ap head_of c.copy_from_slice.ensures.after ∙ head_of-take c.args.bytes.now in
    c.in-None.ensures (subst IsHead (sym same)
    (begun_old c.args.bytes.now head begins c.requires.add c.requires.discard))
