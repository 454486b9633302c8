use Rattle.std.proofs.Common.{◌≡◌, drop, sym, ap, ◌∙◌, subst}
use Rattle.lr_shelf_format.specs.Record.{IsHead, head_of}
use Rattle.lr_shelf_format.proofs.ItemLemmas.{begun_add, head_of-take}
use Rattle.lr_shelf_format.proofs.item.read_add.Goals as goal

pub returns-in-None-clause-none : goal.returns-in-None-clause-none
returns-in-None-clause-none c head begins =
    let same : head_of c.copy_from_slice.new.self ≡ head_of (drop 1 c.args.bytes.now) =
    ap head_of c.copy_from_slice.ensures.after ∙ head_of-take (drop 1 c.args.bytes.now) in
    c.in-None.ensures (subst IsHead (sym same) (begun_add c.args.bytes.now head begins c.requires))
