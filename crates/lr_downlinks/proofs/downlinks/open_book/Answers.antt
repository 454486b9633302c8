use Rattle.lr_downlinks.proofs.Keeping.{keeps_begun}
use Rattle.lr_downlinks.proofs.downlinks.open_book.Goals as goal

pub invariant_of-result : goal.invariant_of-result
invariant_of-result g c =
    keeps_begun g.D.Disk g.met.D.Disk.only_now g.N.RunStart.start g.N.RunStart.handed c.args.shelf
    c.args.lent.disk.ghost_name c.args.lent.disk.now c.requires.working c.requires.begun c.requires.few c.args.order
    c.requires.none
