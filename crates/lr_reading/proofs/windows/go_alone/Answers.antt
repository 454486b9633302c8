use Rattle.std.proofs.lemmas.Result.{err_from_is_err_and}
use Rattle.lr_reading.proofs.Beginning.{may_begin, begins}
use Rattle.lr_reading.proofs.WindowLeading.{comes_to_end, comes_to_stop}
use Rattle.lr_reading.proofs.windows.go_alone.Goals as goal

pub drive_alone-requires-clause-ready : goal.drive_alone-requires-clause-ready
drive_alone-requires-clause-ready g c κs within =
    begins g.S.Source g.C.Consumer c.args.job_source.now c.requires.fresh c.requires.few c.requires.ready

pub totals_of-requires : goal.totals_of-requires
totals_of-requires g c =
    (c.in_ok-drive_alone.ensures.all c.args.job_source.now (may_begin g.S.Source g.C.Consumer
    c.args.job_source.now c.requires.fresh c.requires.few c.requires.ready)).over

pub returns-in_err-drive_alone : goal.returns-in_err-drive_alone
returns-in_err-drive_alone g c =
    let p = err_from_is_err_and c.from_residual.result c.from_residual.ensures.1 in
    rw (p.1, p.2)
    (comes_to_stop g.S.Source g.C.Consumer _
    (c.in_err-drive_alone.ensures.stopped c.args.job_source.now
    (may_begin g.S.Source g.C.Consumer c.args.job_source.now c.requires.fresh c.requires.few c.requires.ready)))

pub returns : goal.returns
returns g c =
    comes_to_end g.S.Source g.C.Consumer
    (c.in_ok-drive_alone.ensures.all c.args.job_source.now (may_begin g.S.Source g.C.Consumer
    c.args.job_source.now c.requires.fresh c.requires.few c.requires.ready))
    c.totals_of.result c.totals_of.ensures.stop c.totals_of.ensures.symbols c.totals_of.ensures.frames
    c.totals_of.ensures.left
