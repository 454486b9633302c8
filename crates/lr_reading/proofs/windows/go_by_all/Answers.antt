use Rattle.lr_reading.proofs.Beginning.{may_begin, begins}
use Rattle.lr_reading.proofs.WindowLeading.{comes_to_end, comes_to_undriven, comes_to_no_memory}
use Rattle.lr_reading.proofs.windows.go_by_all.Goals as goal

pub drive-requires-after_bounds : goal.drive-requires-after_bounds
drive-requires-after_bounds g c κs within =
    begins g.S.Source g.C.Consumer c.args.job_source.now c.requires.fresh c.requires.few c.requires.ready

pub totals_of-requires : goal.totals_of-requires
totals_of-requires g c =
    (c.in-Ok.ensures.all c.args.job_source.now (may_begin g.S.Source g.C.Consumer
    c.args.job_source.now c.requires.fresh c.requires.few c.requires.ready)).over

pub returns-in-Ok : goal.returns-in-Ok
returns-in-Ok g c =
    comes_to_end g.S.Source g.C.Consumer
    (c.in-Ok.ensures.all c.args.job_source.now (may_begin g.S.Source g.C.Consumer
    c.args.job_source.now c.requires.fresh c.requires.few c.requires.ready))
    c.totals_of.result c.totals_of.ensures.stop c.totals_of.ensures.symbols c.totals_of.ensures.frames
    c.totals_of.ensures.left

pub returns-in-Err-Stopped : goal.returns-in-Err-Stopped
returns-in-Err-Stopped g c =
    comes_to_undriven g.S.Source g.C.Consumer c.in-Err-Stopped.field-0
    c.in-Err-Stopped.cause c.in-Err-Stopped.field-0-is
    (c.in-Err-Stopped.ensures.undriven c.args.job_source.now (may_begin g.S.Source g.C.Consumer
    c.args.job_source.now c.requires.fresh c.requires.few c.requires.ready))

pub returns-in-Err-NoMemory : goal.returns-in-Err-NoMemory
returns-in-Err-NoMemory g c =
    comes_to_no_memory g.S.Source g.C.Consumer
    c.in-Err-NoMemory.field-0 c.no_memory.result c.in-Err-NoMemory.field-0-is
    (c.in-Err-NoMemory.ensures.undriven c.args.job_source.now (may_begin g.S.Source g.C.Consumer
    c.args.job_source.now c.requires.fresh c.requires.few c.requires.ready))
    c.no_memory.ensures
