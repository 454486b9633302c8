use Rattle.std.proofs.Common.{subst, refl, Result, IfErr}
use Rattle.lr_shelf.specs.Load.{IsLoadRefusal}
use Rattle.lr_shelf.specs.declared.shelf.Shelf.{Shelf}
use Rattle.lr_shelf.specs.declared.error.ShelfError.{ShelfError}
use Rattle.lr_forms.specs.declared.forms.TheConstants.{MOST_BYTES as most_bytes}
use Rattle.lr_refusals.proofs.Answering.{given, refused}
use Rattle.lr_cmd_receive.proofs.Causing.{none_rose}
use Rattle.lr_cmd_receive.proofs.Trying.{not_loaded, stream_ends}
use Rattle.lr_cmd_receive.proofs.trial_run.shelve_stream.Goals as goal

pub returns-in-Err-clause-stopped : goal.returns-in-Err-clause-stopped
returns-in-Err-clause-stopped g c =
    let so = refused c.load.result c.shelf_answer.result c.shelf_answer.ensures c.in-Err.cause c.in-Err.is in
    rw so.2
    (not_loaded g.D.Disk c.args.symbols.items c.args.disk.now c.requires.empty c.load.new.disk c.load.result
    c.load.ensures so.0 so.1
    (subst (λ (r : Result Shelf ShelfError). IfErr r (IsLoadRefusal g.D.Disk c.args.disk.now))
    so.1 c.load.ensures.refused))

pub returns : goal.returns
returns g c =
    let ends =
    stream_ends g.D.Disk c.args.symbols.items c.args.disk.now c.requires.empty c.load.new.disk c.load.result
    c.load.ensures _ _ most_bytes c.requires.few c.in-Ok.shelf
    (given c.load.result c.shelf_answer.result c.shelf_answer.ensures c.in-Ok.shelf c.in-Ok.is)
    c.of-source.result c.receive_all.new.source tt c.of-source.ensures c.receive_all.new.disk c.new-lines.result
    c.receive_all.new.out c.requires.leads.0 c.receive_all.new.shelf c.receive_all.result
    (c.receive_all.ensures.all _ c.requires.leads.0 _ c.requires.leads.1)
    (c.receive_all.ensures.some _ c.requires.leads.0 _ c.requires.leads.1) none_rose c.requires.fit (λ x. refl) in
    record { line = ends.0; done = ends.1; stopped = ends.2 }
