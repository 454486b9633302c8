use Rattle.std.proofs.Common.{◌≡◌, rules}
use Rattle.lr_cmd_receive.specs.Noted.{noted_with}
use Rattle.lr_cmd_receive.specs.Shelved.{AddsNotedFiles, one_more}
use Rattle.std.proofs.lemmas.Result.{err_from_is_err_and}
use Rattle.lr_cmd_receive.proofs.Pieces.{gained, gained_some, gained_none}
use Rattle.lr_causes.specs.Outside.{outlets, outlets_of}
use Rattle.lr_cmd_receive.proofs.shelve.shelve_outcome.Goals as goal

pub returns-in_err-take_files-clause-stopped : goal.returns-in_err-take_files-clause-stopped
returns-in_err-take_files-clause-stopped g c mend outcomes stands whole =
    let p = err_from_is_err_and c.from_residual.result c.from_residual.ensures.1 in
    rw (p.1, p.2)
    (gained_none (outlets_of g.D.Disk g.O.Sink) mend outcomes c.args.outcome.now c.args.layers.now
    stands whole c.args.shelf.now (outlets c.args.disk.now c.args.out.now))

pub returns-clause-gained : goal.returns-clause-gained
returns-clause-gained g c mend outcomes stands =
    let files : c.deref.result.now ≡ c.take_files.new.ended.files.items = search rules in
    let fillers : c.deref-2.result.now ≡ c.take_files.new.ended.fillers.items = search rules in
    let adds : AddsNotedFiles (one_more mend outcomes c.args.outcome.now)
    (noted_with c.deref.result.now c.deref-2.result.now) =
    rw (files, fillers) (c.in_ok-take_files.ensures.adds mend outcomes stands) in
    gained (outlets_of g.D.Disk g.O.Sink) mend outcomes c.args.outcome.now
    (noted_with c.deref.result.now c.deref-2.result.now) adds c.args.shelf.now
    (outlets c.args.disk.now c.args.out.now) (outlets c.shelve_all.new.disk c.shelve_all.new.out)
    c.shelve_all.new.shelf c.shelve_all.result c.shelve_all.ensures.shelved

pub returns-clause-stopped : goal.returns-clause-stopped
returns-clause-stopped g c mend outcomes stands whole =
    let files : c.deref.result.now ≡ c.take_files.new.ended.files.items = search rules in
    let fillers : c.deref-2.result.now ≡ c.take_files.new.ended.fillers.items = search rules in
    let adds : AddsNotedFiles (one_more mend outcomes c.args.outcome.now)
    (noted_with c.deref.result.now c.deref-2.result.now) =
    rw (files, fillers) (c.in_ok-take_files.ensures.adds mend outcomes stands) in
    gained_some (outlets_of g.D.Disk g.O.Sink) mend outcomes c.args.outcome.now
    (noted_with c.deref.result.now c.deref-2.result.now) adds c.args.shelf.now
    (outlets c.args.disk.now c.args.out.now) (outlets c.shelve_all.new.disk c.shelve_all.new.out)
    c.shelve_all.result c.shelve_all.ensures.stopped
