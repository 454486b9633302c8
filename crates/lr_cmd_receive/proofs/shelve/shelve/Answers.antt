use Rattle.std.proofs.Common.{rules, ◌≡◌, ◌∷◌, [], ℕ, Result, subst}
use Rattle.std.proofs.lemmas.Result.{err_from_is_err_and}
use Rattle.lr_shelf.specs.Append.{Appends}
use Rattle.lr_shelf.specs.Kept.{shelf_on}
use Rattle.lr_shelf.specs.declared.error.ShelfError.{ShelfError}
use Rattle.lr_refusals.proofs.Answering.{given, refused}
use Rattle.lr_cmd_receive.specs.Noted.{noted_file}
use Rattle.lr_cmd_receive.specs.Shelving.{line_with}
use Rattle.lr_causes.specs.declared.cause.Cause.TheVariants.{Failed}
use Rattle.lr_causes.specs.declared.cause.Party.TheVariants.{Output}
use Rattle.lr_causes.proofs.Results.{if_ok_on, if_err_one}
use Rattle.lr_cmd_receive.specs.Shelved.{StopsShelving, shelf_in}
use Rattle.lr_cmd_receive.proofs.ShelvingOne.{no_line, one_cut, one_refused, one_shelved}
use Rattle.lr_causes.specs.Outside.{outlets, outlets_of}
use Rattle.lr_cmd_receive.proofs.shelve.shelve.Goals as goal

pub returns-in_err-noted_line-clause-stopped : goal.returns-in_err-noted_line-clause-stopped
returns-in_err-noted_line-clause-stopped g c =
    let p = err_from_is_err_and c.from_residual.result c.from_residual.ensures.1 in
    rw (p.1, p.2)
    (no_line (outlets_of g.D.Disk g.O.Sink) (noted_file c.args.placed.now c.args.fillers ∷ []) c.args.shelf.now
    (outlets c.args.disk.now c.args.out.now))

pub returns-in-Err-clause-stopped : goal.returns-in-Err-clause-stopped
returns-in-Err-clause-stopped g c =
    let so = refused c.append.result c.shelf_answer.result c.shelf_answer.ensures c.in-Err.cause c.in-Err.is in
    rw so.2
    (one_refused g.D.Disk g.met.D.Disk.leaves_contents g.met.D.Disk.counts_now g.O.Sink c.args.placed.now
    c.is_item.ensures c.args.fillers c.args.shelf.now c.append.new.self c.args.disk.now
    c.append.new.disk
    c.args.out.now so.0
    (subst (λ (r : Result ℕ ShelfError). Appends g.D.Disk c.args.placed.now
    (shelf_on c.args.shelf.now c.args.disk.now) (shelf_on c.append.new.self c.append.new.disk) r) so.1
    c.append.ensures))

pub returns-clause-shelved : goal.returns-clause-shelved
returns-clause-shelved g c =
    let is : c.as_slice.result.now ≡ line_with c.len.result c.args.placed.now.file c.args.fillers = search rules in
    if_ok_on c.put_text.result c.put_text.ensures.put
    (one_shelved g.D.Disk g.met.D.Disk.leaves_contents g.met.D.Disk.counts_now g.O.Sink c.args.placed.now
    c.is_item.ensures c.args.fillers c.args.shelf.now c.append.new.self c.args.disk.now
    c.append.new.disk c.args.out.now _
    (subst (λ (r : Result ℕ ShelfError). Appends g.D.Disk c.args.placed.now
    (shelf_on c.args.shelf.now c.args.disk.now) (shelf_on c.append.new.self c.append.new.disk) r)
    (given c.append.result c.shelf_answer.result c.shelf_answer.ensures _ c.in-Ok.is) c.append.ensures)
    c.len.result c.as_slice.result.now c.len.ensures is c.put_text.new.out)

pub returns-clause-stopped : goal.returns-clause-stopped
returns-clause-stopped g c =
    let is : c.as_slice.result.now ≡ line_with c.len.result c.args.placed.now.file c.args.fillers = search rules in
    if_err_one (λ cause. StopsShelving (outlets_of g.D.Disk g.O.Sink) cause
    (noted_file c.args.placed.now c.args.fillers ∷ [])
    (shelf_in c.args.shelf.now (outlets c.args.disk.now c.args.out.now))
    (outlets c.append.new.disk c.put_text.new.out)) (Failed Output) c.put_text.result
    c.put_text.ensures.cause c.put_text.ensures.failed
    (one_cut g.D.Disk g.met.D.Disk.leaves_contents g.met.D.Disk.counts_now g.O.Sink c.args.placed.now
    c.is_item.ensures c.args.fillers c.args.shelf.now c.append.new.self c.args.disk.now
    c.append.new.disk c.args.out.now _
    (subst (λ (r : Result ℕ ShelfError). Appends g.D.Disk c.args.placed.now
    (shelf_on c.args.shelf.now c.args.disk.now) (shelf_on c.append.new.self c.append.new.disk) r)
    (given c.append.result c.shelf_answer.result c.shelf_answer.ensures _ c.in-Ok.is) c.append.ensures)
    c.len.result c.as_slice.result.now c.len.ensures is c.put_text.new.out)
