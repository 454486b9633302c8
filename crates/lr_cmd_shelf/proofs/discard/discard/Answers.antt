use Rattle.std.proofs.Common.{rules, ◌≡◌, ℕ, List, subst}
use Rattle.lr_catalog.specs.Discards.{discard_line}
use Rattle.lr_causes.specs.Puts.{Puts, PutFails}
use Rattle.lr_refusals.proofs.Answering.{error_is, given, refused, unrefused}
use Rattle.lr_cmd_shelf.specs.Discard.{discard_query}
use Rattle.lr_shelf.proofs.Loaded.{ready_loaded}
use Rattle.lr_cmd_shelf.proofs.AddingEnds.{not_loaded}
use Rattle.lr_cmd_shelf.proofs.Discarding.{not_begun, not_added, ok_from, told_line, cut_line, discard_once}
use Rattle.lr_cmd_shelf.proofs.discard.discard.Goals as goal

pub returns-in-Err : goal.returns-in-Err
returns-in-Err g c =
    rw c.from.ensures
    (not_begun g.D.Disk g.O.Sink c.args.number g.met.D.Disk.only_now c.args.disk.now
    (g.met.D.Disk.reads_none c.args.disk.now) c.args.out.now)

pub returns-in-Err-shelf_answer : goal.returns-in-Err-shelf_answer
returns-in-Err-shelf_answer g c =
    let so = refused c.load.result c.shelf_answer.result c.shelf_answer.ensures c.in-Err-shelf_answer.cause
    c.in-Err-shelf_answer.is in
    rw so.2
    (not_loaded g.D.Disk g.O.Sink (discard_query c.args.number) (discard_once c.args.number) c.args.disk.now
    c.load.new.disk c.args.out.now c.load.result so.0 c.load.ensures so.1)

pub returns-in-Err-shelf_answer-2 : goal.returns-in-Err-shelf_answer-2
returns-in-Err-shelf_answer-2 g c =
    let ready = ready_loaded g.D.Disk c.args.disk.now c.load.new.disk c.load.result c.in-Ok.shelf c.load.ensures
    (given c.load.result c.shelf_answer.result c.shelf_answer.ensures c.in-Ok.shelf c.in-Ok.is) in
    let so = refused c.discard.result c.shelf_answer-2.result c.shelf_answer-2.ensures c.in-Err-shelf_answer-2.cause
    c.in-Err-shelf_answer-2.is in
    rw so.2
    (not_added g.D.Disk g.O.Sink c.args.number c.args.disk.now c.load.new.disk c.discard.new.disk c.args.out.now
    c.in-Ok.shelf c.discard.new.self ready c.discard.result c.discard.ensures so.0
    so.1 (error_is _ c.discard.result so.0 so.1 c.discard.ensures.refused))

pub returns-in-Ok-put_text : goal.returns-in-Ok-put_text
returns-in-Ok-put_text g c =
    let ready = ready_loaded g.D.Disk c.args.disk.now c.load.new.disk c.load.result c.in-Ok.shelf c.load.ensures
    (given c.load.result c.shelf_answer.result c.shelf_answer.ensures c.in-Ok.shelf c.in-Ok.is) in
    let line : c.as_slice.result.now ≡ discard_line c.args.number = search rules in
    told_line g.D.Disk g.O.Sink c.args.number c.args.disk.now c.load.new.disk c.discard.new.disk c.args.out.now
    c.in-Ok.shelf c.discard.new.self ready c.discard.result c.discard.ensures
    (ok_from c.discard.result (unrefused c.discard.result c.shelf_answer-2.result c.shelf_answer-2.ensures
    c.in_default-shelf_answer.not-Err)) c.put_text.new.out
    (subst (λ (l : List ℕ). Puts g.O.Sink l c.args.out.now c.put_text.new.out) line c.in-Ok-put_text.ensures.put)

pub returns : goal.returns
returns g c =
    let ready = ready_loaded g.D.Disk c.args.disk.now c.load.new.disk c.load.result c.in-Ok.shelf c.load.ensures
    (given c.load.result c.shelf_answer.result c.shelf_answer.ensures c.in-Ok.shelf c.in-Ok.is) in
    let line : c.as_slice.result.now ≡ discard_line c.args.number = search rules in
    rw c.in-Err-put_text.ensures.cause
    (cut_line g.D.Disk g.O.Sink c.args.number c.args.disk.now c.load.new.disk c.discard.new.disk c.args.out.now
    c.in-Ok.shelf c.discard.new.self ready c.discard.result c.discard.ensures
    (ok_from c.discard.result (unrefused c.discard.result c.shelf_answer-2.result c.shelf_answer-2.ensures
    c.in_default-shelf_answer.not-Err)) c.put_text.new.out
    (subst (λ (l : List ℕ). PutFails g.O.Sink l c.args.out.now c.put_text.new.out) line
    c.in-Err-put_text.ensures.failed))
