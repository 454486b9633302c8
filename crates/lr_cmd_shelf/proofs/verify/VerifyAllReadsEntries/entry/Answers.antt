use Rattle.std.proofs.Common.{Result, subst}
use Rattle.lr_shelf.specs.Calls.{IsFaultCounted}
use Rattle.lr_shelf.specs.declared.error.ShelfError.{ShelfError}
use Rattle.lr_refusals.proofs.Answering.{error_is, value_is}
use Rattle.lr_shelf.specs.Kept.{kept_by}
use Rattle.lr_cmd_shelf.specs.Verify.{verify_query}
use Rattle.lr_cmd_shelf.proofs.Filing.{get_stops, not_failed, shelf_counted}
use Rattle.lr_cmd_shelf.proofs.Texts.{on_ok, on_err}
use Rattle.lr_cmd_shelf.proofs.Verifying.{check_refusal, of_gone, of_refused, of_right, of_wrong, takes_right}
use Rattle.lr_cmd_shelf.proofs.Verifying.{stops_right, takes_wrong, stops_wrong, takes_gone, stops_gone}
use Rattle.lr_cmd_shelf.proofs.verify.VerifyAllReadsEntries.entry.Goals as goal

pub returns-in-Ok-Right-clause-takes : goal.returns-in-Ok-Right-clause-takes
returns-in-Ok-Right-clause-takes g c = λ read few is.
    let right = value_is _ c.check.result tt (of_right c.check.result c.in-Ok-Right.field-0 c.in-Ok-Right.field-0-is
    c.in-Ok-Right.ensures) c.check.ensures.file in
    on_ok c.put_check.result
    (takes_right g.D.Disk g.O.Sink (kept_by c.args.shelf.now) read c.args.number c.args.disk.now c.check.new.disk
    c.args.out.now c.put_check.new.out right c.args.sound.now is)
    c.put_check.ensures.put

pub returns-in-Ok-Right-clause-stops : goal.returns-in-Ok-Right-clause-stops
returns-in-Ok-Right-clause-stops g c = λ read is.
    let right = value_is _ c.check.result tt (of_right c.check.result c.in-Ok-Right.field-0 c.in-Ok-Right.field-0-is
    c.in-Ok-Right.ensures) c.check.ensures.file in
    on_err c.put_check.result
    (stops_right g.D.Disk g.O.Sink (kept_by c.args.shelf.now) read c.args.number c.args.disk.now c.check.new.disk
    c.args.out.now c.put_check.new.out right)
    c.put_check.ensures.stopped

pub returns-in-Ok-Wrong-clause-takes : goal.returns-in-Ok-Wrong-clause-takes
returns-in-Ok-Wrong-clause-takes g c = λ read few is.
    let wrong = error_is _ c.check.result _ (of_wrong c.check.result c.in-Ok-Wrong.field-0 c.in-Ok-Wrong.stored
    c.in-Ok-Wrong.computed c.in-Ok-Wrong.field-0-is c.in-Ok-Wrong.ensures) c.check.ensures.refused in
    on_ok c.put_check-in-Ok-Wrong.result
    (takes_wrong g.D.Disk g.O.Sink (kept_by c.args.shelf.now) read c.args.number c.args.disk.now c.check.new.disk
    c.args.out.now c.put_check-in-Ok-Wrong.new.out c.in-Ok-Wrong.stored c.in-Ok-Wrong.computed wrong)
    c.put_check-in-Ok-Wrong.ensures.put

pub returns-in-Ok-Wrong-clause-stops : goal.returns-in-Ok-Wrong-clause-stops
returns-in-Ok-Wrong-clause-stops g c = λ read is.
    let wrong = error_is _ c.check.result _ (of_wrong c.check.result c.in-Ok-Wrong.field-0 c.in-Ok-Wrong.stored
    c.in-Ok-Wrong.computed c.in-Ok-Wrong.field-0-is c.in-Ok-Wrong.ensures) c.check.ensures.refused in
    on_err c.put_check-in-Ok-Wrong.result
    (stops_wrong g.D.Disk g.O.Sink (kept_by c.args.shelf.now) read c.args.number c.args.disk.now c.check.new.disk
    c.args.out.now c.put_check-in-Ok-Wrong.new.out c.in-Ok-Wrong.stored c.in-Ok-Wrong.computed wrong)
    c.put_check-in-Ok-Wrong.ensures.stopped

pub returns-in-Ok-Gone-clause-takes : goal.returns-in-Ok-Gone-clause-takes
returns-in-Ok-Gone-clause-takes g c = λ read few is.
    let gone = error_is _ c.check.result _ (of_gone c.check.result c.in-Ok-Gone.field-0 c.in-Ok-Gone.field-0-is
    c.in-Ok-Gone.ensures) c.check.ensures.refused in
    on_ok c.put_gone.result
    (takes_gone g.D.Disk g.O.Sink (kept_by c.args.shelf.now) read c.args.number c.args.disk.now c.check.new.disk
    c.args.out.now c.put_gone.new.out gone c.args.sound.now is)
    c.put_gone.ensures.put

pub returns-in-Ok-Gone-clause-stops : goal.returns-in-Ok-Gone-clause-stops
returns-in-Ok-Gone-clause-stops g c = λ read is.
    let gone = error_is _ c.check.result _ (of_gone c.check.result c.in-Ok-Gone.field-0 c.in-Ok-Gone.field-0-is
    c.in-Ok-Gone.ensures) c.check.ensures.refused in
    on_err c.put_gone.result
    (stops_gone g.D.Disk g.O.Sink (kept_by c.args.shelf.now) read c.args.number c.args.disk.now c.check.new.disk
    c.args.out.now c.put_gone.new.out gone)
    c.put_gone.ensures.stopped

pub returns-in-Err-clause-counted : goal.returns-in-Err-clause-counted
returns-in-Err-clause-counted g c = λ read is.
    let so = of_refused c.check.result c.in-Err.cause c.in-Err.ensures in
    let kept = kept_by c.args.shelf.now in
    rw so.2
    (shelf_counted g.D.Disk g.O.Sink (Unit {0}) c.args.disk.now c.check.new.disk c.args.out.now so.0
    (not_failed g.D.Disk g.O.Sink kept c.args.number c.args.disk.now c.requires.working c.requires.there so.0
    (check_refusal g.D.Disk kept c.args.number c.args.disk.now so.0
    (error_is _ c.check.result so.0 so.1 c.check.ensures.refused)))
    (subst (λ (r : Result (Unit {0}) ShelfError). IsFaultCounted (g.D.Disk.faults c.args.disk.now)
    (g.D.Disk.faults c.check.new.disk) r) so.1 c.check.ensures.reads.calls.counted))

pub returns-in-Err-clause-stops : goal.returns-in-Err-clause-stops
returns-in-Err-clause-stops g c = λ read is.
    let so = of_refused c.check.result c.in-Err.cause c.in-Err.ensures in
    let kept = kept_by c.args.shelf.now in
    rw so.2
    (get_stops g.D.Disk g.O.Sink kept c.args.number c.args.disk.now c.requires.working c.requires.there verify_query
    read c.check.new.disk c.args.out.now so.0
    (λ stored computed same. absurd (so.3 stored computed same))
    so.4 (check_refusal g.D.Disk kept c.args.number c.args.disk.now so.0
    (error_is _ c.check.result so.0 so.1 c.check.ensures.refused)))
