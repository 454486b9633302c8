use Rattle.std.proofs.Common.{ℕ, length, arith, subst, sym}
use Rattle.std.proofs.lemmas.Grind.{common_steps}
use Rattle.lr_causes.specs.declared.cause.Cause.{Cause}
use Rattle.lr_causes.specs.Puts.{Puts}
use Rattle.lr_causes.proofs.Joining.{fails_after}
use Rattle.lr_cmd_downlinks.specs.Lines.{receipt_lines, last_line}
use Rattle.lr_cmd_downlinks.specs.Told.{TellsAll, receipted}
use Rattle.lr_cmd_downlinks.proofs.run.tell_all.Goals as goal

pub returns-in-Err-put_last : goal.returns-in-Err-put_last
returns-in-Err-put_last g c =
    let run = c.args.run.now in
    let streams = c.args.bundle.now in
    let put = subst (λ (n : ℕ). Puts g.O.Sink (receipt_lines run.base run.order n) c.args.out.now
    c.put_receipts.new.out) c.streams.ensures.count c.in_default.ensures.put in
    subst (λ (cause : Cause). TellsAll g.O.Sink (receipted streams run.base run.order) cause c.args.out.now
    c.put_last.new.out)
    (sym c.in-Err-put_last.ensures.cause)
    (fails_after g.O.Sink (receipt_lines run.base run.order (length streams)) (last_line streams run.order)
    c.args.out.now c.put_receipts.new.out c.put_last.new.out put c.in-Err-put_last.ensures.failed)

pub returns-in-Err : goal.returns-in-Err
returns-in-Err g c = grind (arith, common_steps)

pub returns-in-Ok : goal.returns-in-Ok
returns-in-Ok g c = grind (arith, common_steps)
