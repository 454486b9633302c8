use Rattle.std.proofs.Common.{◌+◌, refl}
use Rattle.lr_rounds.specs.declared.job_source.NextJob.TheVariants.{Job, NotYet, Finished}
use Rattle.lr_rounds.proofs.Leading.{offered, may_give, few_put, goes_on_put, fewer_put, goes_on_later, goes_on_over}
use Rattle.lr_rounds.proofs.Leading.{fewer_over}
use Rattle.lr_rounds.proofs.round.put_next.Goals as goal

pub next-requires : goal.next-requires
next-requires g c = may_give g.L.JobSource.terms c.args.gate.now c.requires.going.1

pub put-requires-clause-few : goal.put-requires-clause-few
put-requires-clause-few g c κs within =
    few_put g.L.JobSource.terms c.args.gate.now c.requires.going.1 c.in-Job.job c.next.new.self
    (offered g.L.JobSource.terms c.args.source.now c.next.new.self c.in_ok-job.field-0
    (Job c.in-Job.job) c.in-Job.is c.in_ok-job.ensures.gives)

pub returns-in-Ok-clause-goes : goal.returns-in-Ok-clause-goes
returns-in-Ok-clause-goes g c = λ entry may.
    goes_on_put g.L.JobSource.terms c.args.gate.now may c.in-Job.job c.next.new.self
    (offered g.L.JobSource.terms c.args.source.now c.next.new.self c.in_ok-job.field-0
    (Job c.in-Job.job) c.in-Job.is c.in_ok-job.ensures.gives)
    c.put.new.self (record { waiting = c.args.traffic.now.waiting + 1; over = c.args.traffic.now.over })
    c.in-Ok.ensures.put refl refl c.if-traffic.false c.put.ensures.mine

pub returns-in-Ok-clause-fewer : goal.returns-in-Ok-clause-fewer
returns-in-Ok-clause-fewer g c = λ did.
    fewer_put g.L.JobSource.terms c.args.gate.now c.requires.going.1 c.in-Job.job c.next.new.self
    (offered g.L.JobSource.terms c.args.source.now c.next.new.self c.in_ok-job.field-0
    (Job c.in-Job.job) c.in-Job.is c.in_ok-job.ensures.gives)
    c.put.new.self (record { waiting = c.args.traffic.now.waiting + 1; over = c.args.traffic.now.over })
    c.in-Ok.ensures.put refl refl c.if-traffic.false

pub returns-in-NotYet-clause-goes : goal.returns-in-NotYet-clause-goes
returns-in-NotYet-clause-goes g c = λ entry may.
    goes_on_later g.L.JobSource.terms c.args.gate.now may c.next.new.self
    (λ so_far so. (offered g.L.JobSource.terms c.args.source.now c.next.new.self c.in_ok-job.field-0
    NotYet c.in-NotYet.is c.in_ok-job.ensures.gives so_far so).0)
    c.if-traffic.false

pub returns-in-Finished-clause-goes : goal.returns-in-Finished-clause-goes
returns-in-Finished-clause-goes g c = λ entry may.
    let over = offered g.L.JobSource.terms c.args.source.now c.next.new.self
    c.in_ok-job.field-0 Finished c.in-Finished.is c.in_ok-job.ensures.gives in
    goes_on_over g.L.JobSource.terms c.args.gate.now may c.next.new.self
    (λ so_far so. (over so_far so).0) (over _ (may.led_on may.ready.0 may.ready.1)).1

pub returns-in-Finished-clause-fewer : goal.returns-in-Finished-clause-fewer
returns-in-Finished-clause-fewer g c = λ did.
    fewer_over g.L.JobSource.terms c.args.gate.now c.requires.going.1 c.next.new.self
    (λ so_far so. (offered g.L.JobSource.terms c.args.source.now c.next.new.self c.in_ok-job.field-0
    Finished c.in-Finished.is c.in_ok-job.ensures.gives so_far so).0)
    c.if-traffic.false
