use Rattle.std.proofs.Common.{refl, arith}
use Rattle.std.proofs.lemmas.Result.{err_from_is_err_and}
use Rattle.lr_gate.specs.Seats.{cells_of, view_of}
use Rattle.lr_rounds.proofs.Left.{helped}
use Rattle.lr_rounds.proofs.Leading.{goes_on_same, fewer_helped, ends_well}
use Rattle.lr_rounds.proofs.round.next_round.Goals as goal

pub refill-requires-clause-going : goal.refill-requires-clause-going
refill-requires-clause-going g c κs within =
    (c.requires.going.0, c.in_ok-keep_oldest.ensures.goes c.requires.going.0 c.requires.going.1)

pub returns-in_err-refill-clause-stops : goal.returns-in_err-refill-clause-stops
returns-in_err-refill-clause-stops g c = λ entry may.
    let stops = c.in_err-refill.ensures.stops entry (c.in_ok-keep_oldest.ensures.goes entry may) in
    let p = err_from_is_err_and c.from_residual-in_err-refill.result c.from_residual-in_err-refill.ensures.1 in
    rw (p.1, p.2) stops

pub returns-then-branch-clause-goes : goal.returns-then-branch-clause-goes
returns-then-branch-clause-goes g c = λ entry may.
    c.in_ok-refill.ensures.goes entry (c.in_ok-keep_oldest.ensures.goes entry may)

pub returns-then-branch-clause-fewer : goal.returns-then-branch-clause-fewer
returns-then-branch-clause-fewer g c = λ worked.
    let kept = c.in_ok-keep_oldest.ensures.fewer c.if-branch.true in
    omega (arith, kept, c.in_ok-refill.ensures.no_more)

pub returns-then-branch-2-clause-goes : goal.returns-then-branch-2-clause-goes
returns-then-branch-2-clause-goes g c = λ entry may.
    c.in_ok-put_next.ensures.goes entry (c.in_ok-keep_oldest.ensures.goes entry may)

pub returns-then-help-clause-goes : goal.returns-then-help-clause-goes
returns-then-help-clause-goes g c = λ entry may.
    goes_on_same g.L.JobSource.terms c.args.gate.now
    (c.in_ok-put_next.ensures.goes entry (c.in_ok-keep_oldest.ensures.goes entry may))
    c.help.new.self c.put_next.new.traffic c.put_next.new.source c.help.ensures.mine
    (helped (cells_of c.args.gate.now) (view_of c.put_next.new.conductor) (view_of c.help.new.self) c.help.result
    c.help.ensures.helps) refl refl

pub returns-then-help-clause-fewer : goal.returns-then-help-clause-fewer
returns-then-help-clause-fewer g c = λ did.
    fewer_helped g.L.JobSource.terms c.args.gate.now (c.in_ok-keep_oldest.ensures.none c.if-branch.false)
    (c.in_ok-put_next.ensures.none c.if-branch-2.false) (cells_of c.args.gate.now) c.help.new.self c.help.result
    c.help.ensures.helps c.if-help.true

pub returns-then-traffic-eq0-clause-goes : goal.returns-then-traffic-eq0-clause-goes
returns-then-traffic-eq0-clause-goes g c = λ entry may.
    ends_well g.L.JobSource.terms c.args.gate.now
    (c.in_ok-put_next.ensures.goes entry (c.in_ok-keep_oldest.ensures.goes entry may))
    c.if-traffic.true c.if-traffic-eq0.true

pub returns-clause-goes : goal.returns-clause-goes
returns-clause-goes g c = λ entry may.
    goes_on_same g.L.JobSource.terms c.args.gate.now
    (c.in_ok-put_next.ensures.goes entry (c.in_ok-keep_oldest.ensures.goes entry may))
    c.help.new.self c.put_next.new.traffic c.put_next.new.source c.help.ensures.mine
    (helped (cells_of c.args.gate.now) (view_of c.put_next.new.conductor) (view_of c.help.new.self) c.help.result
    c.help.ensures.helps) refl refl

pub keep_oldest-requires-after_bounds : goal.keep_oldest-requires-after_bounds
keep_oldest-requires-after_bounds g c κs within = c.requires.going

pub returns-clause-fewer : goal.returns-clause-fewer
returns-clause-fewer g c = λ worked. absurd (cc worked)
