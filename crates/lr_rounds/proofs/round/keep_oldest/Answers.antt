use Rattle.std.proofs.Common.{◌-◌, refl}
use Rattle.lr_gate.specs.Seats.{cells_of, view_of}
use Rattle.lr_rounds.proofs.Left.{nothing_taken}
use Rattle.lr_rounds.proofs.Leading.{goes_on_same, goes_on_kept, fewer_kept, done_next, may_keep}
use Rattle.lr_rounds.proofs.round.keep_oldest.Goals as goal

pub keep-requires : goal.keep-requires
keep-requires g c =
    may_keep g.L.JobSource.terms c.args.gate.now c.requires.1 g.W.Work.gives
    c.in-Some.done
    (done_next g.W.Work.gives (cells_of c.args.gate.now) (view_of c.args.conductor.now) (view_of c.take.new.self)
    c.in-Some.done c.in-Some.ensures.some)

pub returns-in_default-clause-goes : goal.returns-in_default-clause-goes
returns-in_default-clause-goes g c = λ entry may.
    goes_on_same g.L.JobSource.terms c.args.gate.now may c.take.new.self
    c.args.traffic.now c.args.source.now c.take.ensures.mine
    (nothing_taken (cells_of c.args.gate.now) (view_of c.args.conductor.now) (view_of c.take.new.self)
    c.in_default.ensures.none).0 refl refl

pub returns-clause-goes : goal.returns-clause-goes
returns-clause-goes g c = λ entry may.
    goes_on_kept g.L.JobSource.terms c.args.gate.now may g.W.Work.gives
    c.in-Some.done
    c.take.new.self (record { waiting = c.args.traffic.now.waiting - 1; over = c.args.traffic.now.over })
    c.keep.new.self c.in-Some.ensures.some c.in_ok-keep.ensures.keeps refl refl c.take.ensures.mine

pub returns-clause-fewer : goal.returns-clause-fewer
returns-clause-fewer g c = λ did.
    fewer_kept g.L.JobSource.terms c.args.gate.now c.requires.1 g.W.Work.gives
    c.in-Some.done c.take.new.self
    (record { waiting = c.args.traffic.now.waiting - 1; over = c.args.traffic.now.over })
    c.keep.new.self c.in-Some.ensures.some c.in_ok-keep.ensures.keeps refl refl
