use Rattle.std.proofs.Common.{subst}
use Rattle.lr_rounds.specs.Rounds.{Goes}
use Rattle.lr_rounds.proofs.alone.go_alone.Goals as goal

pub rounds-preserved : goal.rounds-preserved
rounds-preserved g c = subst (Goes g.L.JobSource.terms c.args.gate.now c.args.source.now _) c.in-Worked.is
    (c.in_ok-next_round.ensures.goes c.args.source.now c.rounds.invariant)

pub returns-in-Ended-clause-all : goal.returns-in-Ended-clause-all
returns-in-Ended-clause-all g c =
    subst (Goes g.L.JobSource.terms c.args.gate.now c.args.source.now _) c.in-Ended.is
    (c.in_ok-next_round.ensures.goes c.args.source.now c.rounds.invariant)
