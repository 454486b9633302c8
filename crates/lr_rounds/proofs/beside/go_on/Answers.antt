use Rattle.std.proofs.Common.{subst}
use Rattle.lr_rounds.specs.Rounds.{Goes}
use Rattle.lr_rounds.proofs.beside.go_on.Goals as goal

pub loop-preserved-in-Worked : goal.loop-preserved-in-Worked
loop-preserved-in-Worked g c = record {
  can = tt;
  ends = tt;
  going = subst (Goes g.L.JobSource.terms c.args.gate.now c.args.source.now _) c.in-Worked.is
      (c.in_ok-next_round.ensures.goes c.args.source.now c.loop.invariant.going);
}

pub loop-preserved : goal.loop-preserved
loop-preserved g c = record {
  can = tt;
  ends = tt;
  going = subst (Goes g.L.JobSource.terms c.args.gate.now c.args.source.now _) c.in-Waits.is
      (c.in_ok-next_round.ensures.goes c.args.source.now c.loop.invariant.going);
}

pub returns-in-Ended-clause-running : goal.returns-in-Ended-clause-running
returns-in-Ended-clause-running g c = record {
  mine = c.next_round.ensures.mine;
  running = c.next_round.ensures.running;
}

pub returns-in-Ended-clause-rounds : goal.returns-in-Ended-clause-rounds
returns-in-Ended-clause-rounds g c = record {
  all = subst (Goes g.L.JobSource.terms c.args.gate.now c.args.source.now _) c.in-Ended.is
      (c.in_ok-next_round.ensures.goes c.args.source.now c.loop.invariant.going);
  stops = λ start begins. tt;
}
