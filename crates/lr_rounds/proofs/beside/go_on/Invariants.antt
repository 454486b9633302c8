use Rattle.lr_rounds.specs.Rounds.{MayGoOn, round_state}
use Rattle.lr_rounds.proofs.beside.go_on.Given as goal

abbrev pub invariant-loop : goal.invariant-loop
invariant-loop g l = record {
  can : (goal.iterator-loop g).can_next l.iterator';
  ends : (goal.iterator-loop g).is_finite l.iterator';
  going : MayGoOn g.L.JobSource.terms l.gate l.fn.source (round_state l.conductor l.traffic l.source);
}
