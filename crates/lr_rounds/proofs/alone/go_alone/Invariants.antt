use Rattle.lr_rounds.specs.Rounds.{MayGoOn, round_state, rounds_left}
use Rattle.lr_rounds.proofs.alone.go_alone.Given as goal

abbrev pub invariant-rounds : goal.invariant-rounds
invariant-rounds g l =
    MayGoOn g.L.JobSource.terms l.gate l.fn.source (round_state l.conductor l.traffic l.source)

abbrev pub decreases-rounds : goal.decreases-rounds
decreases-rounds g l = rounds_left g.L.JobSource.terms (round_state l.conductor l.traffic l.source)
