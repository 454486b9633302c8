use Rattle.std.proofs.Common.{◌∙◌}
use Rattle.lr_gate.proofs.Rounds.{alone_helps}
use Rattle.lr_gate.proofs.gate.Conductor.help.Goals as goal

pub returns-clause-alone : goal.returns-clause-alone
returns-clause-alone g c =
    λ e. alone_helps c.args.gate.now.cells c.args.self.now.seat.me c.go_round.new.seat.me c.go_round.result
    (c.requires.mine.crew_is ∙ e) c.requires.mine.number c.go_round.ensures.rounds
