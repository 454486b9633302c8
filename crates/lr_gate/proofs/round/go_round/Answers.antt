use Rattle.std.proofs.Common.{mod-lt}
use Rattle.lr_gate.proofs.Rounds.{goes_on}
use Rattle.lr_gate.proofs.round.go_round.Goals as goal

pub returns-clause-rounds : goal.returns-clause-rounds
returns-clause-rounds g c =
    goes_on c.args.gate.now.cells c.args.seat.now.me c.go_between.new.seat.me c.go_between-2.new.seat.me _
    c.go_between-2.result (mod-lt c.args.start.now c.args.gate.now.sized.some_cell) c.if-go_between.ensures.goes
    c.go_between-2.ensures.goes
