use Rattle.std.proofs.Common.{ap, arith}
use Rattle.lr_gate.proofs.Claims.{looks_go}
use Rattle.lr_gate.proofs.Rounds.{turn_works, turn_reads}
use Rattle.lr_gate.proofs.gate.WorkerSeat.turn.Goals as goal

pub load-requires : goal.load-requires
load-requires g c = let mine = c.requires.mine in let size = c.args.gate.now.sized in
    (mine.table, omega (arith, size.words), looks_go _ _ _ _ _ _ _ mine.live (omega (arith, size.cells_are)))

pub returns-then-go_round-clause-turns : goal.returns-then-go_round-clause-turns
returns-then-go_round-clause-turns g c =
    turn_works c.args.gate.now.cells c.args.self.now.seat.me c.load.new.seat.me c.go_round.new.seat.me _
    c.load.ensures.2.0 c.if-go_round.ensures.rounds

pub returns-else-go_round-clause-turns : goal.returns-else-go_round-clause-turns
returns-else-go_round-clause-turns g c =
    turn_reads c.args.gate.now.cells c.args.self.now.seat.me c.load.new.seat.me c.go_round.new.seat.me _
    c.load.ensures.2.0 c.if-go_round.ensures.rounds

pub returns-then-load-ne0-clause-turns : goal.returns-then-load-ne0-clause-turns
returns-then-load-ne0-clause-turns g c =
    (c.load.result, ap (λ m. m.0) c.load.ensures.2.0, c.if-load-ne0.true)
