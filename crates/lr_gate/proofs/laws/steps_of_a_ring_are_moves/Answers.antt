use Rattle.lr_gate.proofs.Moving.{put_moves, claim_moves, finish_moves, take_moves, stop_moves}
use Rattle.lr_gate.proofs.laws.steps_of_a_ring_are_moves.Goals as goal

pub returns : goal.returns
returns g c = λ size s r. let f = g.W.Work.gives in let n = size.cells in let workers = size.workers in (
  put_moves f workers n s r,
  claim_moves f workers n s r,
  finish_moves f workers n s r,
  take_moves f workers n s r,
  stop_moves f workers n s r,
)
