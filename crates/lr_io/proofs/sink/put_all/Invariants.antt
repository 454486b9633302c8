use Rattle.std.proofs.Common.{◌≡◌, length}
use Rattle.lr_bits.specs.Telling.{KeepsTelling}
use Rattle.lr_io.proofs.Putting.{PutSoFar}
use Rattle.lr_io.proofs.sink.put_all.Given as goal

abbrev pub invariant-loop-rest : goal.invariant-loop-rest
invariant-loop-rest g l =
    let sink = g.O.Sink in
    record {
      kept : sink.faults l.sink ≡ sink.faults l.fn.sink;
      tell : KeepsTelling (sink.tells l.fn.sink) (sink.tells l.sink);
      so_far : sink.tells l.fn.sink → PutSoFar (sink.contents l.fn.sink) (sink.contents l.sink) l.bytes l.rest;
    }

abbrev pub decreases-loop-rest : goal.decreases-loop-rest
decreases-loop-rest g l = length l.rest
