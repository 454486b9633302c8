use Rattle.std.proofs.Common.{◌*◌}
use Rattle.lr_trellis.specs.Words.{decisions}
use Rattle.lr_trellis.proofs.ReadBack.{StillRead}
use Rattle.lr_trellis.proofs.way_back.halves_back.Given as goal

abbrev pub invariant-loop-k : goal.invariant-loop-k
invariant-loop-k l = record {
  in_low : StillRead l.line (decisions l.words) 0 l.fn.states.0 l.k l.states.0 l.low;
  in_high : StillRead l.line (decisions l.words) (8 * l.half) l.fn.states.1 l.k l.states.1 l.high;
}
