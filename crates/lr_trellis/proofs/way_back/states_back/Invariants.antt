use Rattle.std.proofs.Common.{◌≡◌, ◌+◌, ◌<◌}
use Rattle.lr_trellis.specs.Words.{decisions, state_back}
use Rattle.lr_trellis.proofs.way_back.states_back.Given as goal

abbrev pub invariant-loop-i : goal.invariant-loop-i
invariant-loop-i l = record {
  low_below : l.low < 64;
  high_below : l.high < 64;
  low_left : state_back (decisions l.words) l.first l.count l.fn.states.0 ≡
      state_back (decisions l.words) l.first l.i l.low;
  high_left : state_back (decisions l.words) (l.first + l.apart) l.count l.fn.states.1 ≡
      state_back (decisions l.words) (l.first + l.apart) l.i l.high;
}
