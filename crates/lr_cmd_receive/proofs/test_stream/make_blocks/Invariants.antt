use Rattle.std.proofs.Common.{◌-◌, ◌≤◌}
use Rattle.lr_make.specs.Standing.{MakerStandsFor}
use Rattle.lr_make.specs.Stream.{block_stream}
use Rattle.lr_causes.specs.Puts.{Puts}
use Rattle.lr_cmd_receive.proofs.test_stream.make_blocks.Given as goal

abbrev pub invariant-frames : goal.invariant-frames
invariant-frames g l = record {
  stands : MakerStandsFor l.maker l.start l.wrong l.made;
  put : Puts g.O.Sink (block_stream l.start l.wrong l.made) l.fn.out l.out;
  few : l.made ≤ l.frames;
}

abbrev pub decreases-frames : goal.decreases-frames
decreases-frames g l = l.frames - l.made
