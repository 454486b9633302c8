use Rattle.std.proofs.Common.{◌-◌, ◌≤◌}
use Rattle.lr_make.specs.Standing.{MakerStandsFor}
use Rattle.lr_make.specs.Stream.{frame_stream}
use Rattle.lr_causes.specs.Puts.{Puts}
use Rattle.lr_cmd_receive.proofs.test_stream.make_frames.Given as goal

abbrev pub invariant-frames : goal.invariant-frames
invariant-frames g l = record {
  stands : MakerStandsFor l.maker l.start 0 l.made;
  put : Puts g.O.Sink (frame_stream l.start l.made) l.fn.out l.out;
  few : l.made ≤ l.frames;
}

abbrev pub decreases-frames : goal.decreases-frames
decreases-frames g l = l.frames - l.made
