-- How far `frames` has come. No clause of a public call cites this.
use Rattle.std.specs.Prelude.{◌≡◌, List, length}
use Rattle.lr_io.specs.declared.sink.Sink.{Ghosts as SinkOf}
use Rattle.lr_causes.specs.declared.cause.Cause.{Cause}
use Rattle.lr_causes.specs.Puts.{Puts}
use Rattle.lr_reading.specs.declared.arrival.Arrival.{Arrival}
use Rattle.lr_cmd_print.specs.declared.frame_lines.FrameLines.{FrameLines}
use Rattle.lr_cmd_print.specs.FrameLines.{text_of_frames}
use Rattle.lr_cmd_print.specs.Progress.{LinesStop, PutsButLast}

module _ {O : Type 0} (out : SinkOf O) where
  -- the lines of these frames were put
  pub record FramesTook (before : FrameLines O) (arrivals : List Arrival)
      (now : FrameLines O) : Type 0 where
    pub same_out : now.out.ghost_name ≡ before.out.ghost_name
    pub count : now.frames ≡ length arrivals
    pub put : Puts out (text_of_frames arrivals) before.out.now now.out.now

  -- they were not all put
  pub record FramesStopped (before : FrameLines O) (arrivals : List Arrival)
      (cause : Cause) (now : FrameLines O) : Type 0 where
    pub same_out : now.out.ghost_name ≡ before.out.ghost_name
    pub stops : LinesStop out (text_of_frames arrivals) cause before.out.now now.out.now
    pub others : PutsButLast out text_of_frames arrivals before.out.now now.out.now
