use Rattle.std.proofs.Common.{◌-◌, ◌≡◌, ◌≤◌, ◌<◌, ℕ}
use Rattle.lr_make.specs.Blocks.{block_at}
use Rattle.lr_make.specs.Frames.{frame_at}
use Rattle.lr_make.specs.Received.{IsReceivedAs}
use Rattle.lr_make.specs.Standing.{MakerStandsFor}
use Rattle.lr_make.specs.Stream.{symbol_stream}
use Rattle.lr_make.specs.Symbols.{bytes_of_symbols}
use Rattle.lr_cmd_receive.proofs.trial_run.stream.Given as goal

abbrev pub invariant-frames : goal.invariant-frames
invariant-frames l = record {
  stands : MakerStandsFor l.maker l.start l.wrong l.made;
  bytes : l.all.items ≡ bytes_of_symbols (symbol_stream l.start l.wrong l.made);
  received : (k : ℕ) → k < l.made → IsReceivedAs l.wrong (frame_at l.start k) (block_at l.start l.wrong k);
  few : l.made ≤ l.frames;
}

abbrev pub decreases-frames : goal.decreases-frames
decreases-frames l = l.frames - l.made
