use Rattle.std.proofs.Common.{ℕ, List}
use Rattle.lr_bits.specs.File.{File}
use Rattle.lr_conv.specs.declared.line.LineCode.{LineCode}
use Rattle.lr_cmd_transmit.specs.Standing.{IsUplinkAt}
use Rattle.lr_cmd_transmit.proofs.Sending.{SoSent}
use Rattle.lr_cmd_transmit.proofs.transmit.put_frames.Given as goal

abbrev pub invariant-frames : goal.invariant-frames
invariant-frames g l = record {
  so : (line : LineCode) (files : List File) (given : ℕ) → IsUplinkAt line l.wrong files given l.fn.uplink
      → SoSent g.O.Sink line l.wrong files given l._given l.uplink l.fn.out l.out;
}
