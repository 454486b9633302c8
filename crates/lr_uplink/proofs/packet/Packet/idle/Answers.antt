use Rattle.std.proofs.Common.{◌≡◌, ◌-◌, ◌++◌, ap, arith, replicate, List, ℕ, length}
use Rattle.lr_make.specs.Packets.{head_with}
use Rattle.lr_uplink.specs.Packets.{idle_packet}
use Rattle.lr_uplink.proofs.Verdicts.{length-idle}
use Rattle.lr_uplink.proofs.packet.Packet.idle.Goals as goal

is_idle : (size : ℕ) (head : List ℕ) → head ≡ head_with 2047 3 0 (size - 7) →
    head ++ replicate (size - 6) 0 ≡ idle_packet size
unfolding idle_packet
is_idle size head e = ap (λ h. h ++ replicate (size - 6) 0) e

pub returns : goal.returns
returns c = λ bytes. record {
  is = is_idle c.args.size c.packet_head.result c.packet_head.ensures;
  size =
      let whole : length (idle_packet c.args.size) ≡ c.args.size =
      length-idle c.args.size c.requires.least (omega arith) in
      omega (arith, whole, c.requires.least);
  within = omega arith;
}
