-- How far `packets` has come. No clause of a public call cites this.
use Rattle.std.specs.Prelude.{◌≡◌, ℕ, List, length}
use Rattle.lr_vc.specs.Standing.{KeptChannels, ChannelsStandFor}
use Rattle.lr_packet.specs.Verdict.{good_packets}
use Rattle.lr_cmd_print.specs.declared.packet_count.PacketCount.{PacketCount}
use Rattle.lr_cmd_print.specs.Packets.{frames_read, packets_read}

-- the packets of these frames were counted
pub record IsPacketCount (counted : PacketCount) (frames : List (List ℕ)) : Type 0 where
  pub packets : counted.packets ≡ length (packets_read frames)
  pub good : counted.good ≡ length (good_packets (packets_read frames))

-- these frames were read, and their packets counted
pub record IsAfter (channels : KeptChannels) (counted : PacketCount) (frames : List (List ℕ)) : Type 0 where
  pub stands : ChannelsStandFor channels (frames_read frames)
  pub all : IsPacketCount counted frames
