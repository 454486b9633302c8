use Rattle.std.proofs.Common.{◌<◌, arith, ℕ, List, length, Option, Some, None, refl}
use Rattle.std.specs.Option.{IsSome}
use Rattle.lr_uplink.specs.declared.packet.Packet.{Packet}
use Rattle.lr_uplink.specs.Packets.{file_packets}
use Rattle.lr_uplink.specs.Pieces.{IsPacketOf}
use Rattle.lr_uplink.proofs.Places.{body_there}
use Rattle.lr_uplink.proofs.sending.Sending.new.Goals as goal

some : (packets : List (List ℕ)) (bytes : List ℕ) (o : Option Packet) → 0 < length packets →
    IsPacketOf packets bytes 0 o → IsSome o
some packets bytes None h is = absurd (omega (arith, is))
some packets bytes (Some packet) h is = refl

pub unwrap-packet-requires : goal.unwrap-packet-requires
unwrap-packet-requires c =
    some (file_packets c.args.count c.args.file) _ c.packet_of_file.result
    (body_there c.args.count c.args.file 0 c.packet_of_file.ensures.file.some).0 c.packet_of_file.ensures.packet
