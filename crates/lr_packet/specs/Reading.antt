-- What reading a header, and checking a packet, answers.
use Rattle.std.specs.Prelude.{◌≡◌, Result, Ok, Err, MatchResult}
use Rattle.lr_bits.specs.Packet.{Packet}
use Rattle.lr_packet.specs.declared.packet.GoodPacket.{GoodPacket}
use Rattle.lr_packet.specs.declared.packet.PacketFault.{PacketFault}
use Rattle.lr_packet.specs.declared.packet.PacketHead.{PacketHead}
use Rattle.lr_packet.specs.Head.{HeadFields, head_fields_of}
use Rattle.lr_packet.specs.Verdict.{Good, verdict_of}

-- the fields that a header of the program has
abbrev pub fields : PacketHead → HeadFields
fields h =
    record {
      version = h.version;
      kind = h.kind;
      secondary = h.secondary;
      apid = h.apid;
      flags = h.flags;
      count = h.count;
      length = h.length;
    }

abbrev pub IsHeadOf : Packet → PacketHead → Type 0
IsHeadOf packet head = fields head ≡ head_fields_of packet.bytes

-- the good packet that one of the program is
abbrev pub good : GoodPacket → Good
good g = record { vc = g.vc; apid = g.apid; flags = g.flags; count = g.count; body = g.body.now }

-- the result is the packet's verdict, in the program's terms
abbrev pub IsVerdictOf : Packet → Result GoodPacket PacketFault → Type 0
IsVerdictOf packet result = MatchResult result
    (λ g. verdict_of packet ≡ Ok (good g))
    (λ fault. verdict_of packet ≡ Err fault)
