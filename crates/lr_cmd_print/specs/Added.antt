-- What one frame more adds to the packets and to their text. No clause of a public call cites this.
use Rattle.std.specs.Prelude.{ℕ, List, [], ◌∷◌, ◌++◌, length, drop}
use Rattle.lr_bits.specs.Packet.{Packet}
use Rattle.lr_cmd_print.specs.Packets.{packets_read, lines_from}

unfoldable pub packets_added : List (List ℕ) → List ℕ → List Packet
packets_added frames frame =
    drop (length (packets_read frames)) (packets_read (frames ++ frame ∷ []))

unfoldable pub lines_added : List (List ℕ) → List ℕ → List ℕ
lines_added frames frame = lines_from (length (packets_read frames)) (packets_added frames frame)
