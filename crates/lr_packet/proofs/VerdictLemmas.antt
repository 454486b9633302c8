-- The good packets of lists in a row, so those of a prefix are a prefix.
use Rattle.std.proofs.Common.{◌≡◌, List, ◌++◌}
use Rattle.std.specs.Result.{result_ok}
use Rattle.std.proofs.lemmas.List.Elements.{filter_map-append}
use Rattle.lr_bits.specs.Packet.{Packet}
use Rattle.lr_packet.specs.Verdict.{verdict_of, good_packets}

pub good_packets-append : (front back : List Packet) →
    good_packets (front ++ back) ≡ good_packets front ++ good_packets back
good_packets-append front back = filter_map-append (λ (packet : Packet). result_ok (verdict_of packet)) front back
