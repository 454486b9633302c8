use Rattle.lr_packet.proofs.VerdictLemmas.{good_packets-append}
use Rattle.lr_packet.proofs.reading.good_packets_are_joined.Goals as goal

pub returns : goal.returns
returns c = good_packets-append
