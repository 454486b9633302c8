use Rattle.std.proofs.Common.{◌≡◌, ◌∙◌, ◌+◌, ◌-◌, ◌++◌, ap, ap₂, arith, List, ℕ, length, take, drop, length-drop}
use Rattle.std.specs.Int.{bytes_high_first}
use Rattle.std.proofs.lemmas.List.{length-take-le}
use Rattle.lr_bits.specs.Crc.{crc_of}
use Rattle.lr_make.specs.Packets.{head_with, packet_for_body}
use Rattle.lr_sent.proofs.MadePackets.{length-packet}
use Rattle.lr_uplink.proofs.packet.Packet.of_body.Goals as goal

is_packet : (apid flags count crc : ℕ) (head body : List ℕ) → head ≡ head_with apid flags count (length body + 1) →
    crc ≡ crc_of body → head ++ (body ++ bytes_high_first 2 crc) ≡ packet_for_body apid flags count body
unfolding packet_for_body
is_packet apid flags count crc head body h k =
    ap₂ (λ front sum. front ++ (body ++ bytes_high_first 2 sum)) h k

pub returns : goal.returns
returns c =
    let body : List ℕ = take c.args.size (drop c.args.at c.args.bytes.now) in
    let size : length body ≡ c.args.size =
    length-take-le c.args.size (drop c.args.at c.args.bytes.now)
    (omega (arith, length-drop c.args.at c.args.bytes.now, c.requires.inside)) in
    let whole : c.args.at + c.from.result - c.args.at ≡ c.args.size = omega (arith, c.from.ensures) in
    record {
      is = is_packet c.args.apid c.args.flags c.args.count c.crc16.result c.packet_head.result body
          (c.packet_head.ensures ∙ ap (head_with c.args.apid c.args.flags c.args.count) (omega (arith, size)))
          (c.crc16.ensures ∙ ap (λ n. crc_of (take n (drop c.args.at c.args.bytes.now))) whole);
      size = omega (arith, size, length-packet c.args.apid c.args.flags c.args.count body);
      within = c.requires.inside;
    }
