-- What a receiver makes of the packets of a file: each packet of a body is good, and idle packets are none.
use Rattle.std.proofs.Common.{◌≡◌, ℕ, ◌+◌, ◌-◌, ◌*◌, ◌/◌, ◌%◌, ◌<◌, ◌≤◌, ◌++◌, not, cond, List, length, take, drop}
use Rattle.std.proofs.Common.{get_or, refl, sym, ap, ◌∙◌, arith, length-append, eq-eqb, ne_eqb, le-ltb, eqb, ltb, ◌^◌}
use Rattle.std.proofs.Common.{true, false}
use Rattle.std.specs.Prelude.{All, Result, Ok, Err}
use Rattle.std.specs.Int.{bytes_high_first}
use Rattle.std.proofs.lemmas.List.{length-replicate, take_at, drop_at}
use Rattle.byteorder.specs.Endian.{big_number}
use Rattle.lr_bits.specs.Bits.{field_of}
use Rattle.lr_bits.specs.Crc.{crc_of}
use Rattle.lr_bits.specs.declared.sizes.TheConstants.{IDLE_APPLICATION, SEQUENCE_COUNTS, FRAME_COUNTS}
use Rattle.lr_bits.specs.Sizes.{most_body_bytes}
use Rattle.lr_bits.proofs.BitsLemmas.{field_of-none}
use Rattle.lr_bits.proofs.CrcRest.{crc_is_the_remainder}
use Rattle.lr_packet.specs.declared.packet.PacketFault.{PacketFault}
use Rattle.lr_packet.specs.declared.packet.PacketFault.TheVariants.{Version, Idle, TooShort, Crc}
use Rattle.lr_packet.specs.Verdict.{Good, data_of, packet_body, stored_of, good_of, verdict_of}
use Rattle.lr_make.specs.Packets.{head_with, packet_for_body}
use Rattle.lr_make.proofs.Heads.{drop-head_of}
use Rattle.lr_sent.specs.Carried.{TellsItsLength}
use Rattle.lr_sent.proofs.MadeFrames.{bits_more, bits_of_two}
use Rattle.lr_sent.proofs.MadePackets.{length-packet, flags_are}
use Rattle.lr_vc.proofs.Starts.{length_field}
use Rattle.lr_uplink.specs.Packets.{idle_packet}
use Rattle.lr_uplink.proofs.Walking.{on}

-- ---- fields in bytes

module _ (bytes : List ℕ) (long : 6 ≤ length bytes) where
  version_bits : field_of bytes 0 3 ≡ get_or bytes 0 0 / 32 % 8
  version_bits = omega (arith, field_of-none bytes 0, bits_more bytes 0 0 0 5 3 refl (omega arith) (omega arith))

  application_bits : field_of bytes 5 11 ≡ get_or bytes 0 0 % 8 * 256 + get_or bytes 1 0 % 256
  application_bits = bits_of_two bytes 5 0 3 refl (omega arith) (omega arith)

  count_bits : field_of bytes 18 14 ≡ get_or bytes 2 0 % 64 * 256 + get_or bytes 3 0 % 256
  count_bits = bits_of_two bytes 18 2 6 refl (omega arith) (omega arith)

-- ---- the packet of a body

crc_small : (bytes : List ℕ) → All (λ byte. byte < 256) bytes → crc_of bytes < 65536
crc_small bytes fit = ((crc_is_the_remainder bytes fit (crc_of bytes)).1 refl).short

-- a number of two bytes comes back from them
two_bytes : (n : ℕ) → n < 65536 → big_number 2 (bytes_high_first 2 n) ≡ n
two_bytes n h = omega arith

module _ (apid flags count : ℕ) (body : List ℕ) (application : apid < IDLE_APPLICATION) (some_flags : flags < 4)
    (small : count < SEQUENCE_COUNTS) (short : length body ≤ most_body_bytes) (fit : All (λ byte. byte < 256) body)
  where
    abbrev packet : List ℕ
    packet = packet_for_body apid flags count body

    long : 6 ≤ length packet
    long = omega (arith, length-packet apid flags count body)

    abbrev number : ℕ
    number = (((0 + apid) * 4 + flags) * 16384 + count) * 65536 + (length body + 1)

    byte_0 : get_or packet 0 0 ≡ number / 1099511627776 % 256
    unfolding packet_for_body head_with
    byte_0 = refl

    byte_1 : get_or packet 1 0 ≡ number / 2 ^ 32 % 256
    unfolding packet_for_body head_with
    byte_1 = refl

    byte_2 : get_or packet 2 0 ≡ number / FRAME_COUNTS % 256
    unfolding packet_for_body head_with
    byte_2 = refl

    byte_3 : get_or packet 3 0 ≡ number / 65536 % 256
    unfolding packet_for_body head_with
    byte_3 = refl

    version_is : field_of packet 0 3 ≡ 0
    version_is = omega (arith, version_bits packet long, byte_0)

    application_is : field_of packet 5 11 ≡ apid
    application_is = omega (arith, application_bits packet long, byte_0, byte_1)

    count_is : field_of packet 18 14 ≡ count
    count_is = omega (arith, count_bits packet long, byte_2, byte_3)

    abbrev checksum : List ℕ
    checksum = bytes_high_first 2 (crc_of body)

    data_is : data_of packet ≡ body ++ checksum
    unfolding packet_for_body
    data_is = drop-head_of apid flags count (length body) (body ++ checksum)

    data_long : length (data_of packet) ≡ length body + 2
    data_long = ap length data_is ∙ length-append body checksum

    body_is : packet_body packet ≡ body
    body_is =
        ap (λ n. take n (data_of packet)) (omega (arith, data_long)) ∙ ap (take (length body)) data_is
        ∙ take_at body checksum (length body) refl

    stored_is : stored_of packet ≡ crc_of body
    stored_is =
        ap (λ n. big_number 2 (drop n (data_of packet))) (omega (arith, data_long))
        ∙ ap (λ xs. big_number 2 (drop (length body) xs)) data_is
        ∙ ap (big_number 2) (drop_at body checksum (length body) refl) ∙ two_bytes (crc_of body) (crc_small body fit)

    -- the verdict
    pub is_good : (vc : ℕ) →
        verdict_of (on vc packet)
        ≡ Ok (record { vc = vc; apid = apid; flags = flags; count = count; body = body })
    is_good vc =
        let version : eqb (field_of packet 0 3) 0 ≡ true = eq-eqb (field_of packet 0 3) 0 version_is in
        let other : eqb (field_of packet 5 11) 2047 ≡ false =
        ne_eqb (field_of packet 5 11) 2047 (λ e. omega (arith, e, application_is)) in
        let enough : ltb (length (data_of packet)) 2 ≡ false =
        le-ltb (length (data_of packet)) 2 (omega (arith, data_long)) in
        let right : eqb (stored_of packet) (crc_of (packet_body packet)) ≡ true =
        eq-eqb (stored_of packet) (crc_of (packet_body packet)) (stored_is ∙ ap crc_of (sym body_is)) in
        let good : ◌≡◌ {A = Good} (good_of (on vc packet))
        (record { vc = vc; apid = apid; flags = flags; count = count; body = body }) = λ i. record {
          vc = vc;
          apid = application_is i;
          flags = flags_are apid flags count body some_flags small short i;
          count = count_is i;
          body = body_is i;
        } in
        ap (λ b. cond (not b) (Err (Version (field_of packet 0 3))) (cond (eqb (field_of packet 5 11) 2047) (Err Idle)
        (cond (ltb (length (data_of packet)) 2) (Err TooShort)
        (cond (not (eqb (stored_of packet) (crc_of (packet_body packet))))
        (Err (Crc (stored_of packet) (crc_of (packet_body packet)))) (Ok (good_of (on vc packet))))))) version
        ∙ ap (λ b. cond b (Err Idle) (cond (ltb (length (data_of packet)) 2) (Err TooShort)
        (cond (not (eqb (stored_of packet) (crc_of (packet_body packet))))
        (Err (Crc (stored_of packet) (crc_of (packet_body packet)))) (Ok (good_of (on vc packet)))))) other
        ∙ ap (λ b. cond b (Err TooShort) (cond (not (eqb (stored_of packet) (crc_of (packet_body packet))))
        (Err (Crc (stored_of packet) (crc_of (packet_body packet)))) (Ok (good_of (on vc packet))))) enough
        ∙ ap (λ b. cond (not b) (Err (Crc (stored_of packet) (crc_of (packet_body packet))))
        (Ok (good_of (on vc packet))))
        right
        ∙ ap Ok good

-- ---- idle packets

module _ (size : ℕ) (least : 7 ≤ size) (most : size < 65543) where
  abbrev filler : List ℕ
  filler = idle_packet size

  abbrev filler_number : ℕ
  filler_number = (((0 + 2047) * 4 + 3) * 16384 + 0) * 65536 + (size - 7)

  pub length-idle : length filler ≡ size
  unfolding idle_packet head_with
  length-idle = omega (arith, length-replicate {A = ℕ} (size - 6) 0)

  idle_0 : get_or filler 0 0 ≡ filler_number / 1099511627776 % 256
  unfolding idle_packet head_with
  idle_0 = refl

  idle_1 : get_or filler 1 0 ≡ filler_number / 2 ^ 32 % 256
  unfolding idle_packet head_with
  idle_1 = refl

  idle_4 : get_or filler 4 0 ≡ filler_number / 256 % 256
  unfolding idle_packet head_with
  idle_4 = refl

  idle_5 : get_or filler 5 0 ≡ filler_number % 256
  unfolding idle_packet head_with
  idle_5 = refl

  pub idle_tells : TellsItsLength filler
  idle_tells = omega (arith, length-idle, length_field filler 0, idle_4, idle_5)

  pub is_idle : (vc : ℕ) → verdict_of (on vc filler) ≡ Err Idle
  is_idle vc =
      let enough : 6 ≤ length filler = omega (arith, length-idle) in
      let version_is : field_of filler 0 3 ≡ 0 = omega (arith, version_bits filler enough, idle_0) in
      let application_is : field_of filler 5 11 ≡ 2047 =
      omega (arith, application_bits filler enough, idle_0, idle_1) in
      let rest : Result Good PacketFault = cond (ltb (length (data_of filler)) 2) (Err TooShort)
      (cond (not (eqb (stored_of filler) (crc_of (packet_body filler))))
      (Err (Crc (stored_of filler) (crc_of (packet_body filler)))) (Ok (good_of (on vc filler)))) in
      ap (λ b. cond (not b) (Err (Version (field_of filler 0 3))) (cond (eqb (field_of filler 5 11) 2047) (Err Idle)
      rest)) (eq-eqb (field_of filler 0 3) 0 version_is)
      ∙ ap (λ b. cond b (Err Idle) rest) (eq-eqb (field_of filler 5 11) 2047 application_is)
