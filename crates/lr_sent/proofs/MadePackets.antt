-- The packets of the test stream: what their headers say, and how long they are.
use Rattle.std.proofs.Common.{◌≡◌, ℕ, zero, suc, ◌+◌, ◌*◌, ◌/◌, ◌%◌, ◌<◌, ◌≤◌, List, ◌++◌, length, get_or, refl, ap}
use Rattle.std.proofs.Common.{◌∙◌, arith, length-append, eqb}
use Rattle.std.proofs.lemmas.Bool.{cond_both}
use Rattle.std.specs.Int.{bytes_high_first}
use Rattle.lr_bits.specs.Bits.{field_of}
use Rattle.lr_bits.specs.Crc.{crc_of}
use Rattle.lr_bits.specs.declared.sizes.TheConstants.{FRAME_COUNTS, SEQUENCE_COUNTS}
use Rattle.lr_bits.specs.Sizes.{most_body_bytes}
use Rattle.lr_bits.proofs.BitsLemmas.{field_of-none}
use Rattle.lr_vc.proofs.Starts.{length_field}
use Rattle.lr_make.specs.Packets.{head_for_body, head_with, packet_for_body}
use Rattle.lr_make.specs.Files.{image_body, image_flags, image_packet, text_headers, text_bytes, text_packet}
use Rattle.lr_make.proofs.Drawn.{length-drawn_bytes, length-text_bytes}
use Rattle.lr_make.proofs.Heads.{length-head_of, length-image_headers, length-text_headers}
use Rattle.lr_sent.specs.Carried.{TellsItsLength}
use Rattle.lr_sent.proofs.MadeFrames.{bits_more}

-- the sequence flags stand in byte 2
flags_bits : (bytes : List ℕ) → 6 ≤ length bytes → field_of bytes 16 2 ≡ get_or bytes 2 0 / 64 % 4
flags_bits bytes l = omega (arith, field_of-none bytes 16, bits_more bytes 16 0 2 6 2 refl (omega arith) (omega arith))

module _ (apid flags count : ℕ) (body : List ℕ) where
  pub length-packet : length (packet_for_body apid flags count body) ≡ length body + 8
  unfolding packet_for_body
  length-packet =
      omega (
        arith,
        length-append (head_for_body apid flags count (length body)) (body ++ bytes_high_first 2 (crc_of body)),
        length-append body (bytes_high_first 2 (crc_of body)),
        length-head_of apid flags count (length body),
      )

  -- bytes 2, 4 and 5 of a packet
  abbrev number : ℕ
  number = (((0 + apid) * 4 + flags) * 16384 + count) * 65536 + (length body + 1)

  byte_two : get_or (packet_for_body apid flags count body) 2 0 ≡ number / FRAME_COUNTS % 256
  unfolding packet_for_body head_with
  byte_two = refl

  byte_four : get_or (packet_for_body apid flags count body) 4 0 ≡ number / 256 % 256
  unfolding packet_for_body head_with
  byte_four = refl

  byte_five : get_or (packet_for_body apid flags count body) 5 0 ≡ number % 256
  unfolding packet_for_body head_with
  byte_five = refl

  pub tells : length body ≤ most_body_bytes → TellsItsLength (packet_for_body apid flags count body)
  tells small =
      let field = length_field (packet_for_body apid flags count body) 0 in
      omega (arith, field, byte_four, byte_five, length-packet)

  pub flags_are : flags < 4 → count < SEQUENCE_COUNTS → length body ≤ most_body_bytes
      → field_of (packet_for_body apid flags count body) 16 2 ≡ flags
  flags_are few low small =
      flags_bits (packet_for_body apid flags count body) (omega (arith, length-packet))
      ∙ ap (λ b. b / 64 % 4) byte_two ∙ omega arith

-- ---- the packets of images

image_sizes : (start k j : ℕ) → (35 ≤ length (image_body start k j)) × (length (image_body start k j) ≤ 64)
unfolding image_body
image_sizes start k zero = (omega (arith, length-image_headers k), omega (arith, length-image_headers k))
image_sizes start k (suc line) =
    let long = length-drawn_bytes start (4096 * k + 64 * line) 64 in
    (omega (arith, long), omega (arith, long))

image_flags_few : (j : ℕ) → image_flags j < 3
image_flags_few j = cond_both (eqb j 0) _ _ (λ flags. flags < 3) (λ _. omega arith)
    (λ _. cond_both (eqb j 64) _ _ (λ flags. flags < 3) (λ _. omega arith) (λ _. omega arith))

pub image_tells : (start p : ℕ) → TellsItsLength (image_packet start p)
unfolding image_packet
image_tells start p =
    tells 100 (image_flags (p % 65)) (p % SEQUENCE_COUNTS) (image_body start (p / 65) (p % 65))
    (omega (arith, image_sizes start (p / 65) (p % 65)))

pub image_long : (start p : ℕ) → 43 ≤ length (image_packet start p)
unfolding image_packet
image_long start p =
    let body = image_body start (p / 65) (p % 65) in
    omega (
      arith,
      length-packet 100 (image_flags (p % 65)) (p % SEQUENCE_COUNTS) body,
      image_sizes start (p / 65)
          (p % 65),
    )

-- none of them is a file alone
pub image_not_alone : (start p : ℕ) → field_of (image_packet start p) 16 2 < 3
unfolding image_packet
image_not_alone start p =
    let few = image_flags_few (p % 65) in
    omega (
      arith,
      few,
      flags_are 100 (image_flags (p % 65)) (p % SEQUENCE_COUNTS) (image_body start (p / 65) (p % 65)) (omega arith)
          (omega arith)
          (omega (arith, image_sizes start (p / 65) (p % 65))),
    )

-- ---- the packets of texts

text_size : (start k : ℕ) → length (text_headers k ++ text_bytes start (200 * k) 200) ≡ 237
text_size start k =
    omega (
      arith,
      length-append (text_headers k) (text_bytes start (200 * k) 200),
      length-text_headers k,
      length-text_bytes start (200 * k) 200,
    )

pub text_tells : (start k : ℕ) → TellsItsLength (text_packet start k)
unfolding text_packet
text_tells start k =
    tells 200 3 (k % SEQUENCE_COUNTS) (text_headers k ++ text_bytes start (200 * k) 200)
    (omega (arith, text_size start k))

pub text_long : (start k : ℕ) → length (text_packet start k) ≡ 245
unfolding text_packet
text_long start k =
    omega (
      arith,
      length-packet 200 3 (k % SEQUENCE_COUNTS) (text_headers k ++ text_bytes start (200 * k) 200),
      text_size start k,
    )
