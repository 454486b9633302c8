-- What stands for how much of the stream. Callers need `MakerStandsFor` alone, and nothing of what is in it; only
-- functions inside the crate speak of the rest.
use Rattle.std.specs.Prelude.{◌≡◌, ℕ, ◌+◌, ◌-◌, ◌*◌, ◌/◌, ◌%◌, ◌<◌, ◌≤◌, ◌++◌, ◌==◌, ◌&&◌, if◌then◌else◌}
use Rattle.std.specs.Prelude.{min, List, length, drop, slice_index}
use Rattle.lr_bits.specs.declared.sizes.TheConstants.{FRAME_COUNTS, NO_PACKET_START, SEQUENCE_COUNTS, ZONE_BYTES}
use Rattle.lr_conv.specs.LineEncoder as encoders
use Rattle.lr_conv.specs.declared.line.TheConstants.{STANDARD}
use Rattle.lr_make.specs.declared.channel.Channel.{Channel}
use Rattle.lr_make.specs.declared.frames.Frames.{Frames}
use Rattle.lr_make.specs.declared.images.Images.{Images}
use Rattle.lr_make.specs.declared.maker.Maker.{Maker}
use Rattle.lr_make.specs.declared.source.Source.{Source}
use Rattle.lr_make.specs.declared.source.Source.TheVariants as sources
use Rattle.lr_make.specs.declared.texts.Texts.{Texts}
use Rattle.lr_make.specs.Drawing.{state_after}
use Rattle.lr_make.specs.Files.{image_body, image_flags, image_packet, text_packet}
use Rattle.lr_make.specs.Frames.{text_start}
use Rattle.lr_make.specs.Packets.{head_for_body}
use Rattle.lr_make.specs.Zones.{joined_packets, is_start}
use Rattle.lr_make.specs.Symbols.{sent_bits}

-- n packets of application 100 were made
pub record ImagesStandFor (images : Images) (start n : ℕ) : Type 0 where
  pub counter : images.counter ≡ n / 65 % 65536
  pub place : images.place ≡ n % 65
  pub count : images.count ≡ n % SEQUENCE_COUNTS
  pub draws : images.draws ≡ state_after start (4096 * (n / 65) + 64 * (n % 65 - 1))

-- n packets of images were made, and the bytes of the next one are drawn
pub record ImagesDrawn (images : Images) (start n : ℕ) : Type 0 where
  pub counter : images.counter ≡ n / 65 % 65536
  pub place : images.place ≡ n % 65
  pub count : images.count ≡ n % SEQUENCE_COUNTS
  pub draws : images.draws ≡ state_after start (4096 * (n / 65) + 64 * (n % 65))

-- packet n of application 100 without its checksum
abbrev pub image_front : ℕ → ℕ → List ℕ
image_front start n =
    head_for_body 100 (image_flags (n % 65)) (n % SEQUENCE_COUNTS) (length (image_body start (n / 65) (n % 65)))
    ++ image_body start (n / 65) (n % 65)

-- n packets of application 200 were made
pub record TextsStandFor (texts : Texts) (start n : ℕ) : Type 0 where
  pub counter : texts.counter ≡ n % 65536
  pub number : texts.number ≡ n % 10000
  pub count : texts.count ≡ n % SEQUENCE_COUNTS
  pub draws : texts.draws ≡ state_after start (200 * n)

-- n of these packets were made
abbrev pub SourceStandsFor : Source → (ℕ → List ℕ) → ℕ → Type 0
SourceStandsFor (sources.Images images) packets n =
    (start : ℕ) × ((p : ℕ) → packets p ≡ image_packet start p) × ImagesStandFor images start n
SourceStandsFor (sources.Texts texts) packets n =
    (start : ℕ) × ((p : ℕ) → packets p ≡ text_packet start p) × TextsStandFor texts start n

-- The channel has given this many bytes of these packets, joined: all packets that start before that place were made,
-- and what is left of the last one is what is left of them.
pub record ChannelStandsFor (channel : Channel) (packets : ℕ → List ℕ) (place : ℕ) : Type 0 where
  pub made : ℕ
  pub source : SourceStandsFor channel.source packets made
  pub left : drop channel.sent channel.packet ≡ drop place (joined_packets packets made)
  pub within : place ≤ length (joined_packets packets made)
  pub started : (n : ℕ) → n < made → length (joined_packets packets n) < place

-- the byte at a place of these packets, joined; each of them has some byte
abbrev pub byte_at : (ℕ → List ℕ) → ℕ → ℕ
byte_at packets place = slice_index (joined_packets packets (place + 1)) place

-- The pointer with one place more of the zone, at this place of the packets, joined: where no packet started yet, and
-- one does there, it is that place.
abbrev pub pointer_more : (ℕ → List ℕ) → ℕ → ℕ → ℕ → ℕ
pointer_more packets place pointer in_zone =
    if (pointer == NO_PACKET_START) && is_start packets place then in_zone else pointer

-- how many of the first n frames are of channel 0, and of channel 5
abbrev pub image_frames : ℕ → ℕ
image_frames n = 2 * (n / 4) + min (n % 4) 2

abbrev pub text_frames : ℕ → ℕ
text_frames n = n / 4 + (n % 4 - 2)

-- n frames were made
pub record MadeFramesStandFor (frames : Frames) (start n : ℕ) : Type 0 where
  pub images : ChannelStandsFor frames.images (image_packet start) (ZONE_BYTES * image_frames n)
  pub texts : ChannelStandsFor frames.texts (text_packet (text_start start)) (ZONE_BYTES * text_frames n)
  pub round : frames.round ≡ n / 4 % FRAME_COUNTS
  pub turn : frames.turn ≡ n % 4

-- n frames were made, and the channel of the next frame has given its zone
pub record FramesSent (frames : Frames) (start n : ℕ) : Type 0 where
  pub images : ChannelStandsFor frames.images (image_packet start) (ZONE_BYTES * image_frames (n + 1))
  pub texts : ChannelStandsFor frames.texts (text_packet (text_start start)) (ZONE_BYTES * text_frames (n + 1))
  pub round : frames.round ≡ n / 4 % FRAME_COUNTS
  pub turn : frames.turn ≡ n % 4

-- The maker has made the first n frames of the stream with this start and `wrong` wrong bytes in each word.
pub record MakerStandsFor (maker : Maker) (start wrong n : ℕ) : Type 0 where
  pub frames : MadeFramesStandFor maker.frames start n
  pub damage : maker.wrong ≡ wrong
  pub encoder : encoders.LineEncoderStandsFor maker.encoder STANDARD (sent_bits start wrong n)
