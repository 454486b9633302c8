-- Good packets, mended: where packets of an image are missing, fillers stand in for them (the sequence flags and counts
-- of CCSDS 133.0-B, section 4.1.3.4).
use Rattle.std.specs.Prelude.{ℕ, zero, suc, ◌+◌, ◌-◌, ◌*◌, ◌/◌, ◌%◌, ◌==◌, ◌&&◌, ◌||◌, not, nat_le, nat_lt, Bool}
use Rattle.std.specs.Prelude.{true, false}
use Rattle.std.specs.Prelude.{if◌then◌else◌, Option, Some, None, List, [], ◌∷◌, ◌++◌, length, map, fold, min, max}
use Rattle.std.specs.Prelude.{replicate}
use Rattle.lr_bits.specs.declared.sizes.TheConstants.{SEQUENCE_COUNTS}
use Rattle.lr_packet.specs.Verdict.{Good}
use Rattle.lr_file.specs.Files.{packets_of_key}
use Rattle.lr_mend.specs.Openings.{Opening, opening_of, units_in}
use Rattle.std.specs.Option.{option_map}

-- a packet of mended ones: one that came, or a filler for one that didn't
pub record Mended : Type 0 where
  pub packet : Good
  pub filler : Bool

-- an open image: the count and the body of its last packet, whether that is its first one, how many fillers it has,
-- whether its lines are coded packet by packet, and how much of it is still to come
pub record Image : Type 0 where
  pub count : ℕ
  pub body : List ℕ
  pub first : Bool
  pub fillers : ℕ
  pub coded : Bool
  pub wanted : ℕ

-- the count after this one, modulo 2^14
abbrev pub count_after : ℕ → ℕ
count_after count = (count + 1) % SEQUENCE_COUNTS

-- an image may have at most this many fillers
abbrev pub most_fillers : ℕ
most_fillers = 1023

-- how many packets are missing between the last one of an image and this one
abbrev pub missing_before : Image → Good → ℕ
missing_before image packet = (packet.count + SEQUENCE_COUNTS - (image.count + 1)) % SEQUENCE_COUNTS

-- the packet begins a file: it is the first of several, or all of it
abbrev pub begins_file : Good → Bool
begins_file packet = packet.flags == 1 || packet.flags == 3

-- the body that fillers are like: the last one of the image, or, since its first one has the header, after that one the
-- body of a packet between
abbrev pub filling_of : Image → Good → List ℕ
filling_of image packet =
    if not image.first then image.body else (if packet.flags == 0 then packet.body else [])

-- the body of fillers: a copy of that one where lines are coded packet by packet, so that they can be decoded, and else
-- as many zeros, so that missing pixels are 0
abbrev pub filler_body : Image → Good → List ℕ
filler_body image packet =
    if image.coded then filling_of image packet else replicate (length (filling_of image packet)) 0

-- how much of the image a filler has
abbrev pub filler_units : Image → Good → ℕ
filler_units image packet = max 1 (units_in image.coded (filling_of image packet))

-- how many fillers the image needs to be whole: it has one at least, which ends it
abbrev pub needed_before : Image → Good → ℕ
needed_before image packet = max 1 ((image.wanted + filler_units image packet - 1) / filler_units image packet)

-- the image is whole with the packets that are missing, so this one isn't of it
abbrev pub is_over : Image → Good → Bool
is_over image packet = nat_le (needed_before image packet) (missing_before image packet)

-- The count goes back: a packet that doesn't begin a file is a repeated one, or from before the last one. After a gap
-- of as many packets the count would be the same.
abbrev pub goes_back : Image → Good → Bool
goes_back image packet =
    not (begins_file packet) && nat_le (SEQUENCE_COUNTS - (most_fillers + 1)) (missing_before image packet)

-- Fillers can end the image before this packet: the count doesn't go back, and where lines are coded a body of this
-- image is copied. After the first packet there is none yet, and the packet after the gap may be of another image.
abbrev pub can_end : Image → Good → Bool
can_end image packet = not (goes_back image packet) && not (image.coded && image.first)

-- Fillers can come: they have a body, and they can end the image, or the packet goes on with it.
unfoldable pub can_fill : Image → Good → Bool
can_fill image packet =
    nat_lt 0 (length (filling_of image packet))
    && (if is_over image packet then can_end image packet else not (begins_file packet))

-- how many fillers come before a packet: as many as packets are missing, or as the image needs, if it then has at most
-- `most`; else none
unfoldable pub fillers_before : ℕ → Image → Good → ℕ
fillers_before most image packet =
    let fillers = min (missing_before image packet) (needed_before image packet) in
    if can_fill image packet && nat_le (image.fillers + fillers) most then fillers else 0

-- fillers of one channel, application and body, with counts that follow one another; the last of them ends the image,
-- if one does
pub record Filling : Type 0 where
  pub vc : ℕ
  pub apid : ℕ
  pub body : List ℕ
  pub ends : Bool

unfoldable pub fillers_from : Filling → ℕ → ℕ → List Good
fillers_from filling zero count = []
fillers_from filling (suc more) count =
    record {
      vc = filling.vc;
      apid = filling.apid;
      flags = if filling.ends && more == 0 then 2 else 0;
      count = count;
      body = filling.body;
    } ∷ fillers_from filling more (count_after count)

-- what fills the gap of an image before a packet
abbrev pub filling_before : Image → Good → Filling
filling_before image packet =
    record {
      vc = packet.vc;
      apid = packet.apid;
      body = filler_body image packet;
      ends = is_over image packet;
    }

-- the fillers before a packet, where an image may be open
unfoldable pub gap_of : ℕ → Option Image → Good → List Good
gap_of most None packet = []
gap_of most (Some image) packet =
    fillers_from (filling_before image packet) (fillers_before most image packet) (count_after image.count)

-- the image that a packet opens
abbrev pub image_begun_by : Good → Opening → Image
image_begun_by packet opening =
    record {
      count = packet.count;
      body = packet.body;
      first = true;
      fillers = 0;
      coded = opening.coded;
      wanted = opening.wanted;
    }

-- the image with a packet more, before which fillers came
abbrev pub image_with : Image → ℕ → Good → Image
image_with image fillers packet =
    record {
      count = packet.count;
      body = packet.body;
      first = false;
      fillers = image.fillers + fillers;
      coded = image.coded;
      wanted = image.wanted - (filler_units image packet * fillers + units_in image.coded packet.body);
    }

-- the packet goes on with the image: that isn't over, and no packet is missing, or fillers stand in for them
unfoldable pub goes_on : ℕ → Image → Good → Bool
goes_on most image packet =
    not (is_over image packet) && fillers_before most image packet == missing_before image packet

-- the open image with a packet more, if that goes on with it
abbrev pub continued_image : ℕ → Option Image → Good → Option Image
continued_image most None packet = None
continued_image most (Some image) packet =
    if goes_on most image packet then Some (image_with image (fillers_before most image packet) packet) else None

-- the open image after a packet; where no fillers are allowed, none opens
abbrev pub next_image : ℕ → Option Image → Good → Option Image
next_image most image packet =
    if packet.flags == 1
    then (if nat_lt 0 most then option_map (image_begun_by packet) (opening_of packet.body) else None)
    else (if packet.flags == 0 then continued_image most image packet else None)

-- the open image of a channel and application after these packets, if there is one
unfoldable pub open_image : ℕ → ℕ → ℕ → List Good → Option Image
open_image most vc apid packets = fold (next_image most) None (packets_of_key vc apid packets)

-- the fillers that come before a packet, where these came before it
unfoldable pub gap_before : ℕ → List Good → Good → List Good
gap_before most before packet = gap_of most (open_image most packet.vc packet.apid before) packet

abbrev pub filler_of : Good → Mended
filler_of packet = record { packet = packet; filler = true }

abbrev pub came : Good → Mended
came packet = record { packet = packet; filler = false }

-- a packet, and before it its fillers
abbrev pub mended_with : ℕ → List Good → Good → List Mended
mended_with most before packet = map filler_of (gap_before most before packet) ++ came packet ∷ []

-- the mended packets that later ones make, where others came before
abbrev pub mended_after : ℕ → List Good → List Good → List Mended
mended_after most before [] = []
mended_after most before (packet ∷ packets) =
    mended_with most before packet ++ mended_after most (before ++ packet ∷ []) packets

-- the packets, mended with at most `most` fillers for an image
unfoldable pub mended_packets : ℕ → List Good → List Mended
mended_packets most packets = mended_after most [] packets
