-- The parts of a record: its fields, the lengths of its bodies, their bytes, and the checksum of all of these.
use Rattle.std.specs.Prelude.{
  ◌≡◌,
  ◌≤◌,
  ◌<◌,
  ◌*◌,
  ℕ,
  zero,
  suc,
  List,
  [],
  ◌∷◌,
  ◌++◌,
  length,
  take,
  drop,
  map,
  slice_index,
}
use Rattle.std.specs.List.{flat_map}
use Rattle.byteorder.specs.Endian.{big_bytes, big_number}
use Rattle.lr_bits.specs.Crc.{crc_of}
use Rattle.lr_bits.specs.File.{File, bytes_of, file_of}
use Rattle.lr_bits.specs.declared.placed.Origin.{Origin}
use Rattle.lr_bits.specs.declared.sizes.TheConstants.{CHANNELS, IDLE_APPLICATION, TRANSPORT_HEADER_BYTES}
use Rattle.lr_bits.specs.Sizes.{most_file_bodies, most_file_bytes}
use Rattle.lr_shelf_format.specs.declared.record.RecordHead.{RecordHead}

-- the fields of a file's record
abbrev pub head_of_file : File → RecordHead
head_of_file file = record {
  vc = file.vc;
  apid = file.apid;
  packets = length file.bodies;
  bytes =
      length (bytes_of file);
}

-- the eleven bytes of these fields: channel, application, number of bodies, number of bytes
abbrev pub bytes_of_head : RecordHead → List ℕ
bytes_of_head head = head.vc ∷ (big_bytes 2 head.apid ++ (big_bytes 4 head.packets ++ big_bytes 4 head.bytes))

-- the length of each body, and then the bytes
abbrev pub body_of : File → List ℕ
body_of file = flat_map (big_bytes 2) (map length file.bodies) ++ bytes_of file

-- the 24 bytes of an origin
abbrev pub origin_bytes : Origin → List ℕ
origin_bytes origin = big_bytes 8 origin.first ++ (big_bytes 8 origin.last ++ big_bytes 8 origin.corrected)

-- bytes, and their checksum
abbrev pub with_checksum : List ℕ → List ℕ
with_checksum content = content ++ big_bytes 2 (crc_of content)

-- the fields that eleven bytes give
abbrev pub head_of : List ℕ → RecordHead
head_of bytes = record {
  vc = slice_index bytes 0;
  apid = big_number 2 (drop 1 bytes);
  packets = big_number 4 (drop 3 bytes);
  bytes = big_number 4 (drop 7 bytes);
}

-- the origin that 24 bytes give
abbrev pub origin_of_bytes : List ℕ → Origin
origin_of_bytes bytes = record {
  first = big_number 8 bytes;
  last = big_number 8 (drop 8 bytes);
  corrected =
      big_number 8 (drop 16 bytes);
}

-- each field is in its range
pub record IsHead (head : RecordHead) : Type 0 where
  pub channel : head.vc < CHANNELS
  pub application : head.apid < IDLE_APPLICATION
  pub some : 1 ≤ head.packets
  pub few : head.packets ≤ most_file_bodies
  pub least : TRANSPORT_HEADER_BYTES ≤ head.bytes
  pub most : head.bytes ≤ most_file_bytes

-- this many numbers of two bytes each, in turn
abbrev pub numbers_in : ℕ → List ℕ → List ℕ
numbers_in zero bytes = []
numbers_in (suc count) bytes = big_number 2 bytes ∷ numbers_in count (drop 2 bytes)

-- the file that fields and the bytes of a body give
unfoldable pub file_of_body : RecordHead → List ℕ → File
file_of_body head rest = file_of head.vc head.apid (numbers_in head.packets rest)
    (take head.bytes (drop (2 * head.packets) rest))

-- the bytes that were there stay
abbrev pub StartsWith : List ℕ → List ℕ → Type 0
StartsWith old new = take (length old) new ≡ old
