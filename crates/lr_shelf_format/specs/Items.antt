-- The items of a shelf, and what their first bytes tell of them.
use Rattle.std.specs.Prelude.{
  ◌≤◌,
  ◌≡◌,
  ◌<◌,
  ◌+◌,
  ◌*◌,
  ◌-◌,
  ◌==◌,
  ◌||◌,
  ℕ,
  Bool,
  false,
  Option,
  Some,
  None,
  List,
  [],
  ◌∷◌,
  ◌++◌,
  length,
  take,
  drop,
  sum,
  slice_index,
  All,
  ◌^◌,
}
use Rattle.byteorder.specs.Endian.{big_bytes, big_number}
use Rattle.lr_bits.specs.Crc.{crc_of}
use Rattle.lr_bits.specs.File.{File, IsFile}
use Rattle.lr_bits.specs.declared.placed.Origin.{Origin}
use Rattle.lr_bits.specs.Sizes.{most_body_bytes}
use Rattle.lr_shelf_format.specs.Record.{
  IsHead,
  body_of,
  bytes_of_head,
  file_of_body,
  head_of,
  head_of_file,
  numbers_in,
  origin_bytes,
  origin_of_bytes,
  with_checksum,
}
use Rattle.lr_shelf_format.specs.declared.item.ItemHead.{ItemHead}
use Rattle.lr_shelf_format.specs.declared.item.ItemHead.TheVariants.{Old, Add, Discard}
use Rattle.lr_shelf_format.specs.declared.record.RecordHead.{RecordHead}
use Rattle.lr_shelf_format.specs.declared.stored.Stored.{Stored}

-- the record of a file, as version 1 wrote it; the record of a file and its origin; or that an entry is discarded
pub data Item : Type 0 where
  old_item : (file : File) → Item
  add_item : (file : File) (origin : Origin) → Item
  discard_item : (number : ℕ) → Item

unfoldable pub old_bytes : File → List ℕ
old_bytes file = with_checksum (bytes_of_head (head_of_file file) ++ body_of file)

unfoldable pub add_bytes : File → Origin → List ℕ
add_bytes file origin =
    with_checksum (0x80 ∷ (bytes_of_head (head_of_file file) ++ (origin_bytes origin ++ body_of file)))

unfoldable pub discard_bytes : ℕ → List ℕ
discard_bytes number = with_checksum (0x81 ∷ big_bytes 8 number)

abbrev pub item_bytes : Item → List ℕ
item_bytes (old_item file) = old_bytes file
item_bytes (add_item file origin) = add_bytes file origin
item_bytes (discard_item number) = discard_bytes number

-- each number has its place in those bytes
pub record IsOrigin (origin : Origin) : Type 0 where
  pub first : origin.first < 2 ^ 64
  pub last : origin.last < 2 ^ 64
  pub corrected : origin.corrected < 2 ^ 64

abbrev pub IsItem : Item → Type 0
IsItem (old_item file) = IsFile file
IsItem (add_item file origin) = IsFile file × IsOrigin origin
IsItem (discard_item number) = number < 2 ^ 64

-- ---- heads: what the bytes up to the next gate's place tell

abbrev pub head_of_item : Item → ItemHead
head_of_item (old_item file) = Old (head_of_file file)
head_of_item (add_item file origin) = Add (head_of_file file)
head_of_item (discard_item number) = Discard number

-- how many bytes such an item has
abbrev pub extent_of : ItemHead → ℕ
extent_of (Old head) = 13 + 2 * head.packets + head.bytes
extent_of (Add head) = 38 + 2 * head.packets + head.bytes
extent_of (Discard number) = 11

-- these bytes begin an item of this head, with fields in their ranges; a Discard stands there whole
abbrev pub Begins : List ℕ → ItemHead → Type 0
Begins bytes (Old head) = IsHead head × (head ≡ head_of bytes)
Begins bytes (Add head) = (slice_index bytes 0 ≡ 0x80) × IsHead head × (head ≡ head_of (drop 1 bytes))
Begins bytes (Discard number) = (number < 2 ^ 64) × (take 11 bytes ≡ discard_bytes number)

-- ---- proper lists

-- how many entries there are
abbrev pub entry_count : List ItemHead → ℕ
entry_count [] = 0
entry_count (Discard number ∷ heads) = entry_count heads
entry_count (Old head ∷ heads) = 1 + entry_count heads
entry_count (Add head ∷ heads) = 1 + entry_count heads

-- whether the entry of this number is discarded
abbrev pub is_gone : List ItemHead → ℕ → Bool
is_gone [] entry = false
is_gone (Discard number ∷ heads) entry = (number == entry) || is_gone heads entry
is_gone (Old head ∷ heads) entry = is_gone heads entry
is_gone (Add head ∷ heads) entry = is_gone heads entry

-- a Discard names one of the entries before it that isn't gone
abbrev pub MayFollow : List ItemHead → ItemHead → Type 0
MayFollow heads (Old head) = Unit {0}
MayFollow heads (Add head) = Unit {0}
MayFollow heads (Discard number) = (number < entry_count heads) × (is_gone heads number ≡ false)

-- each of these may follow those before it
abbrev pub AreProper : List ItemHead → List ItemHead → Type 0
AreProper before [] = Unit {0}
AreProper before (head ∷ heads) = MayFollow before head × AreProper (before ++ head ∷ []) heads

abbrev pub IsProper : List ItemHead → Type 0
IsProper heads = AreProper [] heads

-- ---- records, whatever their checksums

-- This many lengths, each below 65,535, and as many bytes as they add up to stand from that place on, and two bytes
-- more.
pub record HasBody (head : RecordHead) (place : ℕ) (bytes : List ℕ) : Type 0 where
  pub size : length bytes ≡ place + 2 * head.packets + head.bytes + 2
  pub short : All (λ one. one ≤ most_body_bytes) (numbers_in head.packets (drop place bytes))
  pub whole : sum (numbers_in head.packets (drop place bytes)) ≡ head.bytes

-- after the fields of an Old item, or of an Add item, stands such a body
abbrev pub HasForm : List ℕ → ItemHead → Type 0
HasForm bytes (Old head) = HasBody head 11 bytes
HasForm bytes (Add head) = HasBody head 36 bytes
HasForm bytes (Discard number) = ⊥

-- These bytes have the form of an Old or an Add item, with nothing after it. Nothing is said of its checksum.
pub record IsFileRecord (bytes : List ℕ) : Type 0 where
  pub head : ItemHead
  pub begins : Begins bytes head
  pub form : HasForm bytes head

-- the item that a head and the bytes of an item give
unfoldable pub item_of : ItemHead → List ℕ → Item
item_of (Old head) bytes = old_item (file_of_body head (drop 11 bytes))
item_of (Add head) bytes = add_item (file_of_body head (drop 36 bytes)) (origin_of_bytes (drop 12 bytes))
item_of (Discard number) bytes = discard_item number

-- the checksum that stands at the end of an item, and the one of the bytes before it
abbrev pub stored_checksum : List ℕ → ℕ
stored_checksum bytes = big_number 2 (drop (length bytes - 2) bytes)

abbrev pub computed_checksum : List ℕ → ℕ
computed_checksum bytes = crc_of (take (length bytes - 2) bytes)

-- ---- what is stored

-- the item of a file, and of its origin, where it has one
abbrev pub item_of_file : File → Option Origin → Item
item_of_file file None = old_item file
item_of_file file (Some origin) = add_item file origin

abbrev pub item_of_stored : Stored → Item
item_of_stored stored = item_of_file stored.file stored.origin

-- the bytes are those of what is stored
pub record Holds (bytes : List ℕ) (stored : Stored) : Type 0 where
  pub is_item : IsItem (item_of_stored stored)
  pub bytes_are : item_bytes (item_of_stored stored) ≡ bytes
