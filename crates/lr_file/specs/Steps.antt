-- What one packet more does to what is kept.
use Rattle.std.specs.Prelude.{◌≡◌, ℕ, ◌+◌, ◌%◌, ◌<◌, ◌≤◌, ◌==◌, ◌&&◌, nat_lt, nat_le, Bool, if◌then◌else◌, Option, Some}
use Rattle.std.specs.Prelude.{None, SomeIff, List, [], ◌∷◌, ◌++◌, length, map}
use Rattle.std.specs.List.{concat}
use Rattle.lr_bits.specs.File.{File}
use Rattle.lr_bits.specs.declared.sizes.TheConstants.{TRANSPORT_HEADER_BYTES, SEQUENCE_COUNTS}
use Rattle.lr_packet.specs.Verdict.{Good}
use Rattle.lr_bits.specs.Sizes.{most_file_bodies, most_file_bytes}
use Rattle.lr_file.specs.declared.part.Part.{Part}
use Rattle.lr_file.specs.declared.part.Part.TheVariants.{First, Between, Last, Single}
use Rattle.lr_file.specs.Standing.{Open, AreAscending, kept_of_key}

-- which part of its file a packet brings, by its sequence flags
abbrev pub part_by_flags : ℕ → Part
part_by_flags flags =
    if flags == 1 then First else (if flags == 0 then Between else (if flags == 2 then Last else Single))

-- the open file that begins with a packet
abbrev pub file_begun_by : Good → Open
file_begun_by packet = record { lengths = length packet.body ∷ []; bytes = packet.body; count = packet.count }

-- the open file with one packet more
abbrev pub open_file_with : Open → Good → Open
open_file_with file packet =
    record {
      lengths = file.lengths ++ length packet.body ∷ [];
      bytes = file.bytes ++ packet.body;
      count = packet.count;
    }

-- the packet's count is the next one, and its body passes no limit
unfoldable pub is_next : Open → Good → Bool
is_next file packet =
    packet.count == (file.count + 1) % SEQUENCE_COUNTS && nat_lt (length file.lengths) most_file_bodies
    && nat_le (length file.bytes + length packet.body) most_file_bytes

-- the open file with one packet more, if there is one and the packet follows
abbrev pub continued_file : Option Open → Good → Option Open
continued_file None packet = None
continued_file (Some file) packet = if is_next file packet then Some (open_file_with file packet) else None

-- the open file after a packet
abbrev pub next_open : Option Open → Good → Option Open
next_open kept packet =
    if packet.flags == 1 then Some
    (file_begun_by packet) else if packet.flags == 0 then continued_file kept packet else None

-- the bodies that a packet ends
abbrev pub completed_file : Option Open → Good → Option Open
completed_file kept packet =
    if packet.flags == 3 then Some
    (file_begun_by packet) else if packet.flags == 2 then continued_file kept packet else None

-- the packet joins no file: none is open after it of its channel and application, and no bodies end with it
pub record JoinsNothing (kept : Option Open) (packet : Good) : Type 0 where
  pub none_open : next_open kept packet ≡ None
  pub none_ends : completed_file kept packet ≡ None

-- what is kept of the packet's channel and application is set to this, and the others stay
pub record SetsKey {V : Type 0} (old new : List ((ℕ × ℕ) × V)) (packet : Good) (value : Option V) : Type 0 where
  pub once : AreAscending new
  pub values : (vc apid : ℕ) → kept_of_key new vc apid
      ≡ (if (packet.vc == vc) && (packet.apid == apid) then value else kept_of_key old vc apid)

-- The file is that of the bodies, of which there is at least one, if they have at least ten bytes.
abbrev pub IsBuilt : ℕ → ℕ → Open → Option File → Type 0
IsBuilt vc apid open_file file = (bodies : List (List ℕ)) →
    0 < length bodies → open_file.lengths ≡ map length bodies → open_file.bytes ≡ concat bodies →
    SomeIff file (TRANSPORT_HEADER_BYTES ≤ length open_file.bytes) (record { vc = vc; apid = apid; bodies = bodies })

-- the file of the bodies that a packet ends, if it ends some
abbrev pub IsFileOf : Good → Option Open → Option File → Type 0
IsFileOf packet None file = file ≡ None
IsFileOf packet (Some open_file) file = IsBuilt packet.vc packet.apid open_file file
