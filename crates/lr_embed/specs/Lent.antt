-- A call over bytes that the caller lends: what the station does to a source, a disk and two sinks that hold them.
use Rattle.std.specs.Prelude.{◌≡◌, ◌⊎◌, ◌<◌, ◌++◌, ℕ, None, IsTrue, List, [], length, drop}
use Rattle.lr_disk.specs.Disk.{Only}
use Rattle.lr_disk.specs.MemDisk.{held_by as disk_bytes, room_of as disk_room, faults_of as disk_faults}
use Rattle.lr_disk.specs.MemDisk.{images_by, calls_allowed, calls_made, bytes_written, failing_call}
use Rattle.lr_disk.specs.declared.mem.MemDisk.{MemDisk}
use Rattle.lr_io.specs.MemSink.{held_by, room_of, faults_of, failing_places}
use Rattle.lr_io.specs.declared.sink.MemSink.{MemSink}
use Rattle.lr_station.specs.Effects.{alone}
use Rattle.lr_station.specs.Runs.{StationWorld, StationOutside, Stations}
use Rattle.lr_embed.specs.declared.run.Counts.{Counts}
use Rattle.lr_embed.specs.declared.source.LentSource.{LentSource}
use Rattle.lr_words.specs.Commands.{command_of, runs_alone_by}
use Rattle.lr_words.specs.Lines.{no_memory, no_text_given}

-- the bytes of a source that are left
abbrev pub left_of_lent : LentSource → List ℕ
left_of_lent s = s.rest.now

-- what is lent to a call: the words; what the command reads; the shelf; how many calls of the shelf there may be; and
-- how long the rooms are for what it puts, for what it tells and for the shelf
pub record LentToCall : Type 0 where
  pub words : List (List ℕ)
  pub input : List ℕ
  pub shelf : List ℕ
  pub calls : ℕ
  pub out_room : ℕ
  pub err_room : ℕ
  pub shelf_room : ℕ

abbrev pub lent_to_call : List (List ℕ) → (input shelf : List ℕ) → (calls out_room err_room shelf_room : ℕ) → LentToCall
lent_to_call words input shelf calls out_room err_room shelf_room = record {
  words = words;
  input = input;
  shelf = shelf;
  calls = calls;
  out_room = out_room;
  err_room = err_room;
  shelf_room = shelf_room;
}

-- the three rooms, at some moment
pub record Rooms : Type 0 where
  pub out : List ℕ
  pub err : List ℕ
  pub shelf : List ℕ

abbrev pub rooms : (out err shelf : List ℕ) → Rooms
rooms out err shelf = record { out = out; err = err; shelf = shelf }

-- a disk of these bytes with nothing pending and this room. It allows this number of calls, of which none was made and
-- none is to fail.
pub record IsDiskOf (bytes : List ℕ) (room calls : ℕ) (disk : MemDisk) : Type 0 where
  pub holds : disk_bytes disk ≡ bytes
  pub durable : Only bytes (images_by disk)
  pub has_room : disk_room disk ≡ room
  pub allowed : calls_allowed disk ≡ calls
  pub made : calls_made disk ≡ 0
  pub written : bytes_written disk ≡ 0
  pub failing : failing_call disk ≡ None
  pub faults : disk_faults disk ≡ 0

-- an empty sink with this room, no call of which is to fail
pub record IsEmptySink (room : ℕ) (sink : MemSink) : Type 0 where
  pub empty : held_by sink ≡ []
  pub has_room : room_of sink ≡ room
  pub failing : failing_places sink ≡ []
  pub faults : faults_of sink ≡ 0

-- the station was called over what is lent, and put, told and left this
pub record RunsLent (all : StationWorld LentSource MemDisk MemSink MemSink) (given : LentToCall) (status : ℕ)
    (said told left : List ℕ) : Type 0 where
  pub before : StationOutside LentSource MemDisk MemSink MemSink
  pub after : StationOutside LentSource MemDisk MemSink MemSink
  pub gives_input : left_of_lent before.outside.source ≡ given.input
  pub gives_shelf : IsDiskOf given.shelf given.shelf_room given.calls before.outside.disk
  pub gives_out : IsEmptySink given.out_room before.outside.out
  pub gives_err : IsEmptySink given.err_room before.err
  pub stations : Stations all (alone (command_of given.words)) status before after
  pub unknown : (IsTrue (runs_alone_by given.words) → ⊥) → status ≡ 2
  pub is_status : status < 256
  pub says : held_by after.outside.out ≡ said
  pub tells : held_by after.err ≡ told
  pub keeps : disk_bytes after.outside.disk ≡ left

-- the front of a room got these bytes, this is how many, and its rest is as it was
pub record GotBytes (old new : List ℕ) (count : ℕ) (bytes : List ℕ) : Type 0 where
  pub counts : count ≡ length bytes
  pub holds : new ≡ bytes ++ drop count old

-- The station was called over what is lent and answered its status; what it put, what it told and the shelf's bytes
-- afterwards are at the front of the three rooms.
pub record HasRun (all : StationWorld LentSource MemDisk MemSink MemSink) (given : LentToCall) (status : ℕ)
    (counts : Counts)
    (before after : Rooms) : Type 0 where
  pub said : List ℕ
  pub told : List ℕ
  pub left : List ℕ
  pub runs : RunsLent all given status said told left
  pub has_said : GotBytes before.out after.out counts.out said
  pub has_told : GotBytes before.err after.err counts.err told
  pub has_left : GotBytes before.shelf after.shelf counts.shelf left

-- the shelf is longer than its room, which is no status either
abbrev pub no_room : ℕ
no_room = 258

-- no answer of the station came, and the rooms are as they were
pub record HasNotRun (answer : ℕ) (before after : Rooms) : Type 0 where
  pub is : (answer ≡ no_memory) ⊎ (answer ≡ no_text_given) ⊎ (answer ≡ no_room)
  pub stay : after ≡ before
