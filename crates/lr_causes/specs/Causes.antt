-- Why a call ended, the status of each cause, and the line that it puts on `err`.
use Rattle.std.specs.Prelude.{◌≡◌, ℕ, List, [], ◌++◌, Option, Some, None, codes, decimal}
use Rattle.lr_bits.specs.Faults.{Rose}
use Rattle.lr_forms.specs.declared.forms.Stop.{Stop}
use Rattle.lr_forms.specs.declared.forms.Stop.TheVariants.{End, Limit, Fault}
use Rattle.lr_causes.specs.declared.cause.Party.{Party}
use Rattle.lr_causes.specs.declared.cause.Party.TheVariants.{Source, Disk, Output}
use Rattle.lr_causes.specs.declared.cause.Refusal.TheVariants.{NotAShelf, NoSuchFile, Capacity}
use Rattle.lr_causes.specs.declared.cause.Refusal.TheVariants.{NotEmpty, BadChecksum, Discarded}
use Rattle.lr_causes.specs.declared.cause.Refusal.TheVariants.{CannotExport, BadBundle, CannotSend}
use Rattle.lr_causes.specs.declared.cause.Refusal.TheVariants.{CannotRepack}
use Rattle.lr_causes.specs.declared.cause.Cause.{Cause}
use Rattle.lr_causes.specs.declared.cause.Cause.TheVariants.{Done, DoneWith, Usage, Failed, NoMemory, Refused}
use Rattle.lr_causes.specs.declared.fault.BundleFlaw.{BundleFlaw}
use Rattle.lr_causes.specs.declared.fault.BundleFlaw.TheVariants.{Ended, Count, Rest, TooLong}
use Rattle.lr_causes.specs.declared.fault.ExportFault.{ExportFault}
use Rattle.lr_causes.specs.declared.note.Note.{Note}
use Rattle.lr_causes.specs.declared.note.Note.TheVariants.{Assembled, Rendered}
use Rattle.lr_causes.specs.Faults.{coding_word, fault_word}

abbrev pub status_of : Cause → ℕ
status_of Done = 0
status_of (DoneWith note) = 0
status_of Usage = 2
status_of (Failed Source) = 3
status_of (Failed Disk) = 4
status_of (Failed Output) = 5
status_of NoMemory = 9
status_of (Refused (NotAShelf at)) = 6
status_of (Refused (NoSuchFile count)) = 7
status_of (Refused (CannotExport fault)) = 8
status_of (Refused (Capacity needed capacity)) = 10
status_of (Refused (NotEmpty size)) = 11
status_of (Refused BadChecksum) = 12
status_of (Refused Discarded) = 13
status_of (Refused (BadBundle flaw)) = 14
status_of (Refused CannotSend) = 15
status_of (Refused (CannotRepack fault)) = 16

abbrev pub note_line : Note → List ℕ
note_line (Assembled added skipped uncovered) = codes "assembled " ++ decimal added ++ codes " skipped "
    ++ decimal skipped ++ codes " uncovered " ++ decimal uncovered ++ codes "\n"
note_line (Rendered images skipped) = codes "rendered " ++ decimal images ++ codes " skipped " ++ decimal skipped
    ++ codes "\n"

-- why what was read is no bundle of recordings
abbrev pub bundle_line : BundleFlaw → List ℕ
bundle_line (Ended at) = codes "station: bad bundle: ended " ++ decimal at ++ codes "\n"
bundle_line (Count count) = codes "station: bad bundle: count " ++ decimal count ++ codes "\n"
bundle_line (Rest at) = codes "station: bad bundle: rest " ++ decimal at ++ codes "\n"
bundle_line TooLong = codes "station: bad bundle: too-long\n"

abbrev pub line_of : Cause → List ℕ
line_of Done = []
line_of (DoneWith note) = note_line note
line_of Usage = codes "station: usage: SHELF COMMAND [WORDS]\n"
line_of (Failed Source) = codes "station: source failed\n"
line_of (Failed Disk) = codes "station: disk failed\n"
line_of (Failed Output) = codes "station: output failed\n"
line_of NoMemory = codes "station: no memory\n"
line_of (Refused (NotAShelf at)) = codes "station: not a shelf at " ++ decimal at ++ codes "\n"
line_of (Refused (NoSuchFile count)) = codes "station: no such file, count " ++ decimal count ++ codes "\n"
line_of (Refused (Capacity needed capacity)) = codes "station: capacity: needs " ++ decimal needed
    ++ codes " of " ++ decimal capacity ++ codes "\n"
line_of (Refused (NotEmpty size)) = codes "station: not empty, length " ++ decimal size ++ codes "\n"
line_of (Refused BadChecksum) = codes "station: bad checksum\n"
line_of (Refused Discarded) = codes "station: discarded\n"
line_of (Refused (CannotExport fault)) = codes "station: cannot export: " ++ fault_word fault ++ codes "\n"
line_of (Refused (BadBundle flaw)) = bundle_line flaw
line_of (Refused CannotSend) = codes "station: cannot send: fill\n"
line_of (Refused (CannotRepack fault)) = codes "station: cannot repack: " ++ coding_word fault ++ codes "\n"

-- done, with what is told of it, if anything
abbrev pub done_with : Option Note → Cause
done_with None = Done
done_with (Some note) = DoneWith note

-- no PGM can be put for this fault; without one memory was refused
abbrev pub cause_of_fault : Option ExportFault → Cause
cause_of_fault None = NoMemory
cause_of_fault (Some fault) = Refused (CannotExport fault)

-- how often each party has failed
pub record FaultCounts : Type 0 where
  pub source : ℕ
  pub disk : ℕ
  pub output : ℕ

abbrev pub count_of_party : Party → FaultCounts → ℕ
count_of_party Source counts = counts.source
count_of_party Disk counts = counts.disk
count_of_party Output counts = counts.output

-- a cause that names a party comes only where that party's count rose
abbrev pub IsCaused : Cause → FaultCounts → FaultCounts → Type 0
IsCaused (Failed party) before now = Rose (count_of_party party before) (count_of_party party now)
IsCaused _ before now = Unit {0}

-- how often the source, the disk and `out` have failed
abbrev pub counts : ℕ → ℕ → ℕ → FaultCounts
counts source disk output = record { source = source; disk = disk; output = output }

-- the cause of a run that put its last line
abbrev pub cause_at : Stop → Cause
cause_at End = Done
cause_at Limit = Done
cause_at Fault = Failed Source

-- an event that comes before a refusal: the disk failed, or memory was refused
abbrev pub IsEarlier : Cause → Type 0
IsEarlier (Failed Disk) = Unit {0}
IsEarlier NoMemory = Unit {0}
IsEarlier _ = ⊥

-- the causes that come before any byte is read: the disk failed, no shelf stands there at this place, or memory was
-- refused
abbrev pub MayEndBefore : ℕ → Cause → Type 0
MayEndBefore at (Failed Disk) = Unit {0}
MayEndBefore at (Refused (NotAShelf at')) = at' ≡ at
MayEndBefore at NoMemory = Unit {0}
MayEndBefore at _ = ⊥
