-- `repack N BLOCK`: the image of a file is coded anew, and the file with it is added at the shelf's end.
use Rattle.std.specs.Prelude.{◌≡◌, ◌⊎◌, ◌<◌, ◌≤◌, ℕ, Option, Some, None, Result, Ok, Err, List, length, option_map}
use Rattle.lr_bits.specs.File.{File, bytes_of}
use Rattle.lr_bits.specs.declared.placed.Origin.{Origin}
use Rattle.lr_shelf_format.specs.Items.{add_item}
use Rattle.lr_shelf_format.specs.Way.{Way, EntryState, Sound, Bad, Gone, IsFound}
use Rattle.lr_shelf_format.specs.declared.stored.Stored.{Stored}
use Rattle.lr_rice_coder.specs.Repacked.{IsRepacked}
use Rattle.lr_rice_coder.specs.Refusals.{HasRepackOutcome, HasRepackFault}
use Rattle.lr_rice_coder.specs.declared.fault.RepackFault.{RepackFault}
use Rattle.lr_rice_coder.specs.declared.fault.RepackFault.TheVariants as fault
use Rattle.lr_catalog.specs.Repacks.{repack_line}
use Rattle.lr_image.specs.declared.fault.ImageFault.{ImageFault}
use Rattle.lr_refusals.specs.Errors.{image_fault}
use Rattle.lr_causes.specs.declared.cause.Cause.{Cause}
use Rattle.lr_causes.specs.declared.cause.Cause.TheVariants.{NoMemory, Refused}
use Rattle.lr_causes.specs.declared.cause.Refusal.{Refusal}
use Rattle.lr_causes.specs.declared.cause.Refusal.TheVariants.{NotAShelf, NoSuchFile, BadChecksum, Discarded}
use Rattle.lr_causes.specs.declared.cause.Refusal.TheVariants.{CannotExport, CannotRepack}
use Rattle.lr_causes.specs.declared.fault.CodingFault.TheVariants.{Depth, Line, Header, File as LongFile}
use Rattle.lr_cmd_shelf.specs.Adding.{Addition, AdditionQuery}
use Rattle.lr_cmd_shelf.specs.declared.repack.Repacked.{Repacked}
use Rattle.lr_cmd_shelf.specs.Queries.{entry_at}

-- the origin of a file that has none, as version 1 stored it
abbrev pub no_origin : Origin
no_origin = record { first = 0; last = 0; corrected = 0 }

-- that of the new file: the old one's
abbrev pub origin_kept : Option Origin → Origin
origin_kept (Some origin) = origin
origin_kept None = no_origin

-- what is added: the new file with the old one's origin, and the line with the numbers of both and their bytes
abbrev pub repack_addition : ℕ → Way → Stored → File → Addition
repack_addition number way stored new = record {
  item = add_item new (origin_kept stored.origin);
  text = repack_line number (length way.entries) (length (bytes_of stored.file)) (length (bytes_of new));
}

-- what the command is refused for where a file isn't coded anew; want of memory is no refusal
abbrev pub repack_refusal : RepackFault → Option Refusal
repack_refusal (fault.Image cause) = option_map CannotExport (image_fault cause)
repack_refusal (fault.Depth bits) = Some (CannotRepack Depth)
repack_refusal (fault.Line line) = Some (CannotRepack Line)
repack_refusal (fault.Header size) = Some (CannotRepack Header)
repack_refusal (fault.File size) = Some (CannotRepack LongFile)
repack_refusal fault.NoMemory = None

-- what is decided of what comes of the file of this number
abbrev pub DecidesCoded : ℕ → Way → Stored → Result File RepackFault → Result Addition Refusal → Type 0
DecidesCoded number way stored (Ok new) result = result ≡ Ok (repack_addition number way stored new)
DecidesCoded number way stored (Err fault) result =
    (refusal : Refusal) × (repack_refusal fault ≡ Some refusal) × (result ≡ Err refusal)

module _ (number block : ℕ) where
  -- of what stands at the entry
  abbrev pub DecidesFound : Way → Option EntryState → Result Addition Refusal → Type 0
  DecidesFound way None result = result ≡ Err (NotAShelf (entry_at way number).gate)
  DecidesFound way (Some Gone) result = result ≡ Err Discarded
  DecidesFound way (Some (Bad stored computed)) result = result ≡ Err BadChecksum
  DecidesFound way (Some (Sound stored)) result =
      (outcome : Result File RepackFault) × HasRepackOutcome stored.file block outcome
      × DecidesCoded number way stored outcome result

  -- of bytes of this way
  abbrev pub DecidesRepack : List ℕ → Way → Result Addition Refusal → Type 0
  DecidesRepack bytes way result =
      ((length way.entries ≤ number) × (result ≡ Err (NoSuchFile (length way.entries))))
      ⊎ ((number < length way.entries)
      × ((found : Option EntryState) × IsFound bytes (entry_at way number) found × DecidesFound way found result))

  -- what may be added, over any disk
  pub record MakesRepacked (addition : Addition) : Type 0 where
    pub way : Way
    pub stored : Stored
    pub new : File
    pub repacked : IsRepacked stored.file block new
    pub is : addition ≡ repack_addition number way stored new

  -- its refusals, over any disk
  abbrev pub RefusesRepack : Refusal → Type 0
  RefusesRepack (NoSuchFile count) = count ≤ number
  RefusesRepack Discarded = Unit {0}
  RefusesRepack BadChecksum = Unit {0}
  RefusesRepack (CannotExport fault) = (cause : ImageFault) × (image_fault cause ≡ Some fault)
  RefusesRepack (CannotRepack fault) = Unit {0}
  RefusesRepack _ = ⊥

  abbrev pub repack_query : AdditionQuery
  repack_query = record { makes = MakesRepacked; decides = DecidesRepack; may_refuse = RefusesRepack }

-- ---- a file that was read

-- the cause of a refusal; without one memory was refused
abbrev pub refusal_cause : Option Refusal → Cause
refusal_cause None = NoMemory
refusal_cause (Some refusal) = Refused refusal

-- what is answered for a file by what came of its coding: the file, or the fault's cause
abbrev pub coded_by : Result File RepackFault → Result File Cause
coded_by (Ok new) = Ok new
coded_by (Err fault) = Err (refusal_cause (repack_refusal fault))

-- the file was coded anew, and its line composed
pub record IsRepackOf (number place block : ℕ) (stored : Stored) (made : Repacked) : Type 0 where
  pub repacked : IsRepacked stored.file block made.placed.file
  pub origin : made.placed.origin ≡ origin_kept stored.origin
  pub line : made.line ≡ repack_line number place (length (bytes_of stored.file)) (length (bytes_of made.placed.file))

-- it wasn't: memory was refused, or this is its first refusal
abbrev pub IsNotRepacked : ℕ → Stored → Cause → Type 0
IsNotRepacked block stored cause =
    (cause ≡ NoMemory)
    ⊎ ((fault : RepackFault) × HasRepackFault stored.file block fault × (cause ≡ refusal_cause (repack_refusal fault)))
