-- The cause of what a shelf, an image or an assembly of segments was refused for.
use Rattle.std.specs.Prelude.{◌≡◌, Option, Some, None, Result, Ok, Err}
use Rattle.lr_image.specs.declared.fault.ImageFault.{ImageFault}
use Rattle.lr_image.specs.declared.fault.ImageFault.TheVariants.{Headers as Headers'}
use Rattle.lr_image.specs.declared.fault.ImageFault.TheVariants.{NotImage as NotImage'}
use Rattle.lr_image.specs.declared.fault.ImageFault.TheVariants.{NoStructure as NoStructure'}
use Rattle.lr_image.specs.declared.fault.ImageFault.TheVariants.{Encrypted as Encrypted'}
use Rattle.lr_image.specs.declared.fault.ImageFault.TheVariants.{Compression as Compression'}
use Rattle.lr_image.specs.declared.fault.ImageFault.TheVariants.{Depth as Depth', Empty as Empty'}
use Rattle.lr_image.specs.declared.fault.ImageFault.TheVariants.{TooLarge as TooLarge'}
use Rattle.lr_image.specs.declared.fault.ImageFault.TheVariants.{Flags as Flags'}
use Rattle.lr_image.specs.declared.fault.ImageFault.TheVariants.{BlockSize as BlockSize'}
use Rattle.lr_image.specs.declared.fault.ImageFault.TheVariants.{LinesPerPacket as LinesPerPacket'}
use Rattle.lr_image.specs.declared.fault.ImageFault.TheVariants.{Rice as Rice', Short as Short'}
use Rattle.lr_image.specs.declared.fault.ImageFault.TheVariants.{NoMemory as NoImageMemory}
use Rattle.lr_segment.specs.declared.fault.AssembleFault.{AssembleFault}
use Rattle.lr_segment.specs.declared.fault.AssembleFault.TheVariants.{Empty as NoWhole}
use Rattle.lr_segment.specs.declared.fault.AssembleFault.TheVariants.{TooLarge as LargeWhole}
use Rattle.lr_segment.specs.declared.fault.AssembleFault.TheVariants.{Depths as OtherDepth}
use Rattle.lr_segment.specs.declared.fault.AssembleFault.TheVariants.{Outside as PastWhole}
use Rattle.lr_segment.specs.declared.fault.AssembleFault.TheVariants.{NoMemory as NoWholeMemory}
use Rattle.lr_shelf.specs.declared.error.ShelfError.{ShelfError}
use Rattle.lr_shelf.specs.declared.error.ShelfError.TheVariants.{Disk as Disk'}
use Rattle.lr_shelf.specs.declared.error.ShelfError.TheVariants.{NotAShelf as NotAShelf'}
use Rattle.lr_shelf.specs.declared.error.ShelfError.TheVariants.{NotEmpty as NotEmpty'}
use Rattle.lr_shelf.specs.declared.error.ShelfError.TheVariants.{Capacity as Capacity'}
use Rattle.lr_shelf.specs.declared.error.ShelfError.TheVariants.{NoSuchFile as NoSuchFile'}
use Rattle.lr_shelf.specs.declared.error.ShelfError.TheVariants.{Crc as Crc', NoMemory as NoMemory'}
use Rattle.lr_shelf.specs.declared.error.ShelfError.TheVariants.{Failed as Failed'}
use Rattle.lr_shelf.specs.declared.error.ShelfError.TheVariants.{Discarded as Discarded'}
use Rattle.lr_causes.specs.declared.cause.Cause.{Cause}
use Rattle.lr_causes.specs.declared.cause.Cause.TheVariants.{Failed, NoMemory, Refused}
use Rattle.lr_causes.specs.declared.cause.Party.TheVariants.{Disk}
use Rattle.lr_causes.specs.declared.cause.Refusal.TheVariants.{NotAShelf, NoSuchFile, Capacity}
use Rattle.lr_causes.specs.declared.cause.Refusal.TheVariants.{NotEmpty, BadChecksum, Discarded}
use Rattle.lr_causes.specs.declared.fault.ExportFault.{ExportFault}
use Rattle.lr_causes.specs.declared.fault.ExportFault.TheVariants.{Headers, NotImage, NoStructure}
use Rattle.lr_causes.specs.declared.fault.ExportFault.TheVariants.{Encrypted, Compression, Depth}
use Rattle.lr_causes.specs.declared.fault.ExportFault.TheVariants.{Empty, TooLarge, Flags}
use Rattle.lr_causes.specs.declared.fault.ExportFault.TheVariants.{BlockSize, LinesPerPacket, Rice}
use Rattle.lr_causes.specs.declared.fault.ExportFault.TheVariants.{Short, Depths, Outside}

-- the cause of what a call on a shelf answers; a shelf that failed before answers as a disk that fails
abbrev pub cause_of : ShelfError → Cause
cause_of Disk' = Failed Disk
cause_of Failed' = Failed Disk
cause_of (NotAShelf' at) = Refused (NotAShelf at)
cause_of (NotEmpty' size) = Refused (NotEmpty size)
cause_of (Capacity' needed capacity) = Refused (Capacity needed capacity)
cause_of (NoSuchFile' count) = Refused (NoSuchFile count)
cause_of (Crc' stored computed) = Refused BadChecksum
cause_of NoMemory' = NoMemory
cause_of Discarded' = Refused Discarded

-- what a call on a shelf gave, or the cause of its error
abbrev pub answer_by : {A : Type 0} → Result A ShelfError → Result A Cause
answer_by (Ok given) = Ok given
answer_by (Err error) = Err (cause_of error)

-- what an entry gives, by what a shelf answers for it: its file, nothing where it is gone, or the error's cause
abbrev pub IsFileOrGone : {A : Type 0} → Result A ShelfError → Result (Option A) Cause → Type 0
IsFileOrGone (Ok file) given = given ≡ Ok (Some file)
IsFileOrGone (Err error) (Ok None) = error ≡ Discarded'
IsFileOrGone (Err error) (Ok (Some file)) = ⊥
IsFileOrGone (Err error) (Err cause) = (error ≡ Discarded' → ⊥) × (cause ≡ cause_of error)

-- why no PGM can be put:
-- of an image; want of memory is none
abbrev pub image_fault : ImageFault → Option ExportFault
image_fault (Headers' cause) = Some Headers
image_fault (NotImage' kind) = Some NotImage
image_fault NoStructure' = Some NoStructure
image_fault Encrypted' = Some Encrypted
image_fault (Compression' value) = Some Compression
image_fault (Depth' bits) = Some Depth
image_fault Empty' = Some Empty
image_fault (TooLarge' pixels) = Some TooLarge
image_fault (Flags' flags) = Some Flags
image_fault (BlockSize' block) = Some BlockSize
image_fault LinesPerPacket' = Some LinesPerPacket
image_fault (Rice' piece rice) = Some Rice
image_fault (Short' pixels) = Some Short
image_fault NoImageMemory = None

-- of segments that are put together; want of memory is none
abbrev pub assembly_fault : AssembleFault → Option ExportFault
assembly_fault NoWhole = Some Empty
assembly_fault (LargeWhole pixels) = Some TooLarge
assembly_fault (OtherDepth kept given) = Some Depths
assembly_fault PastWhole = Some Outside
assembly_fault NoWholeMemory = None
