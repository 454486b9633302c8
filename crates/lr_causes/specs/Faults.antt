-- The words for why no PGM can be put, and why an image is not coded anew.
use Rattle.std.specs.Prelude.{ℕ, List, codes}
use Rattle.lr_causes.specs.declared.fault.CodingFault.{CodingFault}
use Rattle.lr_causes.specs.declared.fault.CodingFault.TheVariants.{Depth as BelowFive}
use Rattle.lr_causes.specs.declared.fault.CodingFault.TheVariants.{Line as LongLine}
use Rattle.lr_causes.specs.declared.fault.CodingFault.TheVariants.{Header as LongHeader}
use Rattle.lr_causes.specs.declared.fault.CodingFault.TheVariants.{File as LongFile}
use Rattle.lr_causes.specs.declared.fault.ExportFault.{ExportFault}
use Rattle.lr_causes.specs.declared.fault.ExportFault.TheVariants.{Headers, NotImage, NoStructure}
use Rattle.lr_causes.specs.declared.fault.ExportFault.TheVariants.{Encrypted, Compression, Depth}
use Rattle.lr_causes.specs.declared.fault.ExportFault.TheVariants.{Empty, TooLarge, Flags}
use Rattle.lr_causes.specs.declared.fault.ExportFault.TheVariants.{BlockSize, LinesPerPacket, Rice}
use Rattle.lr_causes.specs.declared.fault.ExportFault.TheVariants.{Short, Depths, Outside}
use Rattle.lr_causes.specs.declared.fault.ExportFault.TheVariants.{NoSegment}

-- ---- no PGM

abbrev pub fault_word : ExportFault → List ℕ
fault_word Headers = codes "headers"
fault_word NotImage = codes "not-image"
fault_word NoStructure = codes "no-structure"
fault_word Encrypted = codes "encrypted"
fault_word Compression = codes "compression"
fault_word Depth = codes "depth"
fault_word Empty = codes "empty"
fault_word TooLarge = codes "too-large"
fault_word Flags = codes "flags"
fault_word BlockSize = codes "block-size"
fault_word LinesPerPacket = codes "lines-per-packet"
fault_word Rice = codes "rice"
fault_word Short = codes "short"
fault_word Depths = codes "depths"
fault_word Outside = codes "outside"
fault_word NoSegment = codes "no-segment"

-- ---- no coding

abbrev pub coding_word : CodingFault → List ℕ
coding_word BelowFive = codes "depth"
coding_word LongLine = codes "line"
coding_word LongHeader = codes "header"
coding_word LongFile = codes "file"
