-- Why a file isn't coded anew. The refusals stand in their order.
use Rattle.std.specs.Prelude.{◌≡◌, ◌<◌, ◌≤◌, ℕ, Result, Ok, Err}
use Rattle.lr_bits.specs.File.{File}
use Rattle.lr_bits.specs.Sizes.{most_body_bytes, most_file_bytes}
use Rattle.lr_headers.specs.Tiling.{Header}
use Rattle.lr_image.specs.Pgm.{line_pixels}
use Rattle.lr_image.specs.Picture.{Picture}
use Rattle.lr_image.specs.Images.{HasImageFault, IsImageOf}
use Rattle.lr_rice_coder.specs.Coded.{IsLong}
use Rattle.lr_rice_coder.specs.Repacked.{IsRepacked, IsSource, file_size, first_size, form_with}
use Rattle.lr_rice_coder.specs.declared.fault.RepackFault.{RepackFault}
use Rattle.lr_rice_coder.specs.declared.fault.RepackFault.TheVariants as fault

-- the image has fewer than 5 bits a pixel; none has more than 16
pub record IsShallow (file : File) (bits : ℕ) : Type 0 where
  pub picture : Picture
  pub is_image : IsImageOf file picture
  pub are_bits : bits ≡ picture.bits
  pub few : picture.bits < 5

-- the line at this place takes too many bytes
abbrev pub IsLongAt : Picture → ℕ → ℕ → Type 0
IsLongAt picture block line = IsLong (form_with picture block) (line_pixels picture line)

-- none of the first `end` lines does
abbrev pub AreShort : Picture → ℕ → ℕ → Type 0
AreShort picture block end = (line : ℕ) → line < end → IsLongAt picture block line → ⊥

-- this line is the first that takes too many bytes
pub record HasLongLine (picture : Picture) (block line : ℕ) : Type 0 where
  pub inside : line < picture.lines
  pub long : IsLongAt picture block line
  pub first : AreShort picture block line

-- this line of the file's image is the first that takes too many bytes
pub record HasLongLineAt (file : File) (block line : ℕ) : Type 0 where
  pub picture : Picture
  pub header : Header
  pub source : IsSource file picture header
  pub has : HasLongLine picture block line

-- the first body has more bytes than a packet's body has
pub record HasLongHeader (file : File) (block size : ℕ) : Type 0 where
  pub picture : Picture
  pub header : Header
  pub source : IsSource file picture header
  pub short : AreShort picture block picture.lines
  pub size_is : size ≡ first_size header
  pub long : most_body_bytes < size

-- the file has more bytes than files have
pub record IsLongFile (file : File) (block size : ℕ) : Type 0 where
  pub picture : Picture
  pub header : Header
  pub source : IsSource file picture header
  pub short : AreShort picture block picture.lines
  pub fits : first_size header ≤ most_body_bytes
  pub size_is : size ≡ file_size header picture block
  pub long : most_file_bytes < size

-- the first refusal; want of memory may come at any time
abbrev pub HasRepackFault : File → ℕ → RepackFault → Type 0
HasRepackFault file block (fault.Image cause) = HasImageFault file cause
HasRepackFault file block (fault.Depth bits) = IsShallow file bits
HasRepackFault file block (fault.Line line) = HasLongLineAt file block line
HasRepackFault file block (fault.Header size) = HasLongHeader file block size
HasRepackFault file block (fault.File size) = IsLongFile file block size
HasRepackFault file block fault.NoMemory = ⊥

abbrev pub HasRepackFaultOrMemory : File → ℕ → RepackFault → Type 0
HasRepackFaultOrMemory file block fault.NoMemory = Unit {0}
HasRepackFaultOrMemory file block fault = HasRepackFault file block fault

-- what a file gives: a file coded anew, or a first refusal
abbrev pub HasRepackOutcome : File → ℕ → Result File RepackFault → Type 0
HasRepackOutcome file block (Ok new) = IsRepacked file block new
HasRepackOutcome file block (Err fault) = HasRepackFault file block fault
