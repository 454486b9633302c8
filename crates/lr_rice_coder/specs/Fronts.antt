-- What the steps of coding a file anew do. No clause of a public call cites this.
use Rattle.std.specs.Prelude.{◌≡◌, ◌<◌, ◌≤◌, ◌+◌, ◌*◌, ◌^◌, ℕ, List, [], ◌∷◌, ◌++◌, length, map}
use Rattle.std.specs.List.{concat, sum_by}
use Rattle.lr_bits.specs.File.{File, IsFile, counter_of}
use Rattle.lr_bits.specs.Sizes.{most_body_bytes, most_file_bytes}
use Rattle.lr_bits.specs.declared.sizes.TheConstants.{TRANSPORT_HEADER_BYTES}
use Rattle.lr_bits.specs.Written.{primary_record, transport_header}
use Rattle.lr_headers.specs.declared.fields.Structure.{Structure}
use Rattle.lr_rice.specs.CodedLines.{Form}
use Rattle.lr_image.specs.Picture.{Picture, IsPicture}
use Rattle.lr_rice_coder.specs.Coded.{IsBlockSize, IsCodedLine}
use Rattle.lr_rice_coder.specs.Repacked.{AreCodedLines, lossless_record, new_records_bytes}
use Rattle.lr_rice_coder.specs.Repacked.{line_size, rows_of, lossless_structure}
use Rattle.lr_rice_coder.specs.Refusals.{AreShort, HasLongLine}
use Rattle.lr_rice_coder.specs.declared.files.LineBytes.{LineBytes}
use Rattle.lr_rice_coder.specs.declared.fault.RepackFault.{RepackFault}
use Rattle.lr_rice_coder.specs.declared.fault.RepackFault.TheVariants as fault

-- the image of this structure and these pixels
abbrev pub picture_with : Structure → List ℕ → Picture
picture_with s pixels = record { bits = s.bits; columns = s.columns; lines = s.lines; pixels = pixels }

-- what is known of an image that is coded
pub record IsCodedImage (s : Structure) (pixels : List ℕ) (block : ℕ) : Type 0 where
  pub picture : IsPicture (picture_with s pixels)
  pub deep : 5 ≤ s.bits
  pub some : 1 ≤ s.columns
  pub narrow : s.columns < 65536
  pub low : s.lines < 65536
  pub block_is : IsBlockSize block

-- the first body, by the records that stay and the number of bytes of the lines
unfoldable pub front_with : ℕ → Structure → ℕ → List ℕ → ℕ → List ℕ
front_with counter s block others size =
    transport_header counter (8 * (new_records_bytes + length others + size))
    ++ (primary_record 0 (new_records_bytes + length others) (8 * size) ++ lossless_structure (picture_with s [])
    ++ lossless_record block
    ++ others)

-- the file with this first body and these lines
abbrev pub file_with_lines : File → Structure → ℕ → List ℕ → List (List ℕ) → File
file_with_lines file s block others lines = record {
  vc = file.vc;
  apid = file.apid;
  bodies = front_with (counter_of file) s block others (length (concat lines)) ∷ lines;
}

-- the bytes of a row were appended, and this is how many
pub record AppendsRow (form : Form) (row old new : List ℕ) (size : ℕ) : Type 0 where
  pub bytes : List ℕ
  pub coded : IsCodedLine form row bytes
  pub appended : new ≡ old ++ bytes
  pub size_is : size ≡ length bytes

-- All lines were coded. Their lengths and bytes were appended as long as all of them are no more than there is room
-- for; how many bytes they have is known anyway.
pub record AppendsLines (picture : Picture) (block room : ℕ) (old new : LineBytes) : Type 0 where
  pub lines : List (List ℕ)
  pub coded : AreCodedLines picture block lines
  pub size_is : new.size ≡ length (concat lines)
  pub lengths : new.size ≤ room → new.lengths ≡ old.lengths ++ map length lines
  pub bytes : new.size ≤ room → new.bytes ≡ concat lines
  pub few : new.size ≤ 65535 * picture.lines

-- All lines are coded, after a first body of `first` bytes. Where a file has room for them, lengths and bytes are held.
pub record HoldsLines (picture : Picture) (block first : ℕ) (held : LineBytes) : Type 0 where
  pub lines : List (List ℕ)
  pub coded : AreCodedLines picture block lines
  pub size_is : held.size ≡ length (concat lines)
  pub lengths : first ≤ most_body_bytes → first + held.size ≤ most_file_bytes → held.lengths ≡ first ∷ map length lines
  pub bytes : first ≤ most_body_bytes → first + held.size ≤ most_file_bytes → held.bytes ≡ concat lines
  pub few : held.size < 2 ^ 32

-- what the new header says: how many samples a block has, and the records that stay
pub record NewRecords : Type 0 where
  pub block : ℕ
  pub others : List ℕ

-- the file was made of the image's lines
pub record MakesFile (file : File) (s : Structure) (pixels : List ℕ) (records : NewRecords) (new : File)
    : Type 0 where
  pub counter : counter_of file < 65536
  pub lines : List (List ℕ)
  pub coded : AreCodedLines (picture_with s pixels) records.block lines
  pub is_new : new ≡ file_with_lines file s records.block records.others lines
  pub is_file : IsFile new

-- why they weren't; want of memory may come at any time
abbrev pub CodingFails : Picture → ℕ → RepackFault → Type 0
CodingFails picture block (fault.Line line) = HasLongLine picture block line
CodingFails picture block fault.NoMemory = Unit {0}
CodingFails picture block fault = ⊥

-- why the file wasn't made: a line, its first body or the file is too long
pub record FirstIsLong (picture : Picture) (block : ℕ) (others : List ℕ) (size : ℕ) : Type 0 where
  pub short : AreShort picture block picture.lines
  pub size_is : size ≡ TRANSPORT_HEADER_BYTES + new_records_bytes + length others
  pub long : most_body_bytes < size

pub record FileIsLong (picture : Picture) (block : ℕ) (others : List ℕ) (size : ℕ) : Type 0 where
  pub short : AreShort picture block picture.lines
  pub fits : TRANSPORT_HEADER_BYTES + new_records_bytes + length others ≤ most_body_bytes
  pub size_is : size
      ≡ TRANSPORT_HEADER_BYTES + new_records_bytes + length others + sum_by (line_size picture block) (rows_of picture)
  pub long : most_file_bytes < size

abbrev pub MakingFails : Picture → ℕ → List ℕ → RepackFault → Type 0
MakingFails picture block others (fault.Image cause) = ⊥
MakingFails picture block others (fault.Depth bits) = ⊥
MakingFails picture block others (fault.Line line) = HasLongLine picture block line
MakingFails picture block others (fault.Header size) = FirstIsLong picture block others size
MakingFails picture block others (fault.File size) = FileIsLong picture block others size
MakingFails picture block others fault.NoMemory = Unit {0}
