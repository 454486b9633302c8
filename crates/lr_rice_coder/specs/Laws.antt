-- What holds of all coded lines, and of all files that are coded anew.
use Rattle.std.specs.Prelude.{◌≡◌, ◌≤◌, ◌^◌, ◌<◌, ℕ, List, ◌∷◌, ◌++◌, length, drop, Result}
use Rattle.std.specs.List.{All}
use Rattle.lr_bits.specs.Bits.{bits_of}
use Rattle.lr_bits.specs.File.{File}
use Rattle.lr_rice.specs.CodedLines.{BeginsWithLines, Codes, Form, GrowsByLines, IsLine}
use Rattle.lr_rice_coder.specs.Coded.{ArePaddedBits, IsBlockSize, IsCodable, IsCodedLine, byte_count}
use Rattle.lr_rice_coder.specs.Refusals.{HasRepackOutcome}
use Rattle.lr_rice_coder.specs.Repacked.{HaveOneImage, IsRepacked, KeepsName, TellsLengths}
use Rattle.lr_rice_coder.specs.declared.fault.RepackFault.{RepackFault}
use Rattle.lr_rice_coder.specs.Shortest.{line_places, shortest_string}

-- samples of a line that can be coded
pub record IsRow (form : Form) (samples : List ℕ) : Type 0 where
  pub codable : IsCodable form
  pub columns : form.columns ≡ length samples
  pub small : All (λ sample. sample < 2 ^ form.bits) samples

-- the mapped values of a line: those past the columns are 0
abbrev pub line_values : Form → List ℕ → List ℕ
line_values form samples = drop 1 (line_places form samples)

-- a string codes the line's mapped values, which are those of its samples
pub record CodesLine (form : Form) (reference : ℕ) (samples string : List ℕ) : Type 0 where
  pub codes : Codes form reference (line_values form (reference ∷ samples)) string
  pub line : IsLine form (reference ∷ samples) string

abbrev pub ShortestCodesLine : Type 0
ShortestCodesLine =
    (form : Form) (reference : ℕ) (samples : List ℕ) → IsRow form (reference ∷ samples)
    → CodesLine form reference samples (shortest_string form (reference ∷ samples))

-- no coding of the same mapped values is shorter, whichever number stands in it as the reference
abbrev pub NoCodingIsShorter : Type 0
NoCodingIsShorter =
    (form : Form) (reference : ℕ) (samples : List ℕ) → IsRow form (reference ∷ samples)
    → (another : ℕ) (other : List ℕ) → Codes form another (line_values form (reference ∷ samples)) other
    → length (shortest_string form (reference ∷ samples)) ≤ length other

-- the bytes that the string fills begin with a coding of this line
abbrev pub CodedIsDecoded : Type 0
CodedIsDecoded =
    (form : Form) (reference : ℕ) (samples bytes : List ℕ) → IsRow form (reference ∷ samples)
    → ArePaddedBits bytes (shortest_string form (reference ∷ samples))
    → BeginsWithLines form 1 (reference ∷ samples) (bits_of bytes)

-- decoding one line of such bytes gives the samples of the line, and no others
abbrev pub DecodingGivesTheLine : Type 0
DecodingGivesTheLine =
    (form : Form) (reference : ℕ) (samples bytes old new : List ℕ) → IsRow form (reference ∷ samples)
    → ArePaddedBits bytes (shortest_string form (reference ∷ samples)) → GrowsByLines form 1 (bits_of bytes) old new
    → new ≡ old ++ (reference ∷ samples)

-- a line has one list of bytes
abbrev pub CodedLinesAreOne : Type 0
CodedLinesAreOne =
    (form : Form) (samples bytes other : List ℕ) → IsCodedLine form samples bytes → IsCodedLine form samples other
    → bytes ≡ other

-- a string fills as many bytes as its bits need
abbrev pub FillingsAreWhole : Type 0
FillingsAreWhole = (string bytes : List ℕ) → ArePaddedBits bytes string → length bytes ≡ byte_count string

-- a file that is coded anew has the image of the old one
abbrev pub RepackedKeepsImage : Type 0
RepackedKeepsImage = (file new : File) (block : ℕ) → IsBlockSize block → IsRepacked file block new
    → HaveOneImage file new

-- and its channel, application and file counter
abbrev pub RepackedKeepsName : Type 0
RepackedKeepsName = (file new : File) (block : ℕ) → IsRepacked file block new → KeepsName file new

-- both lengths in bits that it tells are the real ones: that of the file proper, and that of the data field
abbrev pub RepackedTellsLengths : Type 0
RepackedTellsLengths = (file new : File) (block : ℕ) → IsRepacked file block new → TellsLengths new

-- a file is coded anew in one way, or has one first refusal, and not both
abbrev pub RepacksAreOne : Type 0
RepacksAreOne =
    (file : File) (block : ℕ) (one other : Result File RepackFault) → HasRepackOutcome file block one
    → HasRepackOutcome file block other → one ≡ other
