-- The lines of a header: one for each record, or one for its first fault.
use Rattle.std.specs.Prelude.{◌++◌, ℕ, Result, Ok, Err, List, [], ◌∷◌, codes, decimal}
use Rattle.std.specs.Fmt.{signed_decimal}
use Rattle.std.specs.List.{concat, flat_map}
use Rattle.lr_headers.specs.declared.contents.Content.{Content}
use Rattle.lr_headers.specs.declared.contents.Content.TheVariants.{
  Primary,
  Structure as StructureOf,
  Navigation as NavigationOf,
  Text,
  Stamp as StampOf,
  Key,
  Segment as SegmentOf,
  Lossless as LosslessOf,
  Other,
}
use Rattle.lr_headers.specs.declared.entry.Entry.{Entry}
use Rattle.lr_headers.specs.declared.fault.HeaderFault.{HeaderFault}
use Rattle.lr_headers.specs.declared.fault.HeaderFault.TheVariants.{Ended, NotPrimary, ShortRecord, Overrun}
use Rattle.lr_headers.specs.declared.fault.HeaderFault.TheVariants.{WrongLength, NoMemory}
use Rattle.lr_headers.specs.declared.fields.Structure.{Structure}
use Rattle.lr_headers.specs.declared.fields.Navigation.{Navigation}
use Rattle.lr_headers.specs.declared.fields.Segment.{Segment}
use Rattle.lr_headers.specs.declared.fields.Lossless.{Lossless}
use Rattle.lr_headers.specs.Fields.{content_of, contents_of}
use Rattle.lr_headers.specs.Headers.{header_of}
use Rattle.lr_headers.specs.Stamps.{stamp_text}
use Rattle.lr_headers.specs.Tiling.{Header}
use Rattle.lr_catalog.specs.Texts.{escaped_text, trimmed_text}

-- the file type, the bytes of the header, and the declared bits of the data field
unfoldable pub primary_words : ℕ → ℕ → ℕ → List ℕ
primary_words kind size bits = concat (
    codes " primary type " ∷ decimal kind ∷ codes " header " ∷ decimal size ∷ codes " bits " ∷ decimal bits ∷ [])

unfoldable pub structure_words : Structure → List ℕ
structure_words structure = concat (
    codes " image bits " ∷ decimal structure.bits ∷ codes " columns " ∷ decimal structure.columns
    ∷ codes " lines " ∷ decimal structure.lines ∷ codes " compression " ∷ decimal structure.compression ∷ [])

-- the factors and the offsets, of columns and of lines
unfoldable pub projection_words : Navigation → List ℕ
projection_words navigation = concat (
    codes " " ∷ signed_decimal navigation.column_factor ∷ codes " " ∷ signed_decimal navigation.line_factor
    ∷ codes " " ∷ signed_decimal navigation.column_offset ∷ codes " " ∷ signed_decimal navigation.line_offset ∷ [])

-- the name of the projection, and these
abbrev pub navigation_words : Navigation → List ℕ
navigation_words navigation =
    codes " navigation " ++ escaped_text (trimmed_text navigation.name) ++ projection_words navigation

unfoldable pub segment_words : Segment → List ℕ
segment_words segment = concat (
    codes " segment " ∷ decimal segment.image ∷ codes " " ∷ decimal segment.number ∷ codes " "
    ∷ decimal segment.start_column ∷ codes " " ∷ decimal segment.start_line ∷ codes " " ∷ decimal segment.segments
    ∷ codes " " ∷ decimal segment.columns ∷ codes " " ∷ decimal segment.lines ∷ [])

unfoldable pub lossless_words : Lossless → List ℕ
lossless_words lossless = concat (
    codes " lossless flags " ∷ decimal lossless.flags ∷ codes " block " ∷ decimal lossless.block ∷ codes " lines "
    ∷ decimal lossless.lines ∷ [])

-- what a record says, whose contents are these
abbrev pub content_words : Content → List ℕ → List ℕ
content_words (Primary kind size bits) contents = primary_words kind size bits
content_words (StructureOf structure) contents = structure_words structure
content_words (NavigationOf navigation) contents = navigation_words navigation
content_words Text contents = codes " text " ++ escaped_text contents
content_words (StampOf stamp) contents = codes " stamp " ++ stamp_text stamp
content_words Key contents = codes " key"
content_words (SegmentOf segment) contents = segment_words segment
content_words (LosslessOf lossless) contents = lossless_words lossless
content_words Other contents = codes " other"

-- the kind of a record, and its length
unfoldable pub record_words : Entry → List ℕ
record_words e = concat (codes "record " ∷ decimal e.kind ∷ codes " length " ∷ decimal e.length ∷ [])

-- the line of a record of a header
unfoldable pub record_line : Header → Entry → List ℕ
record_line header e =
    record_words e ++ content_words (content_of header e) (contents_of header.bytes e) ++ codes "\n"

unfoldable pub ended_line : ℕ → List ℕ
ended_line at = concat (codes "header fault ended " ∷ decimal at ∷ codes "\n" ∷ [])

unfoldable pub short_line : ℕ → List ℕ
short_line at = concat (codes "header fault short " ∷ decimal at ∷ codes "\n" ∷ [])

unfoldable pub overrun_line : ℕ → List ℕ
overrun_line at = concat (codes "header fault overrun " ∷ decimal at ∷ codes "\n" ∷ [])

unfoldable pub length_line : ℕ → ℕ → List ℕ
length_line kind size =
    concat (codes "header fault length " ∷ decimal kind ∷ codes " " ∷ decimal size ∷ codes "\n" ∷ [])

-- the line of a fault; want of memory is none
abbrev pub fault_line : HeaderFault → List ℕ
fault_line (Ended at) = ended_line at
fault_line NotPrimary = codes "header fault not-primary\n"
fault_line (ShortRecord at) = short_line at
fault_line (Overrun at) = overrun_line at
fault_line (WrongLength kind size) = length_line kind size
fault_line NoMemory = []

-- the lines of a header, or the line of the first fault where there is none
abbrev pub read_lines : Result Header HeaderFault → List ℕ
read_lines (Ok header) = flat_map (record_line header) header.entries
read_lines (Err fault) = fault_line fault

-- the lines of the header of a mission file proper
unfoldable pub header_lines : List ℕ → List ℕ
header_lines proper = read_lines (header_of proper)
