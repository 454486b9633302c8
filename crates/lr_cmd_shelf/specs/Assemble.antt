-- `assemble FROM TO APID ID`: the segments of an image, put together.
use Rattle.std.specs.Prelude.{◌==◌, ℕ, Bool, true, false, Option, Some, None, is_some, option_and_then, Result, Ok, Err}
use Rattle.std.specs.Prelude.{List, [], ◌∷◌, length, count_by, if◌then◌else◌}
use Rattle.std.specs.List.{filter_map}
use Rattle.lr_bits.specs.File.{File, proper_of}
use Rattle.lr_headers.specs.Fields.{segment_of}
use Rattle.lr_headers.specs.Headers.{header_of}
use Rattle.lr_headers.specs.Tiling.{Header}
use Rattle.lr_headers.specs.declared.fault.HeaderFault.{HeaderFault}
use Rattle.lr_headers.specs.declared.fields.Segment.{Segment}
use Rattle.lr_image.specs.Pgm.{pgm_text}
use Rattle.lr_image.specs.Picture.{Picture}
use Rattle.lr_image.specs.declared.fault.ImageFault.{ImageFault}
use Rattle.lr_segment.specs.Canvas.{Member, member, member_fault, uncovered_count, whole_picture}
use Rattle.lr_causes.specs.declared.cause.Refusal.{Refusal}
use Rattle.lr_causes.specs.declared.cause.Refusal.TheVariants.{CannotExport}
use Rattle.lr_causes.specs.declared.fault.ExportFault.TheVariants.{NoSegment}
use Rattle.lr_causes.specs.declared.note.Note.{Note}
use Rattle.lr_causes.specs.declared.note.Note.TheVariants.{Assembled}
use Rattle.lr_cmd_shelf.specs.declared.opened.Opened.{Opened}
use Rattle.lr_cmd_shelf.specs.Looking.{images_where}
use Rattle.lr_cmd_shelf.specs.Queries.{Query}
use Rattle.lr_refusals.specs.Errors.{assembly_fault}
use Rattle.lr_cmd_shelf.specs.Files.{FileQuery, query_of_files, entries_between, no_text, refused_for}

-- ---- the segments of an image

-- the segment record of a header that is read without a fault
abbrev pub segment_read : Result Header HeaderFault → Option Segment
segment_read (Ok header) = segment_of header
segment_read (Err fault) = None

-- if it is that of a segment of this image
abbrev pub if_of : ℕ → Option Segment → Option Segment
if_of image (Some segment) = if segment.image == image then Some segment else None
if_of image None = None

-- the segment record of a file of this application that names this image
unfoldable pub segment_for_image : (apid image : ℕ) → File → Option Segment
segment_for_image apid image file =
    if file.apid == apid then if_of image (segment_read (header_of (proper_of file))) else None

-- a segment that has an image is a member
abbrev pub member_with : Option Segment → Option (Result Picture ImageFault) → Option Member
member_with (Some segment) (Some (Ok picture)) = Some (member picture segment)
member_with _ outcome = None

-- one that has a fault is skipped
abbrev pub is_without : Option Segment → Option (Result Picture ImageFault) → Bool
is_without (Some segment) (Some (Err fault)) = true
is_without _ outcome = false

-- ---- what becomes of the members

-- one that can't be put together with those before it is refused
abbrev pub join_fate : List Member → Option Member → Result (List ℕ) Refusal
join_fate members None = no_text
join_fate members (Some m) = refused_for (option_and_then assembly_fault (member_fault members m))

-- the text of the whole image
abbrev pub whole_fate : List Member → Result (List ℕ) Refusal
whole_fate [] = Err (CannotExport NoSegment)
whole_fate (first ∷ members) = Ok (pgm_text (whole_picture first (first ∷ members)))

-- how many members there are, how many segments were skipped, and how many pixels no member covers
abbrev pub note_of : List Member → ℕ → Option Note
note_of [] skipped = None
note_of (first ∷ members) skipped =
    Some (Assembled (length (first ∷ members)) skipped
    (uncovered_count first.segment.columns first.segment.lines (first ∷ members)))

-- ---- what is asked

module _ (apid image : ℕ) where
  abbrev pub member_of : Opened → Option Member
  member_of opened = member_with (segment_for_image apid image opened.stored.file) opened.image

  abbrev pub members_of : List Opened → List Member
  members_of read = filter_map member_of read

  abbrev pub skipped_of : List Opened → ℕ
  skipped_of read = count_by (λ opened. is_without (segment_for_image apid image opened.stored.file) opened.image) read

abbrev pub assemble_files_query : (from to apid image : ℕ) → FileQuery
assemble_files_query from to apid image = record {
  range = entries_between from to;
  sees = images_where (λ stored. is_some (segment_for_image apid image stored.file));
  fate = λ read n opened. join_fate (members_of apid image read) (member_of apid image opened);
  gone = λ n. no_text;
  last = λ way read. whole_fate (members_of apid image read);
  note = λ read. note_of (members_of apid image read) (skipped_of apid image read);
}

abbrev pub assemble_query : (from to apid image : ℕ) → Query
assemble_query from to apid image = query_of_files (assemble_files_query from to apid image)
