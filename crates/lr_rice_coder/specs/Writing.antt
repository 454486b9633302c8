-- A line as it is written, part by part. No clause of a public call cites this.
use Rattle.std.specs.Prelude.{◌≡◌, ◌<◌, ◌≤◌, ◌*◌, ◌^◌, ◌==◌, ℕ, List, ◌++◌, length, slice_index}
use Rattle.lr_rice.specs.CodedLines.{Form, block_count, form_of, greatest, left_in_segment, part_string, span_of}
use Rattle.lr_rice.specs.CodedLines.{string_from}
use Rattle.lr_rice.specs.Laws.{IsForm}
use Rattle.lr_rice_coder.specs.Shortest.{next_part, parts_from}
use Rattle.lr_rice_coder.specs.declared.line.Line.{Line}

-- the places of a line: as many as its blocks have, each in the range of samples, the first of them 0
pub record ArePlaces (form : Form) (places : List ℕ) : Type 0 where
  pub wide : 2 ≤ form.block
  pub size : length places ≡ block_count form * form.block
  pub small : (k : ℕ) → slice_index places k ≤ greatest form.bits
  pub clear : slice_index places 0 ≡ 0

abbrev pub form_in : Line → Form
form_in line = form_of line.bits line.block line.columns

-- what is known of each line that is written
pub record IsReadyLine (line : Line) : Type 0 where
  pub form : IsForm (form_in line)
  pub few : line.columns ≤ 65535
  pub reference : line.reference < 2 ^ line.bits
  pub places : ArePlaces (form_in line) line.places.now

-- the string from a block of the line on
abbrev pub string_after : Line → ℕ → List ℕ
string_after line at =
    string_from (form_in line) line.reference at
    (parts_from (form_in line) line.places.now (block_count (form_in line)) at)

abbrev pub line_string : Line → List ℕ
line_string line = string_after line 0

-- the part at this block of the line was written, which stands for this many blocks
pub record IsWritten (line : Line) (at : ℕ) (old new : List ℕ) (span : ℕ) : Type 0 where
  pub whole : new ≡ old
      ++ part_string line.bits (at == 0) line.reference (next_part (form_in line) line.places.now at)
  pub spans : span ≡ span_of (left_in_segment (form_in line) at) (next_part (form_in line) line.places.now at)
  pub some : 1 ≤ span
  pub inside : span ≤ left_in_segment (form_in line) at
