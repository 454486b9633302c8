-- `transmit FROM TO WRONG`: files as the symbols that they are sent as, in one stream (CCSDS 131.0-B).
use Rattle.std.specs.Prelude.{◌==◌, ◌++◌, ℕ, ℤ, if◌then◌else◌, Result, Ok, Err, List, [], ◌∷◌, length, map, drop}
use Rattle.lr_bits.specs.File.{File}
use Rattle.lr_bits.specs.declared.sizes.TheConstants.{FILL_CHANNEL}
use Rattle.lr_block.specs.Randomiser.{randomised_block}
use Rattle.lr_conv.specs.declared.line.LineCode.{LineCode}
use Rattle.lr_make.specs.Blocks.{damaged_block, encoded_block}
use Rattle.lr_make.specs.Symbols.{bytes_of_symbols}
use Rattle.lr_sent.specs.Sent.{symbols_of_blocks}
use Rattle.lr_uplink.specs.Sent.{sent}
use Rattle.lr_causes.specs.declared.cause.Refusal.{Refusal}
use Rattle.lr_causes.specs.declared.cause.Refusal.TheVariants.{CannotSend}
use Rattle.lr_cmd_shelf.specs.declared.opened.Opened.{Opened}
use Rattle.lr_cmd_shelf.specs.Queries.{Query, no_image}
use Rattle.lr_cmd_shelf.specs.Files.{FileQuery, query_of_files, entries_between, no_note, no_text}

-- the block that is sent for a frame: encoded, with this many wrong bytes in each word, and randomised
abbrev pub block_for : ℕ → List ℕ → List ℕ
block_for wrong frame = randomised_block (damaged_block wrong (encoded_block frame))

abbrev pub blocks_for : ℕ → List (List ℕ) → List (List ℕ)
blocks_for wrong frames = map (block_for wrong) frames

-- the symbols of frames, by one encoder under a line code
abbrev pub symbols_for : LineCode → ℕ → List (List ℕ) → List ℤ
symbols_for line wrong frames = symbols_of_blocks line (blocks_for wrong frames)

-- the symbols of frames, each in a byte
unfoldable pub frame_bytes : LineCode → ℕ → List (List ℕ) → List ℕ
frame_bytes line wrong frames = bytes_of_symbols (symbols_for line wrong frames)

-- what files are sent as: the symbols of all their frames
abbrev pub sent_bytes : LineCode → ℕ → List File → List ℕ
sent_bytes line wrong files = frame_bytes line wrong (sent files)

-- what a file adds to what the files before it are sent as
abbrev pub added_bytes : LineCode → ℕ → List File → File → List ℕ
added_bytes line wrong before file =
    drop (length (sent_bytes line wrong before)) (sent_bytes line wrong (before ++ file ∷ []))

-- what becomes of a file after others; none is sent on the channel of fill
abbrev pub sent_entry_text : LineCode → ℕ → List File → File → Result (List ℕ) Refusal
sent_entry_text line wrong before file =
    if file.vc == FILL_CHANNEL then Err CannotSend else Ok (added_bytes line wrong before file)

-- the files that were read
abbrev pub files_read : List Opened → List File
files_read read = map (λ opened. opened.stored.file) read

-- the entries that are sent, from one number up to another, with this many wrong bytes in each word, by this line code
pub record Sending : Type 0 where
  pub from : ℕ
  pub to : ℕ
  pub wrong : ℕ
  pub line : LineCode

abbrev pub sending : (from to wrong : ℕ) → LineCode → Sending
sending from to wrong line = record { from = from; to = to; wrong = wrong; line = line }

abbrev pub transmit_files_query : Sending → FileQuery
transmit_files_query asked = record {
  range = entries_between asked.from asked.to;
  sees = no_image;
  fate = λ read n opened. sent_entry_text asked.line asked.wrong (files_read read) opened.stored.file;
  gone = λ n. no_text;
  last = λ way read. no_text;
  note = no_note;
}

abbrev pub transmit_query : Sending → Query
transmit_query asked = query_of_files (transmit_files_query asked)
