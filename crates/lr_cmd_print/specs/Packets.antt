-- What `packets` prints of the bytes read.
use Rattle.std.specs.Prelude.{ℕ, ◌/◌, ◌%◌, List, length, take}
use Rattle.std.specs.List.{filter_map}
use Rattle.std.specs.Result.{result_ok}
use Rattle.lr_bits.specs.declared.sizes.TheConstants.{FRAME_BYTES}
use Rattle.lr_bits.specs.Packet.{Packet}
use Rattle.lr_vc.specs.Frame.{Fields, frame_of}
use Rattle.lr_vc.specs.Packets.{packets_of}
use Rattle.lr_packet.specs.Verdict.{good_packets}
use Rattle.lr_forms.specs.declared.forms.Input.TheVariants.{Units}
use Rattle.lr_forms.specs.declared.forms.Stop.{Stop}
use Rattle.lr_forms.specs.declared.forms.UnitForm.TheVariants.{Frames as FrameUnits}
use Rattle.lr_catalog.specs.declared.summary.Summary.TheVariants.{Packets}
use Rattle.lr_catalog.specs.Packets.{packet_line}
use Rattle.lr_catalog.specs.Summaries.{summary_line}
use Rattle.lr_reading.specs.Lines.{numbered_lines}
use Rattle.lr_reading.specs.Readers.{leeway_for}
use Rattle.lr_reading.specs.Reading.{units_of}
use Rattle.lr_cmd_print.specs.Printing.{Printed}

-- the fields of the frames of version 1
unfoldable pub frames_read : List (List ℕ) → List Fields
frames_read frames = filter_map (λ frame. result_ok (frame_of frame)) frames

-- their packets
unfoldable pub packets_read : List (List ℕ) → List Packet
packets_read frames = packets_of (frames_read frames)

-- the lines of packets, numbered from a number on
unfoldable pub lines_from : ℕ → List Packet → List ℕ
lines_from number packets = numbered_lines packet_line number packets

-- the lines of the packets of these frames
unfoldable pub lines_of_packets : List (List ℕ) → List ℕ
lines_of_packets frames = lines_from 0 (packets_read frames)

-- a line for each packet of the whole frames
abbrev pub packets_text : List ℕ → List ℕ
packets_text bytes = lines_of_packets (units_of FRAME_BYTES bytes)

-- how many frames, packets and good packets there are, and how many bytes are no whole frame
unfoldable pub packets_count : List (List ℕ) → ℕ → ℕ → Stop → List ℕ
packets_count frames count left stop =
    summary_line (Packets count (length (packets_read frames))
    (length (good_packets (packets_read frames))) left) stop

abbrev pub packets_last : List ℕ → Stop → List ℕ
packets_last bytes stop = packets_count (units_of FRAME_BYTES bytes) (length bytes / FRAME_BYTES)
    (length bytes % FRAME_BYTES) stop

-- what the command prints that takes this many bytes at most
abbrev pub packets_printed : ℕ → Printed
packets_printed most = record {
  lines = packets_text;
  first = λ bytes count. lines_of_packets (take count (units_of FRAME_BYTES bytes));
  last = packets_last;
  input = Units FrameUnits;
  leeway = leeway_for (Units FrameUnits) 1;
  limit = most;
}
