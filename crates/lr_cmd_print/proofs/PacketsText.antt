-- The text of packets, as more frames are read.
use Rattle.std.proofs.Common.{◌≡◌, ℕ, ◌+◌, List, [], ◌∷◌, ◌++◌, length, ap, ◌∙◌, sym, refl}
use Rattle.std.proofs.Common.{append-nil, Ok, Err}
use Rattle.std.specs.List.{filter_map}
use Rattle.std.specs.Result.{result_ok}
use Rattle.std.proofs.lemmas.List.Elements.{filter_map-append}
use Rattle.lr_bits.specs.Packet.{Packet}
use Rattle.lr_vc.specs.Frame.{Fields, frame_of}
use Rattle.lr_vc.specs.Runs.{AreChannelFrames}
use Rattle.lr_vc.specs.Packets.{packets_of, packets_at}
use Rattle.lr_vc.proofs.History.{packets_of-more}
use Rattle.lr_catalog.specs.Packets.{packet_line}
use Rattle.lr_reading.proofs.Numbered.{numbered_lines-none, numbered_lines-append, numbered_lines-push}
use Rattle.lr_cmd_print.specs.Packets.{frames_read, packets_read, lines_from}

pub lines_from-none : (number : ℕ) → lines_from number [] ≡ []
unfolding lines_from
lines_from-none number = numbered_lines-none packet_line number

pub lines_from-append : (number : ℕ) (xs ys : List Packet) → lines_from number (xs ++ ys) ≡ lines_from number xs
    ++ lines_from (number + length xs) ys
unfolding lines_from
lines_from-append number xs ys = numbered_lines-append packet_line number xs ys

pub lines_from-push : (number : ℕ) (packets : List Packet) (packet : Packet)
    → lines_from number (packets ++ packet ∷ []) ≡ lines_from number packets
    ++ packet_line (number + length packets) packet
unfolding lines_from
lines_from-push number packets packet = numbered_lines-push packet_line number packets packet

-- a frame of version 1 joins the frames read, and another one doesn't
pub frames_read-good : (frames : List (List ℕ)) (frame : List ℕ) (fields : Fields) → frame_of frame ≡ Ok fields
    → frames_read (frames ++ frame ∷ []) ≡ frames_read frames ++ fields ∷ []
unfolding frames_read
frames_read-good frames frame fields is =
    filter_map-append (λ f. result_ok (frame_of f)) frames (frame ∷ [])
    ∙ rw is refl

pub frames_read-bad : (frames : List (List ℕ)) (frame : List ℕ) (version : ℕ) → frame_of frame ≡ Err version
    → frames_read (frames ++ frame ∷ []) ≡ frames_read frames
unfolding frames_read
frames_read-bad frames frame version is =
    filter_map-append (λ f. result_ok (frame_of f)) frames (frame ∷ [])
    ∙ rw is (append-nil (filter_map (λ f. result_ok (frame_of f)) frames))

pub packets_read-good : (frames : List (List ℕ)) (frame : List ℕ) (fields : Fields) → frame_of frame ≡ Ok fields
    → AreChannelFrames (frames_read frames ++ fields ∷ [])
    → packets_read (frames ++ frame ∷ []) ≡ packets_read frames
    ++ packets_at (frames_read frames ++ fields ∷ []) (length (frames_read frames))
unfolding packets_read
packets_read-good frames frame fields is whole = ap packets_of (frames_read-good frames frame fields is)
    ∙ packets_of-more (frames_read frames) fields whole

pub packets_read-bad : (frames : List (List ℕ)) (frame : List ℕ) (version : ℕ) → frame_of frame ≡ Err version
    → packets_read (frames ++ frame ∷ []) ≡ packets_read frames ++ []
unfolding packets_read
packets_read-bad frames frame version is = ap packets_of (frames_read-bad frames frame version is)
    ∙ sym (append-nil (packets_of (frames_read frames)))
