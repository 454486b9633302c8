-- One frame more adds its packets, and their lines.
use Rattle.std.proofs.Common.{◌≡◌, ℕ, List, [], ◌∷◌, ◌++◌, length, drop, ap, ◌∙◌, sym, refl, arith, Result, Ok, Err}
use Rattle.std.proofs.Math.Seq.{drop-append_seam}
use Rattle.std.proofs.lemmas.List.Elements.{All-push}
use Rattle.lr_bits.specs.Packet.{Packet}
use Rattle.lr_bits.specs.declared.sizes.TheConstants.{FRAME_BYTES, ZONE_BYTES}
use Rattle.lr_vc.specs.Frame.{Fields, frame_of}
use Rattle.lr_vc.specs.Runs.{AreChannelFrames}
use Rattle.lr_vc.specs.Packets.{packets_at, packets_of}
use Rattle.lr_reading.proofs.Outcomes.{zone_is}
use Rattle.lr_cmd_print.specs.Packets.{frames_read, packets_read, lines_from, lines_of_packets}
use Rattle.lr_cmd_print.specs.Added.{packets_added, lines_added}
use Rattle.lr_cmd_print.proofs.PacketsText.{packets_read-good, packets_read-bad, lines_from-none, lines_from-append}

-- whatever is known to stand after the packets is what was added
pub added_is : (frames : List (List ℕ)) (frame : List ℕ) (more : List Packet)
    → packets_read (frames ++ frame ∷ []) ≡ packets_read frames ++ more → packets_added frames frame ≡ more
unfolding packets_added
added_is frames frame more is = ap (drop (length (packets_read frames))) is
    ∙ drop-append_seam (packets_read frames) more

pub packets_read-push : (frames : List (List ℕ)) (frame : List ℕ) → AreChannelFrames (frames_read frames)
    → length frame ≡ FRAME_BYTES
    → packets_read (frames ++ frame ∷ []) ≡ packets_read frames ++ packets_added frames frame
packets_read-push frames frame all whole = cases (frame_of frame) refl where
  cases : (r : Result Fields ℕ) → frame_of frame ≡ r → packets_read (frames ++ frame ∷ []) ≡ packets_read frames
      ++ packets_added frames frame
  cases (Ok fields) is =
      let more = packets_at (frames_read frames ++ fields ∷ []) (length (frames_read frames)) in
      let grown = packets_read-good frames frame fields is
      (All-push (λ (f : Fields). length f.zone ≡ ZONE_BYTES) (frames_read frames) fields all
      (zone_is frame fields whole is)) in
      grown ∙ ap (λ l. packets_read frames ++ l) (sym (added_is frames frame more grown))
  cases (Err version) is =
      let same = packets_read-bad frames frame version is in
      same ∙ ap (λ l. packets_read frames ++ l) (sym (added_is frames frame [] same))

pub lines_of_packets-none : lines_of_packets [] ≡ []
unfolding lines_of_packets packets_read frames_read packets_of
lines_of_packets-none = lines_from-none 0

pub lines_of_packets-push : (frames : List (List ℕ)) (frame : List ℕ) → AreChannelFrames (frames_read frames)
    → length frame ≡ FRAME_BYTES
    → lines_of_packets (frames ++ frame ∷ []) ≡ lines_of_packets frames ++ lines_added frames frame
unfolding lines_of_packets lines_added
lines_of_packets-push frames frame all whole =
    ap (lines_from 0) (packets_read-push frames frame all whole)
    ∙ lines_from-append 0 (packets_read frames) (packets_added frames frame)
    ∙ ap (λ k. lines_from 0 (packets_read frames) ++ lines_from k (packets_added frames frame)) (omega arith)
