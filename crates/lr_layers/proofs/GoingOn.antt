-- The packets and files of the first outcomes are the first ones.
use Rattle.std.proofs.Common.{◌≡◌, ℕ, List, [], ◌∷◌, ◌++◌, length, map, ap, ◌∙◌, sym, refl, subst}
use Rattle.std.proofs.Common.{append-nil, append_assoc}
use Rattle.std.proofs.lemmas.List.Elements.{filter_map-append, All-take}
use Rattle.std.proofs.Math.Seq.{take-append_seam}
use Rattle.lr_bits.specs.declared.outcome.Outcome.{Outcome}
use Rattle.lr_bits.specs.declared.sizes.TheConstants.{ZONE_BYTES}
use Rattle.lr_vc.specs.Frame.{Fields}
use Rattle.lr_vc.specs.Runs.{AreChannelFrames}
use Rattle.lr_vc.specs.Packets.{packets_of}
use Rattle.lr_vc.proofs.History.{packets_of-append}
use Rattle.lr_packet.specs.Verdict.{Good, good_packets}
use Rattle.lr_packet.proofs.VerdictLemmas.{good_packets-append}
use Rattle.lr_layers.specs.Layers.{frame_in, files_of_outcomes, frames_of_outcomes, good_of_outcomes}
use Rattle.lr_mend.proofs.PlainFiles.{plain_same}
use Rattle.lr_layers.specs.Laws.{GoOn, FilesHaveOrigins}
use Rattle.lr_bits.specs.File.{File}
use Rattle.lr_file.specs.Files.{files_of_packets}
use Rattle.lr_mend.specs.Marks.{whole_file}
use Rattle.lr_mend.specs.declared.marks.MarkedFile.{MarkedFile}
use Rattle.std.proofs.lemmas.List.{map-append}
use Rattle.lr_layers.specs.Origins.{MarkedPlaced, marked_of_outcomes, packet_of, placed_in}
use Rattle.lr_layers.specs.Origins.{placed_packets}
use Rattle.lr_layers.proofs.Pushing.{packets_now, files_now, files_with_origins}

frames_of_outcomes-append : (outcomes later : List Outcome) →
    frames_of_outcomes (outcomes ++ later) ≡ frames_of_outcomes outcomes ++ frames_of_outcomes later
unfolding frames_of_outcomes
frames_of_outcomes-append outcomes later = filter_map-append frame_in outcomes later

pub first_frames : (outcomes later : List Outcome) → AreChannelFrames (frames_of_outcomes (outcomes ++ later)) →
    AreChannelFrames (frames_of_outcomes outcomes)
first_frames outcomes later frames =
    let front = frames_of_outcomes outcomes in
    subst (λ (l : List Fields). AreChannelFrames l) (take-append_seam front (frames_of_outcomes later))
    (All-take (λ f. length f.zone ≡ ZONE_BYTES) (length front) (front ++ frames_of_outcomes later)
    (subst (λ (l : List Fields). AreChannelFrames l) (frames_of_outcomes-append outcomes later) frames))

more_packets : (outcomes later : List Outcome) → AreChannelFrames (frames_of_outcomes (outcomes ++ later)) →
    (more : _) × (packets_of (frames_of_outcomes (outcomes ++ later)) ≡ packets_of (frames_of_outcomes outcomes)
    ++ more)
more_packets outcomes later frames =
    let split = frames_of_outcomes-append outcomes later in
    let packets = packets_of-append (frames_of_outcomes outcomes) (frames_of_outcomes later)
    (subst (λ (l : List Fields). AreChannelFrames l) split frames) in
    (packets.0, ap packets_of split ∙ packets.1)

more_good : (outcomes later : List Outcome) → AreChannelFrames (frames_of_outcomes (outcomes ++ later)) →
    (more : List Good) × (good_of_outcomes (outcomes ++ later) ≡ good_of_outcomes outcomes ++ more)
unfolding good_of_outcomes
more_good outcomes later frames =
    let packets = more_packets outcomes later frames in (
      good_packets packets.0,
      ap good_packets packets.1 ∙ good_packets-append (packets_of (frames_of_outcomes outcomes)) packets.0,
    )

-- the placed packets are the good ones, and the files go on, one outcome after another
record GoesOn (mend : ℕ) (outcomes later : List Outcome) : Type 0 where
  packets : map packet_of (placed_packets (outcomes ++ later)) ≡ good_of_outcomes (outcomes ++ later)
  more : List MarkedPlaced
  files : marked_of_outcomes mend (outcomes ++ later) ≡ marked_of_outcomes mend outcomes ++ more

goes_on : (mend : ℕ) (outcomes later : List Outcome) → AreChannelFrames (frames_of_outcomes (outcomes ++ later)) →
    map packet_of (placed_packets outcomes) ≡ good_of_outcomes outcomes → GoesOn mend outcomes later
goes_on mend outcomes [] frames are =
    let same = sym (append-nil outcomes) in
    record {
      packets = subst (λ (l : List Outcome). map packet_of (placed_packets l) ≡ good_of_outcomes l) same are;
      more = [];
      files = ap (marked_of_outcomes mend) (append-nil outcomes) ∙ sym (append-nil (marked_of_outcomes mend outcomes));
    }
goes_on mend outcomes (o ∷ later) frames are =
    let moved = append_assoc outcomes (o ∷ []) later in
    let all = subst (λ (l : List Outcome). AreChannelFrames (frames_of_outcomes l)) (sym moved) frames in
    let one = more_good outcomes (o ∷ []) (first_frames (outcomes ++ o ∷ []) later all) in
    let rest = goes_on mend (outcomes ++ o ∷ []) later all (packets_now mend outcomes o one.0 one.1 are) in
    let here = files_now mend outcomes o one.0 one.1 in
    record {
      packets = subst (λ (l : List Outcome). map packet_of (placed_packets l) ≡ good_of_outcomes l) moved rest.packets;
      more = _;
      files = ap (marked_of_outcomes mend) (sym moved) ∙ rest.files ∙ ap (λ l. l ++ rest.more) here
          ∙ append_assoc (marked_of_outcomes mend outcomes) _ rest.more;
    }

placed_are : (outcomes : List Outcome) → AreChannelFrames (frames_of_outcomes outcomes) →
    map packet_of (placed_packets outcomes) ≡ good_of_outcomes outcomes
unfolding placed_packets good_of_outcomes frames_of_outcomes packets_of
placed_are outcomes frames = (goes_on 0 [] outcomes frames refl).packets

pub go_on : (mend : ℕ) (outcomes later : List Outcome) → AreChannelFrames (frames_of_outcomes (outcomes ++ later))
    → GoOn mend outcomes later
go_on mend outcomes later frames =
    let packets = more_packets outcomes later frames in
    let good = more_good outcomes later frames in
    let rest = goes_on mend outcomes later frames (placed_are outcomes (first_frames outcomes later frames)) in
    record {
      more_packets = packets.0;
      packets = packets.1;
      more_good = good.0;
      good = good.1;
      more_marked = rest.more;
      marked = rest.files;
      more_files = map placed_in rest.more;
      files = ap (map placed_in) rest.files
          ∙ map-append placed_in (marked_of_outcomes mend outcomes) rest.more;
    }

files_of_whole : (files : List File) → map (λ (m : MarkedFile). m.file) (map whole_file files) ≡ files
files_of_whole [] = refl
files_of_whole (file ∷ files) = ap (λ l. file ∷ l) (files_of_whole files)

pub have_origins : FilesHaveOrigins
unfolding files_of_outcomes
have_origins outcomes frames =
    files_with_origins 0 outcomes (placed_are outcomes frames)
    ∙ ap (map (λ (m : MarkedFile). m.file)) (plain_same (good_of_outcomes outcomes))
    ∙ files_of_whole (files_of_packets (good_of_outcomes outcomes))
