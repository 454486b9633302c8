-- The files of what is sent are the files that were sent.
use Rattle.std.proofs.Common.{◌≡◌, ℕ, ◌+◌, ◌/◌, ◌<◌, zero, suc, cond, List, [], ◌∷◌, ◌++◌}
use Rattle.std.proofs.Common.{map, length, refl, sym, ap, ap₂, ◌∙◌, subst, arith, eq-eqb}
use Rattle.std.specs.Prelude.{Ok, Err}
use Rattle.std.specs.Result.{result_ok}
use Rattle.std.specs.List.{AllByRecursion as Each, concat, cons_option, range_with_len}
use Rattle.std.proofs.lemmas.List.Elements.{All-nil, recursion_from_All}
use Rattle.lr_bits.specs.declared.outcome.Outcome.{Outcome}
use Rattle.lr_bits.specs.declared.outcome.Outcome.TheVariants.{Restored, Lost}
use Rattle.lr_bits.specs.File.{File}
use Rattle.lr_bits.specs.declared.sizes.TheConstants.{CHANNELS, ZONE_BYTES}
use Rattle.lr_file.specs.Files.{files_after, files_of_packets}
use Rattle.lr_file.proofs.FileLaws.{files_after-append}
use Rattle.lr_frame.specs.Outcomes.{outcomes_of_symbols}
use Rattle.lr_layers.specs.Layers.{frame_in, frames_of_outcomes, good_of_outcomes, files_of_outcomes}
use Rattle.lr_layers.proofs.GoingOn.{have_origins}
use Rattle.lr_packet.specs.Verdict.{Good, good_packets}
use Rattle.lr_packet.proofs.VerdictLemmas.{good_packets-append}
use Rattle.lr_sent.specs.Sent.{AreRestored, symbols_of_blocks}
use Rattle.lr_sent.proofs.Receiving.{sent_is_received}
use Rattle.lr_vc.specs.Frame.{Fields, fields_of, version_of}
use Rattle.lr_vc.specs.Packets.{packets_of}
use Rattle.lr_vc.specs.Runs.{AreChannelFrames}
use Rattle.lr_uplink.specs.Packets.{file_packets}
use Rattle.lr_uplink.specs.Received.{IsSendable, FilesAreReceived, SentFilesAreReceived}
use Rattle.lr_uplink.specs.Sent.{sent_frame_at, sent_frames_of, file_frames, frames_before, packets_before}
use Rattle.lr_uplink.specs.Sent.{sent_after, sent}
use Rattle.lr_uplink.proofs.FilePackets.{goods_of, file_good}
use Rattle.lr_uplink.proofs.Flowing.{read_frame, packets_after, files_received, no_packets}
use Rattle.lr_uplink.proofs.Joining.{file_joined}
use Rattle.lr_vc.proofs.Lists.{Each-append}
use Rattle.lr_uplink.proofs.Walking.{on}

-- ---- versions

frames_version : (vc counter : ℕ) (packets : List (List ℕ)) → vc < CHANNELS → (a n : ℕ) →
    Each (λ frame. version_of frame ≡ 1) (map (sent_frame_at vc counter packets) (range_with_len a n))
frames_version vc counter packets v a zero = tt
frames_version vc counter packets v a (suc n) =
    ((read_frame vc counter packets a v).version, frames_version vc counter packets v (a + 1) n)

sent_version : (before files : List File) → Each IsSendable files →
    Each (λ frame. version_of frame ≡ 1) (sent_after before files)
unfolding sent_frames_of
sent_version before [] each = tt
sent_version before (file ∷ files) each =
    let packets = file_packets (packets_before file.vc file.apid before) file in
    let channel : file.vc < CHANNELS = omega (arith, each.0.channel) in
    Each-append (λ frame. version_of frame ≡ 1) (file_frames before file) (sent_after (before ++ file ∷ []) files)
    (frames_version file.vc (frames_before file.vc before) packets channel 0 (length (concat packets) / ZONE_BYTES))
    (sent_version (before ++ file ∷ []) files each.1)

-- the frames of the outcomes
frames_are : (frames : List (List ℕ)) (outcomes : List Outcome) → Each (λ frame. version_of frame ≡ 1) frames →
    AreRestored frames outcomes → frames_of_outcomes outcomes ≡ map fields_of frames
unfolding frames_of_outcomes
frames_are [] [] each are = refl
frames_are [] (outcome ∷ outcomes) each are = absurd are
frames_are (frame ∷ frames) [] each are = absurd are
frames_are (frame ∷ frames) (Lost word ∷ outcomes) each are = absurd are.0
frames_are (frame ∷ frames) (Restored corrected restored ∷ outcomes) each are =
    let rest = frames_are frames outcomes each.1 are.1 in
    let same : restored ≡ frame = are.0 in
    ap (λ (f : List ℕ). cons_option (frame_in (Restored corrected f)) (frames_of_outcomes outcomes)) same
    ∙ ap (λ b. cons_option (result_ok (cond b (Ok (fields_of frame)) (Err (version_of frame))))
    (frames_of_outcomes outcomes)) (eq-eqb (version_of frame) 1 each.0)
    ∙ ap (λ (fs : List Fields). fields_of frame ∷ fs) rest

-- ---- good packets, and files

-- the good packets of files that are sent after others
goods_after : List File → List File → List Good
goods_after before [] = []
goods_after before (file ∷ files) =
    goods_of (packets_before file.vc file.apid before) file ++ goods_after (before ++ file ∷ []) files

good_received : (before files : List File) → Each IsSendable files →
    good_packets (packets_after before files) ≡ goods_after before files
unfolding goods_after
good_received before [] each = refl
good_received before (file ∷ files) each =
    let count = packets_before file.vc file.apid before in
    good_packets-append (map (on file.vc) (file_packets count file)) (packets_after (before ++ file ∷ []) files)
    ∙ ap₂ (λ (xs ys : List Good). xs ++ ys) (file_good count file each.0)
    (good_received (before ++ file ∷ []) files each.1)

files_joined : (before files : List File) (packets : List Good) → Each IsSendable files →
    files_after packets (goods_after before files) ≡ files
unfolding goods_after
files_joined before [] packets each = refl
files_joined before (file ∷ files) packets each =
    let own = goods_of (packets_before file.vc file.apid before) file in
    files_after-append packets own (goods_after (before ++ file ∷ []) files)
    ∙ ap₂ (λ (xs ys : List File). xs ++ ys)
    (file_joined (packets_before file.vc file.apid before) file each.0.is packets)
    (files_joined (before ++ file ∷ []) files (packets ++ own) each.1)

-- ---- the laws

pub files_are_received : FilesAreReceived
unfolding sent files_of_packets files_of_outcomes good_of_outcomes
files_are_received files outcomes all are =
    let each : Each IsSendable files = recursion_from_All IsSendable files all in
    let frames = frames_are (sent_after [] files) outcomes (sent_version [] files each) are in
    let r = files_received [] files [] each (All-nil (λ f. length f.zone ≡ ZONE_BYTES)) no_packets.1 in
    let found : packets_of (frames_of_outcomes outcomes) ≡ packets_after [] files =
    ap packets_of frames ∙ r.found ∙ ap (λ ps. ps ++ packets_after [] files) no_packets.0 in
    let same : files_of_outcomes outcomes ≡ files =
    ap (λ ps. files_of_packets (good_packets ps)) found ∙ ap (files_after []) (good_received [] files each)
    ∙ files_joined [] files [] each in
    record {
      are = same;
      placed = have_origins outcomes (subst (λ (fs : List Fields). AreChannelFrames fs) (sym frames) r.frames) ∙ same;
    }

pub sent_files_are_received : SentFilesAreReceived
sent_files_are_received line files blocks all are =
    files_are_received files (outcomes_of_symbols line (symbols_of_blocks line blocks)) all
    (sent_is_received line (sent files) blocks are)
