-- The files of the first arrivals come first.
use Rattle.std.proofs.Common.{◌≡◌, List, [], ◌∷◌, ◌++◌, map, length, ap, ◌∙◌, sym, subst, append_assoc}
use Rattle.std.proofs.Common.{append-nil}
use Rattle.std.specs.Prelude.{All}
use Rattle.std.proofs.Common.{ℕ}
use Rattle.std.proofs.lemmas.List.{map-append}
use Rattle.std.proofs.lemmas.List.Elements.{All-nil, All-head, All-tail}
use Rattle.lr_bits.specs.declared.outcome.Outcome.{Outcome}
use Rattle.lr_bits.specs.declared.sizes.TheConstants.{ZONE_BYTES}
use Rattle.lr_forms.specs.declared.forms.Input.{Input}
use Rattle.lr_layers.specs.Layers.{frames_of_outcomes}
use Rattle.lr_layers.proofs.GoingOn.{go_on}
use Rattle.lr_reading.specs.Arrivals.{HasWholeFrame, arrivals_of, outcomes_of_arrivals}
use Rattle.lr_reading.specs.Inputs.{outcomes_of_bytes}
use Rattle.lr_reading.specs.declared.arrival.Arrival.{Arrival}
use Rattle.lr_reading.proofs.Coming.{outcomes_are}
use Rattle.lr_reading.proofs.Whole.{all_whole}
use Rattle.lr_cmd_receive.specs.Inputs.{files_of_bytes}
use Rattle.lr_cmd_receive.specs.Noted.{NotedFile, noted_of_outcomes, noted_where}
use Rattle.lr_cmd_receive.proofs.Noted.{noted_more}
use Rattle.lr_cmd_receive.proofs.WholeFrames.{with_outcome}
use Rattle.lr_vc.specs.Frame.{Fields}
use Rattle.lr_vc.specs.Runs.{AreChannelFrames}

frames_whole : (arrivals : List Arrival) (outcomes : List Outcome) → AreChannelFrames (frames_of_outcomes outcomes)
    → All (λ (arrival : Arrival). HasWholeFrame arrival.outcome) arrivals
    → AreChannelFrames (frames_of_outcomes (outcomes ++ outcomes_of_arrivals arrivals))
frames_whole [] outcomes all whole =
    subst (λ (l : List Outcome). AreChannelFrames (frames_of_outcomes l)) (sym (append-nil outcomes)) all
frames_whole (arrival ∷ arrivals) outcomes all whole =
    let IsWhole : Arrival → Type 0 = λ a. HasWholeFrame a.outcome in
    subst (λ (l : List Outcome). AreChannelFrames (frames_of_outcomes l))
    (append_assoc outcomes (arrival.outcome ∷ []) (outcomes_of_arrivals arrivals))
    (frames_whole arrivals (outcomes ++ arrival.outcome ∷ [])
    (with_outcome outcomes arrival.outcome all (All-head IsWhole arrival arrivals whole))
    (All-tail IsWhole arrival arrivals whole))

no_frames : AreChannelFrames (frames_of_outcomes [])
unfolding frames_of_outcomes
no_frames = All-nil (λ (f : Fields). length f.zone ≡ ZONE_BYTES)

pub files_first : (mend : ℕ) (input : Input) (bytes : List ℕ) (passed rest : List Arrival)
    → arrivals_of input bytes ≡ passed ++ rest
    → (more : List NotedFile)
    × (files_of_bytes mend input bytes ≡ noted_of_outcomes mend (outcomes_of_arrivals passed) ++ more)
unfolding files_of_bytes
files_first mend input bytes passed rest split =
    let both : outcomes_of_bytes input bytes ≡ outcomes_of_arrivals passed ++ outcomes_of_arrivals rest =
    outcomes_are input bytes ∙ ap outcomes_of_arrivals split
    ∙ map-append (λ (a : Arrival). a.outcome) passed rest in
    let whole : AreChannelFrames (frames_of_outcomes (outcomes_of_arrivals passed ++ outcomes_of_arrivals rest)) =
    subst (λ (l : List Outcome). AreChannelFrames (frames_of_outcomes l))
    (ap outcomes_of_arrivals split ∙ map-append (λ (a : Arrival). a.outcome) passed rest)
    (frames_whole (arrivals_of input bytes) [] no_frames (all_whole input bytes)) in
    let law = go_on mend (outcomes_of_arrivals passed) (outcomes_of_arrivals rest) whole in (
      map (noted_where mend) law.more_marked,
      ap (noted_of_outcomes mend) both ∙ noted_more mend (outcomes_of_arrivals passed)
          (outcomes_of_arrivals rest) law.more_marked
          law.marked,
    )

-- the frames of all bytes have whole zones
pub all_frames_whole : (input : Input) (bytes : List ℕ)
    → AreChannelFrames (frames_of_outcomes (outcomes_of_bytes input bytes))
all_frames_whole input bytes =
    subst (λ (l : List Outcome). AreChannelFrames (frames_of_outcomes l)) (sym (outcomes_are input bytes))
    (frames_whole (arrivals_of input bytes) [] no_frames (all_whole input bytes))
