-- What is sent is received the same in several passes.
use Rattle.std.proofs.Common.{◌≡◌, ◌∙◌, ℕ, ℤ, List, [], ◌∷◌, map, refl, sym, ap₂}
use Rattle.lr_bits.specs.declared.outcome.Outcome.{Outcome}
use Rattle.lr_bits.specs.declared.outcome.Outcome.TheVariants.{Restored, Lost}
use Rattle.lr_conv.specs.Marker.{tail_of}
use Rattle.lr_conv.specs.declared.line.LineCode.{LineCode}
use Rattle.lr_conv.specs.declared.passes.Passes.{Passes}
use Rattle.lr_frame.proofs.Passing.{restored_stay}
use Rattle.lr_frame.specs.Outcomes.{outcome_in, outcomes_of_symbols, redecoded_in, redecoded_outcomes}
use Rattle.lr_lock.specs.FramesOf.{frames_of}
use Rattle.lr_lock.specs.Windows.{window_of}
use Rattle.lr_lock.specs.declared.frame.Frame.{Frame}
use Rattle.lr_sent.specs.Sent.{AreRestored, IsFrame, SentIsRedecoded, symbols_of_blocks}
use Rattle.lr_sent.proofs.Receiving.{sent_is_received}

module _ (line : LineCode) (passes : Passes) (symbols : List ℤ) where
  one_again : (frame : List ℕ) (place : Frame) (outcome : Outcome) → outcome_in line symbols place ≡ outcome
      → IsFrame frame outcome → redecoded_in line passes symbols place ≡ outcome_in line symbols place
  one_again frame place (Restored corrected restored) is found =
      restored_stay line passes (window_of symbols place.place place.positive) restored corrected is ∙ sym is
  one_again frame place (Lost word) is found = absurd found

  all_again : (frames : List (List ℕ)) (places : List Frame) → AreRestored frames (map (outcome_in line symbols) places)
      → map (redecoded_in line passes symbols) places ≡ map (outcome_in line symbols) places
  all_again [] [] found = refl
  all_again [] (place ∷ places) found = absurd found
  all_again (frame ∷ frames) [] found = refl
  all_again (frame ∷ frames) (place ∷ places) found =
      ap₂ (λ (o : Outcome) (os : List Outcome). o ∷ os)
      (one_again frame place (outcome_in line symbols place) refl found.0) (all_again frames places found.1)

  again : (frames : List (List ℕ)) → AreRestored frames (outcomes_of_symbols line symbols)
      → redecoded_outcomes line passes symbols ≡ outcomes_of_symbols line symbols
  unfolding outcomes_of_symbols redecoded_outcomes
  again frames found = all_again frames (frames_of (tail_of line) symbols) found

pub sent_is_redecoded : SentIsRedecoded
sent_is_redecoded line passes frames blocks sent =
    again line passes (symbols_of_blocks line blocks) frames (sent_is_received line frames blocks sent)
