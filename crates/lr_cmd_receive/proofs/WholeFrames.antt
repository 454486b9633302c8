-- Frames of outcomes have zones of 884 bytes.
use Rattle.std.proofs.Common.{◌≡◌, ℕ, List, [], ◌∷◌, ◌++◌, length, refl, sym, ap, subst, Result, Ok, Err}
use Rattle.std.specs.Result.{result_ok}
use Rattle.std.proofs.lemmas.List.Elements.{All-push}
use Rattle.lr_bits.specs.declared.outcome.Outcome.{Outcome}
use Rattle.lr_bits.specs.declared.outcome.Outcome.TheVariants.{Restored, Lost}
use Rattle.lr_bits.specs.declared.sizes.TheConstants.{ZONE_BYTES}
use Rattle.lr_vc.specs.Frame.{Fields, frame_of}
use Rattle.lr_vc.specs.Runs.{AreChannelFrames}
use Rattle.lr_layers.specs.Layers.{frames_of_outcomes}
use Rattle.lr_layers.proofs.Pushing.{frames_same, frames_more}
use Rattle.lr_reading.specs.Arrivals.{HasWholeFrame}
use Rattle.lr_reading.proofs.Outcomes.{zone_is}

-- one outcome more, whose frame has 892 bytes if it has one
pub with_outcome : (outcomes : List Outcome) (outcome : Outcome) → AreChannelFrames (frames_of_outcomes outcomes)
    → HasWholeFrame outcome → AreChannelFrames (frames_of_outcomes (outcomes ++ outcome ∷ []))
with_outcome outcomes (Lost word) all whole =
    subst (λ (l : List Fields). AreChannelFrames l) (sym (frames_same outcomes (Lost word) refl)) all
with_outcome outcomes (Restored corrected frame) all whole = cases (frame_of frame) refl where
  cases : (r : Result Fields ℕ) → frame_of frame ≡ r
      → AreChannelFrames (frames_of_outcomes (outcomes ++ Restored corrected frame ∷ []))
  cases (Ok f) is =
      let more = frames_more outcomes (Restored corrected frame) f (ap (λ (x : Result Fields ℕ). result_ok x) is) in
      subst (λ (l : List Fields). AreChannelFrames l) (sym more)
      (All-push (λ (f : Fields). length f.zone ≡ ZONE_BYTES) (frames_of_outcomes outcomes) f all
      (zone_is frame f whole is))
  cases (Err version) is =
      let same = frames_same outcomes (Restored corrected frame) (ap (λ (x : Result Fields ℕ). result_ok x) is) in
      subst (λ (l : List Fields). AreChannelFrames l) (sym same) all
