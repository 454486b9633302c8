-- The mission files in a list of outcomes: frames of version 1, then packets, then good packets, then files.
use Rattle.std.specs.Prelude.{ℕ, Bool, false, not, ◌==◌, ◌&&◌, Option, None, List, length, count_by}
use Rattle.std.specs.List.{filter_map}
use Rattle.std.specs.Result.{result_ok}
use Rattle.lr_bits.specs.Outcomes.{is_restored}
use Rattle.lr_bits.specs.declared.outcome.Outcome.{Outcome}
use Rattle.lr_bits.specs.declared.outcome.Outcome.TheVariants.{Restored, Lost}
use Rattle.lr_bits.specs.File.{File}
use Rattle.lr_bits.specs.declared.sizes.TheConstants.{FILL_CHANNEL}
use Rattle.lr_vc.specs.Frame.{Fields, frame_of, fields_of, version_of}
use Rattle.lr_vc.specs.Packets.{packets_of}
use Rattle.lr_packet.specs.Verdict.{Good, good_packets}
use Rattle.lr_file.specs.Files.{files_of_packets}
use Rattle.lr_mend.specs.MendedFiles.{mended_files}

-- the frame of version 1 that a block was restored to, if it was
abbrev pub frame_in : Outcome → Option Fields
frame_in (Restored corrected frame) = result_ok (frame_of frame)
frame_in (Lost word) = None

-- those frames, in their order
unfoldable pub frames_of_outcomes : List Outcome → List Fields
frames_of_outcomes outcomes = filter_map frame_in outcomes

-- the good packets of the frames
unfoldable pub good_of_outcomes : List Outcome → List Good
good_of_outcomes outcomes = good_packets (packets_of (frames_of_outcomes outcomes))

-- the files of the good packets
unfoldable pub files_of_outcomes : List Outcome → List File
files_of_outcomes outcomes = files_of_packets (good_of_outcomes outcomes)

-- a block was restored to a frame of another version
abbrev pub is_bad_version : Outcome → Bool
is_bad_version (Restored corrected frame) = not (version_of frame == 1)
is_bad_version (Lost word) = false

-- a block was restored to a frame of channel 63
abbrev pub is_fill : Outcome → Bool
is_fill (Restored corrected frame) = (version_of frame == 1) && ((fields_of frame).vc == FILL_CHANNEL)
is_fill (Lost word) = false

-- how many outcomes of each kind there are, and how many good packets and files
pub record CountsView : Type 0 where
  pub restored : ℕ
  pub lost : ℕ
  pub bad_versions : ℕ
  pub fill : ℕ
  pub packets : ℕ
  pub files : ℕ

-- where an image has at most `mend` fillers
abbrev pub mended_numbers_of : ℕ → List Outcome → CountsView
mended_numbers_of mend outcomes = record {
  restored = count_by is_restored outcomes;
  lost = count_by (λ o. not (is_restored o)) outcomes;
  bad_versions = count_by is_bad_version outcomes;
  fill = count_by is_fill outcomes;
  packets = length (good_of_outcomes outcomes);
  files = length (mended_files mend (good_of_outcomes outcomes));
}

-- where none is mended
abbrev pub numbers_of : List Outcome → CountsView
numbers_of outcomes = mended_numbers_of 0 outcomes
