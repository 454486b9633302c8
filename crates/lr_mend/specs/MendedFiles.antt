-- The files of mended packets, each with a mark where it has fillers, and with their number.
use Rattle.std.specs.Prelude.{◌≡◌, ◌<◌, ℕ, Bool, true, false, Option, unwrap_or, List, [], ◌∷◌, ◌++◌, map}
use Rattle.std.specs.Prelude.{option_to_list}
use Rattle.std.specs.Prelude.{option_and_then}
use Rattle.lr_packet.specs.Verdict.{Good}
use Rattle.lr_file.specs.Files.{file_at}
use Rattle.lr_file.specs.Standing.{AreAscending, KeptFiles, FilesStandFor, kept_of_key}
use Rattle.lr_mend.specs.Laws.{packet_mended}
use Rattle.lr_mend.specs.Marks.{marked}
use Rattle.lr_mend.specs.declared.marks.MarkedFile.{MarkedFile}
use Rattle.lr_mend.specs.declared.mended.Ended.{Ended}
use Rattle.lr_mend.specs.Mending.{Mended, came, filler_of, gap_before, mended_packets}
use Rattle.lr_mend.specs.Seams.{Seams, no_seams, seams_of}
use Rattle.lr_mend.specs.Standing.{KeptImages, MenderStandsFor}

-- the file that ends with a packet of mended ones, where these came before it, with its mark
abbrev pub mended_file : List Mended → Mended → Option MarkedFile
mended_file before m =
    option_and_then (λ file. marked file (seams_of m.packet.vc m.packet.apid (before ++ m ∷ [])).fillers)
    (file_at (map packet_mended before) m.packet)

-- for each in turn the file that ends with it
abbrev pub mended_files_after : List Mended → List Mended → List MarkedFile
mended_files_after before [] = []
mended_files_after before (m ∷ ms) = option_to_list (mended_file before m) ++ mended_files_after (before ++ m ∷ []) ms

-- the files of packets that are mended with at most `most` fillers for an image
unfoldable pub mended_files : ℕ → List Good → List MarkedFile
mended_files most packets = mended_files_after [] (mended_packets most packets)

-- the files that end with the fillers before a packet, where these packets came before it
unfoldable pub files_of_gap : ℕ → List Good → Good → List MarkedFile
files_of_gap most before packet =
    mended_files_after (mended_packets most before) (map filler_of (gap_before most before packet))

-- the file that ends with the packet itself, after its fillers
unfoldable pub file_of_packet : ℕ → List Good → Good → Option MarkedFile
file_of_packet most before packet =
    mended_file (mended_packets most before ++ map filler_of (gap_before most before packet)) (came packet)

-- the files that end with a packet, or with the fillers before it
abbrev pub files_ending : ℕ → List Good → Good → List MarkedFile
files_ending most before packet = files_of_gap most before packet ++ option_to_list (file_of_packet most before packet)

-- ---- what is kept

-- of each channel and application the seams since its latest beginning are kept, or there are none yet
pub record SeamsStandFor (kept : List ((ℕ × ℕ) × Seams)) (ms : List Mended) : Type 0 where
  pub once : AreAscending kept
  pub seams : (vc apid : ℕ) → unwrap_or (kept_of_key kept vc apid) no_seams ≡ seams_of vc apid ms

-- what is kept of images, files and seams, and whether memory was wanting
pub record KeptMended : Type 0 where
  pub spent : Bool
  pub images : KeptImages
  pub files : KeptFiles
  pub seams : List ((ℕ × ℕ) × Seams)

-- memory was wanting in an earlier call
abbrev pub AreMendedSpent : KeptMended → Type 0
AreMendedSpent kept = kept.spent ≡ true

-- what is kept stands for these packets; of seams nothing is kept where no fillers are allowed
pub record MendedStandFor (kept : KeptMended) (packets : List Good) : Type 0 where
  pub unspent : kept.spent ≡ false
  pub images : MenderStandsFor kept.images packets
  pub files : FilesStandFor kept.files (map packet_mended (mended_packets kept.images.most packets))
  pub seams : 0 < kept.images.most → SeamsStandFor kept.seams (mended_packets kept.images.most packets)

-- what is kept while memory isn't wanting
abbrev pub kept_mended : KeptImages → KeptFiles → List ((ℕ × ℕ) × Seams) → KeptMended
kept_mended images files seams = record { spent = false; images = images; files = files; seams = seams }

-- A packet was taken, which came after these: what is kept stands for it too, and these are the files that end with it
-- and with its fillers. An image has at most `most` of them.
pub record TakesPacket (most : ℕ) (packets : List Good) (packet : Good) (kept : KeptMended) (ended : Ended)
    : Type 0 where
  pub stands : MendedStandFor kept (packets ++ packet ∷ [])
  pub gap : option_to_list ended.by_fillers ≡ files_of_gap most packets packet
  pub file : ended.by_packet ≡ file_of_packet most packets packet

-- mended packets were taken after others, and the files that end with them appended
pub record TakesMended (before ms : List Mended) (kept : KeptFiles) (noted : List ((ℕ × ℕ) × Seams))
    (old new : List MarkedFile) : Type 0 where
  pub files : FilesStandFor kept (map packet_mended (before ++ ms))
  pub seams : SeamsStandFor noted (before ++ ms)
  pub added : new ≡ old ++ mended_files_after before ms

-- one more was taken, and this is the file that ends with it
pub record TakesOneMended (before : List Mended) (m : Mended) (kept : KeptFiles) (noted : List ((ℕ × ℕ) × Seams))
    (file : Option MarkedFile) : Type 0 where
  pub files : FilesStandFor kept (map packet_mended (before ++ m ∷ []))
  pub seams : SeamsStandFor noted (before ++ m ∷ [])
  pub ends : file ≡ mended_file before m
