-- Laws of the files of mended packets.
use Rattle.std.specs.Prelude.{◌≡◌, ◌≤◌, ◌⊎◌, length, ℕ, List, [], ◌∷◌, ◌++◌, map}
use Rattle.lr_packet.specs.Verdict.{Good}
use Rattle.lr_file.specs.Files.{files_of_packets}
use Rattle.lr_mend.specs.Marks.{whole_file}
use Rattle.lr_mend.specs.declared.marks.MarkedFile.{MarkedFile}
use Rattle.lr_mend.specs.MendedFiles.{files_ending, files_of_gap, mended_files}

-- one packet more adds the files that end with it, or with the fillers before it
abbrev pub PacketAddsMendedFiles : Type 0
PacketAddsMendedFiles = (most : ℕ) (packets : List Good) (packet : Good) →
    mended_files most (packets ++ packet ∷ []) ≡ mended_files most packets ++ files_ending most packets packet

-- where no fillers are allowed, they are the files of the packets, each without fillers
abbrev pub NoFileIsMended : Type 0
NoFileIsMended = (packets : List Good) → mended_files 0 packets ≡ map whole_file (files_of_packets packets)

-- the first files are among the second ones, in the same order
abbrev pub AreAmong : List MarkedFile → List MarkedFile → Type 0
AreAmong [] all = Unit {0}
AreAmong (file ∷ files) [] = ⊥
AreAmong (file ∷ files) (other ∷ all) = ((file ≡ other) × AreAmong files all) ⊎ AreAmong (file ∷ files) all

-- the files of the packets, each without fillers, are among those of the mended ones
abbrev pub FilesAreAmongMended : Type 0
FilesAreAmongMended = (most : ℕ) (packets : List Good) →
    AreAmong (map whole_file (files_of_packets packets)) (mended_files most packets)

-- at most one file ends with the fillers before a packet
abbrev pub OneFileEndsAGap : Type 0
OneFileEndsAGap = (most : ℕ) (packets : List Good) (packet : Good) → length (files_of_gap most packets packet) ≤ 1
