-- The mended files that have no fillers.
use Rattle.std.specs.Prelude.{◌≡◌, ◌==◌, ℕ, List, filter, map}
use Rattle.lr_file.specs.Files.{files_of_packets}
use Rattle.lr_mend.specs.Marks.{whole_file}
use Rattle.lr_mend.specs.MendedFiles.{mended_files}
use Rattle.lr_packet.specs.Verdict.{Good}

-- They are the files of the packets as they came, in their order.
abbrev pub WholeFilesAreThoseThatCame : Type 0
WholeFilesAreThoseThatCame = (most : ℕ) (packets : List Good) →
    filter (λ ended. ended.fillers == 0) (mended_files most packets) ≡ map whole_file (files_of_packets packets)
