-- Of which packets a mended file is made, and which of them its mark names.
use Rattle.std.specs.Prelude.{◌≡◌, ◌+◌, ℕ, Some, List, [], ◌∷◌, ◌++◌, map, fold, if◌then◌else◌}
use Rattle.lr_bits.specs.File.{File}
use Rattle.lr_mend.specs.Marks.{marked}
use Rattle.lr_mend.specs.MendedFiles.{mended_file}
use Rattle.lr_mend.specs.Mending.{Mended, begins_file, mended_packets}
use Rattle.lr_mend.specs.Seams.{mended_of_key}
use Rattle.lr_mend.specs.declared.marks.MarkedFile.{MarkedFile}
use Rattle.lr_packet.specs.Verdict.{Good}

-- the mended packets of a channel and application, from the latest one on that begins a file
abbrev pub stretch_and : List Mended → Mended → List Mended
stretch_and stretch m = if begins_file m.packet then m ∷ [] else stretch ++ m ∷ []

abbrev pub mended_stretch : ℕ → ℕ → List Mended → List Mended
mended_stretch vc apid ms = fold stretch_and [] (mended_of_key vc apid ms)

-- the places of the fillers among mended packets, where the first packet is at this place
abbrev pub filler_places : ℕ → List Mended → List ℕ
filler_places place [] = []
filler_places place (m ∷ ms) = (if m.filler then place ∷ [] else []) ++ filler_places (place + 1) ms

-- a file whose bodies are those of these packets, in order, marked at the places of the fillers among them
pub record IsMadeOf (stretch : List Mended) (ended : MarkedFile) : Type 0 where
  pub file : File
  pub bodies : file.bodies ≡ map (λ m. m.packet.body) stretch
  pub is_marked : marked file (filler_places 0 stretch) ≡ Some ended

-- A file that ends with one of the mended packets is made of those since its beginning.
abbrev pub FilesAreMadeOfMended : Type 0
FilesAreMadeOfMended = (most : ℕ) (packets : List Good) (before later : List Mended) (m : Mended) (ended : MarkedFile) →
    mended_packets most packets ≡ before ++ m ∷ later → mended_file before m ≡ Some ended →
    IsMadeOf (mended_stretch m.packet.vc m.packet.apid (before ++ m ∷ [])) ended
