-- Files that come onto a shelf, one after another.
use Rattle.std.specs.Prelude.{◌≡◌, ◌⊎◌, ◌<◌, ◌+◌, ℕ, min, Option, Some}
use Rattle.std.specs.Prelude.{None, List, [], ◌∷◌, ◌++◌, length, codes, decimal}
use Rattle.std.specs.List.{concat}
use Rattle.lr_bits.specs.File.{File, bytes_of, counter_of}
use Rattle.lr_bits.specs.Sizes.{most_u64}
use Rattle.lr_io.specs.declared.sink.Sink.{Ghosts as SinkOf}
use Rattle.lr_catalog.specs.Files.{shelved_line}
use Rattle.lr_reading.specs.Lines.{numbered_lines}
use Rattle.lr_causes.specs.Puts.{GotFirst, GotPart, GotText}
use Rattle.lr_causes.specs.declared.cause.Cause.{Cause}
use Rattle.lr_causes.specs.declared.cause.Cause.TheVariants.{Failed, NoMemory, Refused}
use Rattle.lr_causes.specs.declared.cause.Party.TheVariants.{Disk, Output}
use Rattle.lr_causes.specs.declared.cause.Refusal.TheVariants.{Capacity}
use Rattle.lr_causes.specs.Outside.{Outlets, OutletsOf}
use Rattle.lr_shelf.specs.InitialShelves.{InitialShelf, HoldsPrefix, HoldsStill, LeavesPrefixes}
use Rattle.lr_shelf.specs.InitialShelves.{StandsWith}
use Rattle.lr_shelf.specs.Append.{item_for}
use Rattle.lr_shelf.specs.Prefixes.{end_with}
use Rattle.lr_shelf_format.specs.Items.{IsItem}
use Rattle.lr_cmd_receive.specs.Noted.{NotedFile, placed_files}

-- the line of a file that was shelved, and how many fillers it has
unfoldable pub mended_line : ℕ → File → ℕ → List ℕ
mended_line number file fillers = concat (
    codes "shelved " ∷ decimal number ∷ codes " vc " ∷ decimal file.vc ∷ codes " apid " ∷ decimal file.apid
    ∷ codes " counter " ∷ decimal (counter_of file) ∷ codes " bytes " ∷ decimal (length (bytes_of file))
    ∷ codes " packets " ∷ decimal (length file.bodies) ∷ codes " mended " ∷ decimal fillers ∷ codes "\n" ∷ [])

-- the line of a file, with its fillers where they are noted
abbrev pub line_with : ℕ → File → Option ℕ → List ℕ
line_with number file None = shelved_line number file
line_with number file (Some fillers) = mended_line number file fillers

abbrev pub noted_line : ℕ → NotedFile → List ℕ
noted_line number noted = line_with number noted.placed.file noted.fillers

-- the lines of files, the first of which has that number on the shelf
unfoldable pub shelved_lines : ℕ → List NotedFile → List ℕ
shelved_lines number files = numbered_lines noted_line number files

-- the bytes stand for what was there and the files that are done, or for the next one too
abbrev pub StandsForOneFileMore : InitialShelf → List NotedFile → List NotedFile → List ℕ → Type 0
StandsForOneFileMore initial done rest bytes =
    StandsWith initial (placed_files done) bytes
    ⊎ ((next : NotedFile) × (more : List NotedFile) × (rest ≡ next ∷ more)
    × StandsWith initial (placed_files (done ++ next ∷ [])) bytes)

module _ {O : Type 0} (out : SinkOf O) where
  -- It got the lines of the files that are done, the first of which has that number, and a part of the line of the next
  -- one.
  pub record CutsLine (number : ℕ) (done rest : List NotedFile) (o o' : O) : Type 0 where
    pub next : NotedFile
    pub later : List NotedFile
    pub split : rest ≡ next ∷ later
    pub part : GotPart out (shelved_lines number done) (noted_line (number + length done) next) o o'

  -- Shelving these files, the first of which has that number, stopped for this cause: `out` got the lines of the first
  -- ones, and where it failed a part of the next line.
  pub record StopsInLines (cause : Cause) (number : ℕ) (files : List NotedFile) (o o' : O) : Type 0 where
    pub done : List NotedFile
    pub rest : List NotedFile
    pub split : files ≡ done ++ rest
    pub got : (cause ≡ Failed Output → ⊥) → GotText out (shelved_lines number done) o o'
    pub cut : cause ≡ Failed Output → CutsLine number done rest o o'

-- these files come onto what was there
module _ {D O : Type 0} (world : OutletsOf D O) (initial : InitialShelf) (files : List NotedFile) where
  -- The first ones of these files are acknowledged: the contents and each crash image hold them all, and perhaps files
  -- after them, and `out` got their lines, and perhaps more.
  pub record AreAcknowledged (first : List NotedFile) (w w' : Outlets D O) : Type 0 where
    pub others : List NotedFile
    pub split : files ≡ first ++ others
    pub held : HoldsPrefix world.disk initial (placed_files files) (length first) w'.disk
    pub told : GotFirst world.out (shelved_lines (length initial.way.entries) first) w.out w'.out

  -- the disk failed: these files are acknowledged, and one more may stand there
  pub record DiskStops (w w' : Outlets D O) : Type 0 where
    pub done : List NotedFile
    pub rest : List NotedFile
    pub split : files ≡ done ++ rest
    pub contents : StandsForOneFileMore initial done rest (world.disk.contents w'.disk)
    pub images : (c : List ℕ) → world.disk.may_leave w'.disk c
        → StandsForOneFileMore initial done rest c
    pub got : GotText world.out (shelved_lines (length initial.way.entries) done) w.out w'.out

  -- memory was refused: these files are acknowledged, and they alone stand there
  pub record MemoryStops (w w' : Outlets D O) : Type 0 where
    pub done : List NotedFile
    pub rest : List NotedFile
    pub split : files ≡ done ++ rest
    pub durable : HoldsStill initial (placed_files done) world.disk w'.disk
    pub got : GotText world.out (shelved_lines (length initial.way.entries) done) w.out w'.out

  -- the next file doesn't fit
  pub record FullStops (needed most : ℕ) (w w' : Outlets D O) : Type 0 where
    pub done : List NotedFile
    pub next : NotedFile
    pub rest : List NotedFile
    pub split : files ≡ done ++ next ∷ rest
    pub durable : HoldsStill initial (placed_files done) world.disk w'.disk
    pub got : GotText world.out (shelved_lines (length initial.way.entries) done) w.out w'.out
    pub is_item : IsItem (item_for next.placed)
    pub needs : needed ≡ min (end_with initial.way.end (placed_files (done ++ next ∷ []))) most_u64
    pub of : most ≡ initial.way.capacity
    pub over : initial.way.capacity < end_with initial.way.end (placed_files (done ++ next ∷ []))

  -- `out` failed in the line of a file that is shelved
  pub record LineStops (w w' : Outlets D O) : Type 0 where
    pub done : List NotedFile
    pub last : NotedFile
    pub rest : List NotedFile
    pub split : files ≡ (done ++ last ∷ []) ++ rest
    pub durable : HoldsStill initial (placed_files (done ++ last ∷ [])) world.disk w'.disk
    pub part : GotPart world.out (shelved_lines (length initial.way.entries) done)
        (noted_line (length initial.way.entries + length done) last) w.out w'.out

  -- how shelving these files stops, for each cause that may stop it
  abbrev pub StopsBy : Cause → Outlets D O → Outlets D O → Type 0
  StopsBy (Failed Disk) w w' = DiskStops w w'
  StopsBy (Failed Output) w w' = LineStops w w'
  StopsBy NoMemory w w' = MemoryStops w w'
  StopsBy (Refused (Capacity needed most)) w w' = FullStops needed most w w'
  StopsBy _ w w' = ⊥

  -- shelving stopped
  pub record Stops (cause : Cause) (w w' : Outlets D O) : Type 0 where
    pub any_moment : LeavesPrefixes world.disk initial (placed_files files) w.disk w'.disk
    pub why : StopsBy cause w w'
