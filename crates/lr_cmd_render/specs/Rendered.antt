-- What `render` puts, said of the entries of a shelf alone: the joined text of the images of all entries that aren't
-- gone and have one, in their order.
use Rattle.std.specs.Prelude.{◌≡◌, ◌⊎◌, ◌+◌, ℕ, zero, suc, Some, None, Result, List, [], ◌++◌, length, All}
use Rattle.std.specs.List.{flat_map}
use Rattle.lr_image.specs.Picture.{Picture}
use Rattle.lr_image.specs.Images.{HasOutcome}
use Rattle.lr_image.specs.declared.fault.ImageFault.{ImageFault}
use Rattle.lr_shelf_format.specs.Way.{Way, IsWay, Gone, IsFound, Sound}
use Rattle.lr_shelf_format.specs.declared.entry.Entry.{Entry}
use Rattle.lr_shelf_format.specs.declared.stored.Stored.{Stored}
use Rattle.lr_causes.specs.Outside.{Outlets, OutletsOf}
use Rattle.lr_causes.specs.Puts.{GotText}
use Rattle.lr_causes.specs.declared.cause.Cause.{Cause}
use Rattle.lr_causes.specs.declared.cause.Cause.TheVariants.{DoneWith}
use Rattle.lr_causes.specs.declared.note.Note.TheVariants.{Rendered}
use Rattle.lr_cmd_shelf.specs.declared.opened.Opened.{Opened}
use Rattle.lr_cmd_shelf.specs.Looking.{each_image}
use Rattle.lr_cmd_shelf.specs.Queries.{Answer, entry_at, IsAnswer}
use Rattle.lr_cmd_shelf.specs.Runs.{IsDone}
use Rattle.lr_cmd_render.specs.Render.{image_text, images_in, render_query, skipped_in}

-- a file stands at the entry, and this is the text of its image, if it has one
pub record IsTextOfFile (bytes : List ℕ) (entry : Entry) (text : List ℕ) : Type 0 where
  pub stored : Stored
  pub found : IsFound bytes entry (Some (Sound stored))
  pub outcome : Result Picture ImageFault
  pub has : HasOutcome stored.file outcome
  pub is : text ≡ image_text (Some outcome)

-- the text of an entry; one that is gone has none
abbrev pub IsTextOf : List ℕ → Entry → List ℕ → Type 0
IsTextOf bytes entry text = (IsFound bytes entry (Some Gone) × (text ≡ [])) ⊎ IsTextOfFile bytes entry text

-- the text of one entry, and then that of the others
pub record TextThen (bytes : List ℕ) (entry : Entry) (Others : List ℕ → Type 0) (text : List ℕ) : Type 0 where
  pub one : List ℕ
  pub is_one : IsTextOf bytes entry one
  pub others : List ℕ
  pub are_others : Others others
  pub joined : text ≡ one ++ others

-- the joined text of this many entries, from this number on
abbrev pub IsRendered : List ℕ → Way → (left number : ℕ) → List ℕ → Type 0
IsRendered bytes way zero number text = text ≡ []
IsRendered bytes way (suc left) number text =
    TextThen bytes (entry_at way number) (IsRendered bytes way left (number + 1)) text

-- the images of files, by what was found of each, one after another
abbrev pub images_text : List Opened → List ℕ
images_text files = flat_map (λ opened. image_text opened.image) files

module _ {D O : Type 0} (world : OutletsOf D O) where
  -- What was put is the images of some files, of each of which this was found, and these were counted. Where the disk
  -- tells its contents, they are those of all entries.
  pub record HasRendered (cause : Cause) (w w' : Outlets D O) : Type 0 where
    pub files : List Opened
    pub found : All (λ opened. each_image opened.stored opened.image) files
    pub put : GotText world.out (images_text files) w.out w'.out
    pub counted : cause ≡ DoneWith (Rendered (images_in files) (skipped_in files))
    pub are : world.disk.tells w.disk → (way : Way) × IsWay (world.disk.contents w.disk) way
        × IsRendered (world.disk.contents w.disk) way (length way.entries) 0 (images_text files)

  -- Where the call is done, over every disk, this is what it put.
  abbrev pub Renders : Cause → Outlets D O → Outlets D O → Type 0
  Renders cause w w' = IsDone cause → HasRendered cause w w'

-- where nothing is refused, the answer of the bytes is the text of all entries
abbrev pub RenderPutsImages : Type 0
RenderPutsImages =
    (bytes : List ℕ) (way : Way) (answer : Answer) → IsWay bytes way → IsAnswer render_query bytes answer
    → answer.refusal ≡ None → IsRendered bytes way (length way.entries) 0 answer.text
