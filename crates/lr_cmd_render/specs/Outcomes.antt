-- What is put of an image that is whole. No clause of a public call cites this.
use Rattle.std.specs.Prelude.{◌≡◌, ◌+◌, Some, Result, Ok, Err}
use Rattle.lr_bits.specs.File.{File}
use Rattle.lr_io.specs.declared.sink.Sink.{Ghosts as SinkOf}
use Rattle.lr_image.specs.Picture.{Picture}
use Rattle.lr_image.specs.Images.{HasOutcome}
use Rattle.lr_image.specs.declared.fault.ImageFault.{ImageFault}
use Rattle.lr_causes.specs.Puts.{Puts}
use Rattle.lr_causes.specs.declared.cause.Cause.{Cause}
use Rattle.lr_cmd_render.specs.Render.{image_text}
use Rattle.lr_cmd_shelf.specs.Steps.{TextStops}
use Rattle.lr_cmd_render.specs.declared.tally.Tally.{Tally}

-- with one image more, or with one file more that is skipped
abbrev pub tally_with : Result Picture ImageFault → Tally → Tally
tally_with (Ok picture) tally = record { images = tally.images + 1; skipped = tally.skipped }
tally_with (Err fault) tally = record { images = tally.images; skipped = tally.skipped + 1 }

module _ {O : Type 0} (out : SinkOf O) (file : File) where
  -- the text of the file's image was put, if it has one
  pub record PutsOutcome (tally tally' : Tally) (o o' : O) : Type 0 where
    pub outcome : Result Picture ImageFault
    pub has : HasOutcome file outcome
    pub puts : Puts out (image_text (Some outcome)) o o'
    pub counted : tally' ≡ tally_with outcome tally

  -- it wasn't
  pub record OutcomeStops (cause : Cause) (o o' : O) : Type 0 where
    pub outcome : Result Picture ImageFault
    pub has : HasOutcome file outcome
    pub stops : TextStops out (Ok (image_text (Some outcome))) cause o o'
