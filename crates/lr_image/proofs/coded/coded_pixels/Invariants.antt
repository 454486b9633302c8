use Rattle.std.proofs.Common.{◌-◌}
use Rattle.lr_image.specs.Pieces.{pieces_after}
use Rattle.lr_image.specs.Places.{IsPlaceIn, pieces_at}
use Rattle.lr_image.specs.Images.{line_form}
use Rattle.lr_image.proofs.LineLemmas.{Partway}
use Rattle.lr_image.proofs.coded.coded_pixels.Given as goal

-- the pieces so far
abbrev pub invariant-loop-done : goal.invariant-loop-done
invariant-loop-done l = record {
  inside : IsPlaceIn l.file l.place;
  partway : Partway (line_form l.structure l.lossless) l.lossless.lines l.structure.lines l.number l.done l.pixels
      (pieces_at l.file l.place) (pieces_after l.skipped l.file.bodies);
}

abbrev pub decreases-loop-done : goal.decreases-loop-done
decreases-loop-done l = l.all - l.done
