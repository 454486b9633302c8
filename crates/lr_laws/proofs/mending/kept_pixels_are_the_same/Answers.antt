use Rattle.lr_laws.proofs.SamePixels.{kept_pixels}
use Rattle.lr_laws.proofs.mending.kept_pixels_are_the_same.Goals as goal

pub returns : goal.returns
returns c = kept_pixels
