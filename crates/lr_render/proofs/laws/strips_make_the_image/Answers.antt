use Rattle.lr_render.proofs.Whole.{strips_make_the_image}
use Rattle.lr_render.proofs.laws.strips_make_the_image.Goals as goal

pub returns : goal.returns
returns c = strips_make_the_image
