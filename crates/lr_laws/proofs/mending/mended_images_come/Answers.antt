use Rattle.lr_laws.proofs.MendableImages.{mended_come}
use Rattle.lr_laws.proofs.mending.mended_images_come.Goals as goal

pub returns : goal.returns
returns c = mended_come
