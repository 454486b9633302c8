use Rattle.lr_laws.proofs.OnlyImages.{only_images}
use Rattle.lr_laws.proofs.mending.only_images_have_fillers.Goals as goal

pub returns : goal.returns
returns c = only_images
