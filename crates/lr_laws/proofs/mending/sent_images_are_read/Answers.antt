use Rattle.lr_laws.proofs.SentImages.{sent_images}
use Rattle.lr_laws.proofs.mending.sent_images_are_read.Goals as goal

pub returns : goal.returns
returns c = sent_images
