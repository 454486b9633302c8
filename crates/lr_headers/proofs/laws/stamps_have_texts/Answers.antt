use Rattle.lr_headers.proofs.Days.{stamps_have_texts}
use Rattle.lr_headers.proofs.laws.stamps_have_texts.Goals as goal

pub returns : goal.returns
returns c = stamps_have_texts
