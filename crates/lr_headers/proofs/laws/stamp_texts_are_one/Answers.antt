use Rattle.lr_headers.proofs.Days.{stamp_texts_are_one}
use Rattle.lr_headers.proofs.laws.stamp_texts_are_one.Goals as goal

pub returns : goal.returns
returns c = stamp_texts_are_one
