use Rattle.lr_words.proofs.Writing.{only_writers}
use Rattle.lr_words.proofs.laws.only_writers_may_write.Goals as goal

pub returns : goal.returns
returns c = only_writers
