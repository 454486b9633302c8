use Rattle.std.proofs.Common.{append-nil, rules}
use Rattle.lr_catalog.specs.Records.{projection_words}
use Rattle.lr_catalog.proofs.records.projection_words.Goals as goal

pub returns : goal.returns
unfolding projection_words
returns c = simp append-nil (search rules)
