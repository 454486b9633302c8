use Rattle.std.proofs.Common.{append_assoc, append-nil}
use Rattle.lr_catalog.specs.Records.{segment_words}
use Rattle.lr_catalog.proofs.records.segment_words.Goals as goal

pub returns : goal.returns
unfolding segment_words
returns c = simp append-nil (simp append_assoc at c.format.ensures.ok)
