use Rattle.std.proofs.Common.{append-nil}
use Rattle.lr_catalog.specs.Entries.{origin_words}
use Rattle.lr_catalog.proofs.entries.origin_words.Goals as goal

pub returns-in-Some : goal.returns-in-Some
unfolding origin_words
returns-in-Some c = rw c.in-Some.is (simp append-nil c.format.ensures.ok)
