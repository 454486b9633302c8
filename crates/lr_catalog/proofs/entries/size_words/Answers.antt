use Rattle.std.proofs.Common.{append-nil}
use Rattle.lr_catalog.specs.Entries.{size_words}
use Rattle.lr_catalog.proofs.entries.size_words.Goals as goal

pub returns : goal.returns
unfolding size_words
returns c = rw (← c.bytes.ensures.value, ← c.packets-packets.ensures) (simp append-nil c.format.ensures.ok)
