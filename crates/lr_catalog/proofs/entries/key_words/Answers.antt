use Rattle.std.proofs.Common.{append-nil}
use Rattle.lr_catalog.specs.Entries.{key_words}
use Rattle.lr_catalog.proofs.entries.key_words.Goals as goal

pub returns : goal.returns
unfolding key_words
returns c = rw (← c.vc-vc.ensures.value, ← c.apid-apid.ensures.value, ← c.counter-counter.ensures)
    (simp append-nil c.format.ensures.ok)
