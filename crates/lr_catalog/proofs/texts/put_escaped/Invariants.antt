use Rattle.std.proofs.Common.{◌≡◌, ◌++◌, take}
use Rattle.lr_catalog.specs.Texts.{escaped_text}
use Rattle.lr_catalog.proofs.texts.put_escaped.Given as goal

abbrev pub invariant-loop-byte : goal.invariant-loop-byte
invariant-loop-byte l = l.out ≡ l.initial.out ++ escaped_text (take l.byte-index l.text)
