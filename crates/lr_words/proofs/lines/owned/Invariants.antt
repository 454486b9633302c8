use Rattle.std.proofs.Common.{◌≡◌, map, string_bytes, take}
use Rattle.lr_words.proofs.lines.owned.Given as goal

abbrev pub invariant-loop-line : goal.invariant-loop-line
invariant-loop-line l = map string_bytes l.words.items ≡ map (λ x. x.now) (take l.line-index l.lines)
