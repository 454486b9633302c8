use Rattle.std.proofs.Common.{◌∷◌, if◌then◌else◌, ap, ◌∙◌, arith}
use Rattle.lr_rice.specs.CodedLines.{short_width}
use Rattle.lr_rice.proofs.ItemLemmas.{long_identifier}
use Rattle.lr_rice.proofs.choice.read_identifier.Goals as goal

pub returns-then-second-clause-ok : goal.returns-then-second-clause-ok
returns-then-second-clause-ok c =
    long_identifier c.short_width-width.result
    (short_width c.args.bits) c.in_ok-number.number 1 c.args.reader.now c.bits.new.self c.bit.new.self
    c.short_width-width.ensures.value c.if-number-eq0.true (omega arith) c.in_ok-number.ensures.ok
    (c.in_ok-second.ensures.ok ∙ ap (λ b. (if b then 1 else 0) ∷ c.bit.new.self) c.if-second.true)

pub returns-else-second-clause-ok : goal.returns-else-second-clause-ok
returns-else-second-clause-ok c =
    long_identifier c.short_width-width.result
    (short_width c.args.bits) c.in_ok-number.number 0 c.args.reader.now c.bits.new.self c.bit.new.self
    c.short_width-width.ensures.value c.if-number-eq0.true (omega arith) c.in_ok-number.ensures.ok
    (c.in_ok-second.ensures.ok ∙ ap (λ b. (if b then 1 else 0) ∷ c.bit.new.self) c.if-second.false)
