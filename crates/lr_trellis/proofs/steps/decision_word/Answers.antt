use Rattle.std.proofs.Common.{ap, ◌∙◌, ◌+◌}
use Rattle.std.specs.Int.{bit_at}
use Rattle.std.proofs.lemmas.Nat.Bits.{bit_at_cat_low}
use Rattle.lr_trellis.proofs.Words.{joined_is, joined_high}
use Rattle.lr_trellis.proofs.steps.decision_word.Goals as goal

pub returns-clause-low : goal.returns-clause-low
returns-clause-low c = λ k low.
    ap (λ word. bit_at word k) (joined_is c.args.evens c.args.odds c.requires.evens c.requires.odds)
    ∙ bit_at_cat_low c.args.odds 32 c.args.evens k low

pub returns-clause-high : goal.returns-clause-high
returns-clause-high c = λ k low.
    ap (λ word. bit_at word (k + 32)) (joined_is c.args.evens c.args.odds c.requires.evens c.requires.odds)
    ∙ joined_high c.args.evens c.args.odds k c.requires.evens
