use Rattle.std.proofs.Common.{arith, ap, ◌∙◌, ◌+◌, nat_eq}
use Rattle.std.specs.Int.{bit_at}
use Rattle.std.specs.Prelude.{bit_xor, not}
use Rattle.lr_lanes.proofs.TurnedWord.{complement_at}
use Rattle.lr_lanes.proofs.narrow_lanes.seconds_of.Goals as goal

pub returns-clause-even : goal.returns-clause-even
returns-clause-even c = λ k l.
    ap (λ o. nat_eq (bit_at (bit_xor c.decision_word.result o) k) 1) c.requires.ones
    ∙ complement_at c.decision_word.result k (omega arith)
    ∙ ap (λ x. not (nat_eq x 1)) (c.decision_word.ensures.low k l)

pub returns-clause-odd : goal.returns-clause-odd
returns-clause-odd c = λ k l.
    ap (λ o. nat_eq (bit_at (bit_xor c.decision_word.result o) (k + 32)) 1) c.requires.ones
    ∙ complement_at c.decision_word.result (k + 32) (omega arith)
    ∙ ap (λ x. not (nat_eq x 1)) (c.decision_word.ensures.high k l)
