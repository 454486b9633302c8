use Rattle.std.proofs.Common.{◌∙◌, ap₂}
use Rattle.std.proofs.lemmas.Result.{IfOk-weaker}
use Rattle.clap.specs.Words.{with_rule}
use Rattle.lr_words.specs.Arguments.{intake_app}
use Rattle.lr_words.proofs.arguments.intake_parser.Goals as goal

pub returns : goal.returns
unfolding intake_app
returns c =
    let first = IfOk-weaker c.arg-parser.result _ _ (λ r a. a.shape c.option.ensures.local
    ∙ ap₂ with_rule c.new.ensures.app c.option.ensures.rule) c.arg-parser.ensures in
    let next_1 = c.with_arg-parser.ensures _ _ first c.option-2.ensures.rule in
    let next_2 = c.with_arg-parser-2.ensures _ _ next_1 c.option-3.ensures.rule in
    let next_3 = c.with_arg-parser-3.ensures _ _ next_2 c.option-4.ensures.rule in
    let next_4 = c.with_arg-parser-4.ensures _ _ next_3 c.option-5.ensures.rule in
    c.with_arg.ensures _ _ next_4 c.option-6.ensures.rule
