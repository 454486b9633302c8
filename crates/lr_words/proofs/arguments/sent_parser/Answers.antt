use Rattle.std.proofs.Common.{◌∙◌, ap₂}
use Rattle.std.proofs.lemmas.Result.{IfOk-weaker}
use Rattle.clap.specs.Words.{with_rule}
use Rattle.lr_words.specs.Arguments.{sent_app}
use Rattle.lr_words.proofs.arguments.sent_parser.Goals as goal

pub returns : goal.returns
unfolding sent_app
returns c =
    let first = IfOk-weaker c.arg-parser.result _ _ (λ r a. a.shape c.place.ensures.local
    ∙ ap₂ with_rule c.new.ensures.app c.place.ensures.rule) c.arg-parser.ensures in
    let next_1 = c.with_arg-parser.ensures _ _ first c.place-2.ensures.rule in
    let next_2 = c.with_arg-parser-2.ensures _ _ next_1 c.place-3.ensures.rule in
    let next_3 = c.with_arg-parser-3.ensures _ _ next_2 c.option.ensures.rule in
    c.with_arg.ensures _ _ next_3 c.option-2.ensures.rule
