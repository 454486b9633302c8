use Rattle.std.proofs.Common.{◌∙◌, ap₂}
use Rattle.std.proofs.lemmas.Result.{IfOk-weaker}
use Rattle.clap.specs.Words.{with_rule}
use Rattle.lr_words.specs.Arguments.{line_app}
use Rattle.lr_words.proofs.arguments.line_parser.Goals as goal

pub returns : goal.returns
unfolding line_app
returns c =
    let first = IfOk-weaker c.arg-parser.result _ _ (λ r a. a.shape c.option.ensures.local
    ∙ ap₂ with_rule c.new.ensures.app c.option.ensures.rule) c.arg-parser.ensures in
    c.with_arg.ensures _ _ first c.option-2.ensures.rule
