use Rattle.std.proofs.Common.{◌∙◌, ap₂}
use Rattle.std.proofs.lemmas.Result.{IfOk-weaker}
use Rattle.clap.specs.Words.{with_rule}
use Rattle.lr_words.specs.Arguments.{workers_app}
use Rattle.lr_words.proofs.arguments.workers_parser.Goals as goal

pub returns : goal.returns
unfolding workers_app
returns c = IfOk-weaker c.arg.result _ _ (λ r a. a.shape c.option.ensures.local
    ∙ ap₂ with_rule c.new.ensures.app c.option.ensures.rule) c.arg.ensures
