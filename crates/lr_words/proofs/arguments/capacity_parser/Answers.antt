use Rattle.std.proofs.Common.{◌∙◌, ap₂}
use Rattle.std.proofs.lemmas.Result.{IfOk-weaker}
use Rattle.clap.specs.Words.{with_rule}
use Rattle.lr_words.specs.Arguments.{capacity_app}
use Rattle.lr_words.proofs.arguments.capacity_parser.Goals as goal

pub returns : goal.returns
unfolding capacity_app
returns c = IfOk-weaker c.arg.result _ _ (λ r a. a.shape c.place.ensures.local
    ∙ ap₂ with_rule c.new.ensures.app c.place.ensures.rule) c.arg.ensures
