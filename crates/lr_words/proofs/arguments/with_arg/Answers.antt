use Rattle.std.proofs.Common.{◌∙◌, ap₂}
use Rattle.std.proofs.lemmas.Result.{IfOk-weaker}
use Rattle.clap.specs.Words.{with_rule}
use Rattle.lr_words.proofs.arguments.with_arg.Goals as goal

pub returns : goal.returns
returns c = λ app rule is same. IfOk-weaker c.arg.result _ _ (λ r a. a.shape c.requires
    ∙ ap₂ with_rule (rw c.in_ok-parser.was at is) same) c.arg.ensures
