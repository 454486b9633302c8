use Rattle.std.proofs.Common.{◌∙◌, ap₂}
use Rattle.std.proofs.lemmas.Result.{IfOk-weaker}
use Rattle.clap.specs.Words.{with_rule}
use Rattle.lr_words.specs.Arguments.{segments_app}
use Rattle.lr_words.proofs.arguments.segments_parser.Goals as goal

pub returns : goal.returns
unfolding segments_app
returns c =
    let first = IfOk-weaker c.arg-parser.result _ _ (λ r a. a.shape c.place.ensures.local
    ∙ ap₂ with_rule c.new.ensures.app c.place.ensures.rule) c.arg-parser.ensures in
    let next_1 = c.with_arg-parser.ensures _ _ first c.place-2.ensures.rule in
    let next_2 = c.with_arg-parser-2.ensures _ _ next_1 c.place-3.ensures.rule in
    c.with_arg.ensures _ _ next_2 c.place-4.ensures.rule
