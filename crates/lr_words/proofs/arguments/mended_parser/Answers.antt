use Rattle.lr_words.specs.Arguments.{mended_app}
use Rattle.lr_words.proofs.arguments.mended_parser.Goals as goal

pub returns : goal.returns
unfolding mended_app
returns c = c.with_arg.ensures _ _ c.intake_parser.ensures c.option.ensures.rule
