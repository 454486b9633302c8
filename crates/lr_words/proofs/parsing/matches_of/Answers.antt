use Rattle.std.proofs.Common.{◌∙◌, ap}
use Rattle.clap.specs.Words.{app_of, first_of, found_of}
use Rattle.clap.proofs.WalkLemmas.{first_value-rows}
use Rattle.lr_words.specs.Words.{argument_value}
use Rattle.lr_words.proofs.Taken.{covered_free, covered_simple, taken_unless, refused_since}
use Rattle.lr_words.proofs.parsing.matches_of.Goals as goal

pub returns-in-Ok : goal.returns-in-Ok
unfolding argument_value
returns-in-Ok c = (
  taken_unless (app_of c.args.command) _ c.requires (c.in-Ok.ensures.kinds (covered_free _ c.requires)),
  λ id. first_value-rows (found_of c.in-Ok.matches) id
      ∙ ap (first_of id) (c.in-Ok.ensures.matches (covered_simple _ c.requires)).0,
)

pub returns : goal.returns
returns c = refused_since (app_of c.args.command) _
    (λ taken. c.in_default.not-OutOfMemory (c.kind.ensures ∙ c.in-Err.ensures.passes taken))
