use Rattle.std.proofs.Common.{◌∙◌, refl}
use Rattle.std.proofs.lemmas.Result.{IfOk-weaker}
use Rattle.lr_words.proofs.Alike.{same_given}
use Rattle.lr_words.proofs.Covered.{shape_covered}
use Rattle.lr_words.proofs.read.read_shape.Goals as goal

pub matches_by-requires : goal.matches_by-requires
matches_by-requires c =
    IfOk-weaker c.parser_of.result _ _ (λ p is. rw is (shape_covered c.args.shape c.args.name.now)) c.parser_of.ensures

pub returns-in-Some-clause-gives : goal.returns-in-Some-clause-gives
returns-in-Some-clause-gives c =
    let found = rw c.in-Some.is at (c.in_ok-matches.ensures _ c.parser_of.ensures) in
    c.command_given.ensures.gives ∙ same_given c.args.shape _ _ found.1 ∙ (rw found.0 refl)

pub returns-in-None-clause-gives : goal.returns-in-None-clause-gives
returns-in-None-clause-gives c = rw (rw c.in-None.is at (c.in_ok-matches.ensures _ c.parser_of.ensures)) refl
