use Rattle.std.proofs.Common.{◌∙◌, sym, ap, rules}
use Rattle.std.proofs.lemmas.Result.{IfOk-weaker}
use Rattle.lr_words.proofs.Alike.{first_named, no_word}
use Rattle.lr_words.specs.Commands.{command_shaped}
use Rattle.lr_words.proofs.read.read_words.Goals as goal

pub returns-in_default-clause-gives : goal.returns-in_default-clause-gives
returns-in_default-clause-gives c = no_word c.args.words.now (search rules)

pub returns-in-Some-shape_of-clause-gives : goal.returns-in-Some-shape_of-clause-gives
returns-in-Some-shape_of-clause-gives c =
    let named = first_named c.args.words.now c.in-Some.first.now c.as_str-name.result.now c.as_str-name.ensures.value
    c.in-Some.ensures.value in
    let shape = c.in-Some-shape_of.ensures in
    IfOk-weaker c.read_shape.result _ _ (λ r e. e ∙ ap (command_shaped _ _) shape ∙ sym named)
    c.read_shape.ensures.gives

pub returns-in-None-clause-gives : goal.returns-in-None-clause-gives
returns-in-None-clause-gives c =
    let named = first_named c.args.words.now c.in-Some.first.now c.as_str-name.result.now c.as_str-name.ensures.value
    c.in-Some.ensures.value in
    ap (command_shaped _ _) c.in-None.ensures ∙ sym named
