-- What words give whose command doesn't run on one thread.
use Rattle.std.proofs.Common.{◌≡◌, ◌⊎◌, inl, inr, ℕ, Bool, true, false, cond, Option, Some, None, List, [], ◌∷◌, refl}
use Rattle.std.specs.Prelude.{codes, option_map}
use Rattle.lr_conv.specs.declared.line.LineCode.{LineCode}
use Rattle.lr_words.specs.Arguments.{app_of_shape}
use Rattle.lr_words.specs.Commands.{alone_when, command_of, command_shaped, runs_alone_by}
use Rattle.lr_words.specs.Shapes.{shape_named}
use Rattle.lr_words.specs.Values.{line_code_given}
use Rattle.lr_words.specs.Words.{argument_value, is_taken}
use Rattle.lr_words.specs.declared.command.Command.{Command}
use Rattle.lr_words.specs.declared.command.Command.TheVariants.{Downlinks}
use Rattle.lr_words.specs.declared.shape.Shape.{Shape}
use Rattle.lr_words.specs.declared.shape.Shape.TheVariants.{Line}

abbrev NoneOrDownlinks : Option Command → Type 0
NoneOrDownlinks command = (command ≡ None) ⊎ ((line : LineCode) × (command ≡ Some (Downlinks line)))

line_taken : (taken : Bool) (line : Option LineCode)
    → NoneOrDownlinks (cond taken (option_map (λ code. Downlinks code) line) None)
line_taken true None = inl refl
line_taken true (Some line) = inr (line, refl)
line_taken false line = inl refl

by_shape : (name : List ℕ) (words : List (List ℕ)) (shape : Option Shape) → alone_when shape ≡ false
    → NoneOrDownlinks (command_shaped name words shape)
by_shape name words None other = inl refl
by_shape name words (Some Line) other =
    line_taken (is_taken (app_of_shape Line name) words)
    (line_code_given (argument_value (app_of_shape Line name) words (codes "line"))
    (argument_value (app_of_shape Line name) words (codes "g2")))
by_shape name words (Some shape) other = absurd (cc (other))

pub none_or_downlinks : (words : List (List ℕ)) → runs_alone_by words ≡ false → NoneOrDownlinks (command_of words)
unfolding command_of
none_or_downlinks [] other = inl refl
none_or_downlinks (name ∷ rest) other = by_shape name (name ∷ rest) (shape_named name) other
