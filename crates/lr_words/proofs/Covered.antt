-- The rule that `clap` states covers each command.
use Rattle.std.proofs.Common.{◌≡◌, true, refl}
use Rattle.clap.proofs.OnLiterals.{clap_on_literals}
use Rattle.clap.specs.Words.{Text}
use Rattle.lr_words.specs.Arguments.{capacity_app, number_app, symbols_app, intake_app, line_app, mended_app}
use Rattle.lr_words.specs.Arguments.{workers_app, segments_app, sent_app, block_app, stream_app}
use Rattle.lr_words.specs.Arguments.{app_of_shape}
use Rattle.lr_words.specs.Words.{is_covered}
use Rattle.lr_words.specs.declared.shape.Shape.{Shape}
use Rattle.lr_words.specs.declared.shape.Shape.TheVariants.{Capacity, Nothing, Number, Symbols}
use Rattle.lr_words.specs.declared.shape.Shape.TheVariants.{Intake, MendedIntake, Line, Workers, Segments, Sent}
use Rattle.lr_words.specs.declared.shape.Shape.TheVariants.{Block, Made, Tried}

pub shape_covered : (shape : Shape) (name : Text) → is_covered (app_of_shape shape name) ≡ true
unfolding is_covered capacity_app number_app symbols_app intake_app mended_app line_app workers_app segments_app
    sent_app
    block_app stream_app clap_on_literals
shape_covered Capacity name = refl
shape_covered (Nothing kind) name = refl
shape_covered (Number kind) name = refl
shape_covered (Symbols kind) name = refl
shape_covered Intake name = refl
shape_covered MendedIntake name = refl
shape_covered Line name = refl
shape_covered Workers name = refl
shape_covered Segments name = refl
shape_covered Sent name = refl
shape_covered Block name = refl
shape_covered Made name = refl
shape_covered Tried name = refl
