-- A command is given by the values of its arguments alone.
use Rattle.std.proofs.Common.{◌≡◌, Option, Some, None, codes, refl, List, ◌∷◌, [], map, String, Global, string_bytes}
use Rattle.std.specs.Prelude.{slice_get}
use Rattle.clap.specs.Words.{Text}
use Rattle.lr_words.specs.Commands.{given_by, command_of, command_shaped}
use Rattle.lr_words.specs.Shapes.{shape_named}
use Rattle.lr_words.specs.declared.shape.Shape.{Shape}
use Rattle.lr_words.specs.declared.shape.Shape.TheVariants.{Capacity, Nothing, Number, Symbols}
use Rattle.lr_words.specs.declared.shape.Shape.TheVariants.{Intake, MendedIntake, Line, Workers, Segments, Sent}
use Rattle.lr_words.specs.declared.shape.Shape.TheVariants.{Block, Made, Tried}

pub same_given : (shape : Shape) (a b : Text → Option Text) → ((id : Text) → a id ≡ b id)
    → given_by shape a ≡ given_by shape b
same_given Capacity a b same = rw (same (codes "capacity")) refl
same_given (Nothing kind) a b same = refl
same_given (Number kind) a b same = rw (same (codes "number")) refl
same_given (Symbols kind) a b same = rw (same (codes "symbols")) refl
same_given Intake a b same = rw (
  same (codes "workers"),
  same (codes "line"),
  same (codes "g2"),
  same (codes "passes"),
  same (codes "input"),
  same (codes "symbols"),
) refl
same_given MendedIntake a b same = rw (
  same (codes "mend"),
  same (codes "workers"),
  same (codes "line"),
  same (codes "g2"),
  same (codes "passes"),
  same (codes "input"),
  same (codes "symbols"),
) refl
same_given Line a b same = rw (same (codes "line"), same (codes "g2")) refl
same_given Workers a b same = rw (same (codes "workers")) refl
same_given Segments a b same = rw (
  same (codes "from"),
  same (codes "to"),
  same (codes "apid"),
  same (codes "image"),
) refl
same_given Sent a b same = rw (
  same (codes "from"),
  same (codes "to"),
  same (codes "wrong"),
  same (codes "line"),
  same (codes "g2"),
) refl
same_given Block a b same = rw (same (codes "number"), same (codes "block")) refl
same_given Made a b same = rw (
  same (codes "start"),
  same (codes "frames"),
  same (codes "wrong"),
  same (codes "output"),
) refl
same_given Tried a b same = rw (
  same (codes "start"),
  same (codes "frames"),
  same (codes "wrong"),
  same (codes "workers"),
) refl

-- The first word is the name.
pub first_named : (words : List (String Global)) (first : String Global) (name : Text) → name ≡ string_bytes first
    → Some first ≡ slice_get words 0
    → command_of (map string_bytes words) ≡ command_shaped name (map string_bytes words) (shape_named name)
unfolding command_of
first_named [] first name is e = absurd (cc)
first_named (w ∷ rest) first name is e = let same : first ≡ w = cc in rw (is, same) refl

pub no_word : (words : List (String Global)) → None ≡ slice_get words 0 → None ≡ command_of (map string_bytes words)
unfolding command_of
no_word [] e = refl
no_word (w ∷ rest) e = absurd (cc)
