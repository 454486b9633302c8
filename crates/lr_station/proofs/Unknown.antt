-- Words whose first one names no command give none.
use Rattle.std.proofs.Common.{◌≡◌, ℕ, false, inl, inr, Some, None, IsSome, List, [], ◌∷◌, refl, ap}
use Rattle.lr_words.specs.Commands.{command_of, command_shaped, runs_alone_by, IsNamed}
use Rattle.lr_words.specs.Shapes.{shape_named}
use Rattle.lr_words.proofs.OneThread.{none_or_downlinks}
use Rattle.lr_station.specs.Effects.{alone}

no_shape : (name : List ℕ) (words : List (List ℕ)) (shape : _) → (IsSome shape → ⊥)
    → command_shaped name words shape ≡ None
no_shape name words None unknown = refl
no_shape name words (Some shape) unknown = absurd (unknown refl)

pub unnamed : (words : List (List ℕ)) → (IsNamed words → ⊥) → command_of words ≡ None
unfolding command_of
unnamed [] unknown = refl
unnamed (name ∷ rest) unknown = no_shape name (name ∷ rest) (shape_named name) unknown

-- ---- on one thread

pub not_alone : (words : List (List ℕ)) → runs_alone_by words ≡ false → alone (command_of words) ≡ None
not_alone words other = elim (none_or_downlinks words other) [
  | inl none ↦ ap alone none
  | inr some ↦ ap alone some.1
]
