-- The line of a file whose image was coded anew.
use Rattle.std.specs.Prelude.{ℕ, List, [], ◌∷◌, codes, decimal}
use Rattle.std.specs.List.{concat}

-- the number of the file and that of the new one, and how many bytes all bodies of each have
unfoldable pub repack_line : (number new before after : ℕ) → List ℕ
repack_line number new before after =
    concat (codes "repacked " ∷ decimal number ∷ codes " as " ∷ decimal new ∷ codes " bytes " ∷ decimal before
    ∷ codes " to " ∷ decimal after ∷ codes "\n" ∷ [])
