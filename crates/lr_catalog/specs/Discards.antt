-- The lines of a file that is discarded.
use Rattle.std.specs.Prelude.{ℕ, List, [], ◌∷◌, codes, decimal}
use Rattle.std.specs.List.{concat}

-- an entry that is gone, by its number, the first of which is 0
unfoldable pub gone_line : ℕ → List ℕ
gone_line number = concat (codes "file " ∷ decimal number ∷ codes " discarded\n" ∷ [])

-- that the file of a number was discarded
unfoldable pub discard_line : ℕ → List ℕ
discard_line number = concat (codes "discarded " ∷ decimal number ∷ codes "\n" ∷ [])
