-- The lines of a file: that it was shelved, and whether its checksum is right.
use Rattle.std.specs.Prelude.{ℕ, Option, Some, None, List, [], ◌∷◌, length, codes, decimal}
use Rattle.std.specs.List.{concat}
use Rattle.lr_bits.specs.File.{File, bytes_of, counter_of}
use Rattle.lr_catalog.specs.Hex.{hex_word}

-- the file with a number, the first of which is 0
unfoldable pub shelved_line : ℕ → File → List ℕ
shelved_line number file = concat (
    codes "shelved " ∷ decimal number ∷ codes " vc " ∷ decimal file.vc ∷ codes " apid " ∷ decimal file.apid
    ∷ codes " counter " ∷ decimal (counter_of file) ∷ codes " bytes " ∷ decimal (length (bytes_of file))
    ∷ codes " packets " ∷ decimal (length file.bodies) ∷ codes "\n" ∷ [])

-- a file whose checksum is right
unfoldable pub ok_line : ℕ → List ℕ
ok_line number = concat (codes "file " ∷ decimal number ∷ codes " ok\n" ∷ [])

-- a file whose checksum is wrong: the one that is stored after its record, and the one of the record's bytes
unfoldable pub bad_line : ℕ → ℕ → ℕ → List ℕ
bad_line number stored computed = concat (
    codes "file " ∷ decimal number ∷ codes " bad stored " ∷ hex_word stored ∷ codes " computed "
    ∷ hex_word computed ∷ codes "\n" ∷ [])

abbrev pub check_line : ℕ → Option (ℕ × ℕ) → List ℕ
check_line number None = ok_line number
check_line number (Some sums) = bad_line number sums.0 sums.1
