-- The lines of a shelf's entries, and the last one, which counts them.
use Rattle.std.specs.Prelude.{◌==◌, ℕ, Bool, true, false, Option, Some, None, Result, Ok, Err, List, [], ◌∷◌, length}
use Rattle.std.specs.Prelude.{codes, decimal}
use Rattle.std.specs.List.{concat}
use Rattle.lr_bits.specs.File.{File, bytes_of, counter_of, declared_bits_of, proper_of, real_bits_of}
use Rattle.lr_bits.specs.declared.placed.Origin.{Origin}
use Rattle.lr_headers.specs.declared.fault.HeaderFault.{HeaderFault}
use Rattle.lr_headers.specs.Fields.{file_type}
use Rattle.lr_headers.specs.Headers.{header_of}
use Rattle.lr_headers.specs.Tiling.{Header}

-- a file's channel and application, and the counter of its transport header
unfoldable pub key_words : ℕ → File → List ℕ
key_words number file = concat (
    codes "file " ∷ decimal number ∷ codes " vc " ∷ decimal file.vc ∷ codes " apid " ∷ decimal file.apid
    ∷ codes " counter " ∷ decimal (counter_of file) ∷ [])

-- how many bytes and packets it has, the transport header counted
unfoldable pub size_words : File → List ℕ
size_words file = concat (
    codes " bytes " ∷ decimal (length (bytes_of file)) ∷ codes " packets " ∷ decimal (length file.bodies) ∷ [])

abbrev pub same_word : Bool → List ℕ
same_word true = codes "same"
same_word false = codes "differs"

-- how many bits the file says that it has, how many it has, and whether these are the same
unfoldable pub bits_words : ℕ → ℕ → List ℕ
bits_words declared real = concat (
    codes " declared " ∷ decimal declared ∷ codes " real " ∷ decimal real ∷ codes " " ∷ same_word (declared == real)
    ∷ [])

-- the file type of the header, where there is one
abbrev pub type_word : Result Header HeaderFault → List ℕ
type_word (Ok header) = decimal (file_type header)
type_word (Err fault) = codes "fault"

-- where the file came from, where its entry tells that
unfoldable pub origin_words : Option Origin → List ℕ
origin_words (Some origin) = concat (
    codes " frames " ∷ decimal origin.first ∷ codes " " ∷ decimal origin.last ∷ codes " corrected "
    ∷ decimal origin.corrected ∷ [])
origin_words None = codes " frames none"

-- the line of these words
unfoldable pub file_words : (key size bits kind origin : List ℕ) → List ℕ
file_words key size bits kind origin =
    concat (key ∷ size ∷ bits ∷ codes " type " ∷ kind ∷ origin ∷ codes "\n" ∷ [])

-- the file of a number, the first of which is 0
unfoldable pub file_line : ℕ → File → Option Origin → List ℕ
file_line number file origin = file_words
    (key_words number file) (size_words file) (bits_words (declared_bits_of file) (real_bits_of file))
    (type_word (header_of (proper_of file))) (origin_words origin)

-- how many entries a shelf has, where it ends, and its capacity
unfoldable pub shelf_line : ℕ → ℕ → ℕ → List ℕ
shelf_line count used capacity = concat (
    codes "files " ∷ decimal count ∷ codes " used " ∷ decimal used ∷ codes " capacity " ∷ decimal capacity
    ∷ codes "\n" ∷ [])
