-- Bytes of any value in print.
use Rattle.std.specs.Prelude.{◌+◌, ◌/◌, ◌%◌, ◌==◌, ◌&&◌, ◌||◌, not, nat_le, nat_lt, ℕ, Bool, List, [], ◌∷◌}
use Rattle.std.specs.Prelude.{if◌then◌else◌}
use Rattle.std.specs.List.{flat_map}

-- a byte that stands for itself: 20 to 7E hexadecimal, but the backslash
abbrev pub is_plain : ℕ → Bool
is_plain byte = nat_le 32 byte && nat_le byte 126 && not (byte == 92)

-- an upper case digit of a number below 16
abbrev pub hex_digit : ℕ → ℕ
hex_digit n = if nat_lt n 10 then 48 + n else 55 + n

-- the byte, or a backslash, `x` and two digits
abbrev pub escaped_byte : ℕ → List ℕ
escaped_byte byte =
    if is_plain byte then byte ∷ []
    else 92 ∷ 120 ∷ hex_digit (byte / 16) ∷ hex_digit (byte % 16) ∷ []

abbrev pub escaped_text : List ℕ → List ℕ
escaped_text text = flat_map escaped_byte text

-- zeros and spaces, which fill a name up
abbrev pub is_blank : ℕ → Bool
is_blank byte = (byte == 0) || (byte == 32)

-- a byte before what is left of those after it
abbrev pub trimmed_text_with : ℕ → List ℕ → List ℕ
trimmed_text_with byte [] = if is_blank byte then [] else byte ∷ []
trimmed_text_with byte (next ∷ rest) = byte ∷ next ∷ rest

-- without the zeros and spaces at its end
abbrev pub trimmed_text : List ℕ → List ℕ
trimmed_text [] = []
trimmed_text (byte ∷ rest) = trimmed_text_with byte (trimmed_text rest)
