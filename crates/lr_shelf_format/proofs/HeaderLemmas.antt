-- What can be read of a header.
use Rattle.std.proofs.Common.{◌≡◌, ◌<◌, ◌^◌, ℕ, List, [], ◌∷◌, ◌++◌, length, get_or, take, drop, refl, sym, ap, ◌∙◌}
use Rattle.std.proofs.Common.{arith, take-append-drop}
use Rattle.std.proofs.lemmas.List.{take_at, get_or-drop, get_or-take}
use Rattle.byteorder.specs.Endian.{big_bytes, big_number}
use Rattle.byteorder.specs.Numbers.{big_number-reads_back}
use Rattle.lr_bits.specs.Crc.{crc_of}
use Rattle.lr_shelf_format.specs.Header.{HasHeader, header_bytes, named_capacity}

pub length-header_bytes : (version capacity : ℕ) → length (header_bytes version capacity) ≡ 19
unfolding header_bytes
length-header_bytes version capacity = refl

capacity_of-append : (version capacity : ℕ) (rest : List ℕ) → capacity < 256 ^ 8
    → big_number 8 (drop 9 (header_bytes version capacity ++ rest)) ≡ capacity
unfolding header_bytes
capacity_of-append version capacity rest fits =
    big_number-reads_back 8 capacity (big_bytes 2 (crc_of (named_capacity version capacity)) ++ rest) fits

-- the bytes are the header and what stands after it
pub header_split : (bytes : List ℕ) (capacity : ℕ) → (has : HasHeader bytes capacity)
    → bytes ≡ header_bytes has.version capacity ++ drop 19 bytes
header_split bytes capacity has = sym (take-append-drop 19 bytes)
    ∙ ap (λ (front : List ℕ). front ++ drop 19 bytes) has.stands

-- the capacity is the number at place 9
pub capacity_in : (bytes : List ℕ) (capacity : ℕ) → HasHeader bytes capacity → big_number 8 (drop 9 bytes) ≡ capacity
capacity_in bytes capacity has =
    ap (λ (all : List ℕ). big_number 8 (drop 9 all)) (header_split bytes capacity has)
    ∙ capacity_of-append has.version capacity (drop 19 bytes) (omega (arith, has.allowed.most))

-- there is one capacity
pub capacity_is : (bytes : List ℕ) (capacity capacity' : ℕ) → HasHeader bytes capacity → HasHeader bytes capacity'
    → capacity ≡ capacity'
capacity_is bytes capacity capacity' has has' = sym (capacity_in bytes capacity has) ∙ capacity_in bytes capacity' has'

pub take-header_bytes : (version capacity : ℕ) (rest : List ℕ)
    → take 19 (header_bytes version capacity ++ rest) ≡ header_bytes version capacity
take-header_bytes version capacity rest =
    take_at (header_bytes version capacity) rest 19 (length-header_bytes version capacity)

version_of-append : (version capacity : ℕ) (rest : List ℕ)
    → take 1 (drop 8 (header_bytes version capacity ++ rest)) ≡ version ∷ []
unfolding header_bytes
version_of-append version capacity rest = refl

-- the version is the byte at place 8
pub version_in : (bytes : List ℕ) (capacity : ℕ) → (has : HasHeader bytes capacity)
    → take 1 (drop 8 bytes) ≡ has.version ∷ []
version_in bytes capacity has = ap (λ (all : List ℕ). take 1 (drop 8 all)) (header_split bytes capacity has)
    ∙ version_of-append has.version capacity (drop 19 bytes)

pub version_is : (bytes : List ℕ) (capacity : ℕ) → (has : HasHeader bytes capacity) → get_or bytes 8 0 ≡ has.version
version_is bytes capacity has =
    ap (λ n. get_or bytes n 0) (omega arith) ∙ sym (get_or-drop 8 bytes 0 0)
    ∙ sym (get_or-take 1 (drop 8 bytes) 0 0 (omega arith))
    ∙ ap (λ (l : List ℕ). get_or l 0 0) (version_in bytes capacity has)

first_of-append : (version capacity : ℕ) (rest : List ℕ) → take 1 (header_bytes version capacity ++ rest) ≡ 0x5A ∷ []
unfolding header_bytes
first_of-append version capacity rest = refl

-- how it begins
pub first_of_header : (bytes : List ℕ) (capacity : ℕ) → HasHeader bytes capacity → take 1 bytes ≡ 0x5A ∷ []
first_of_header bytes capacity has = ap (take 1) (header_split bytes capacity has)
    ∙ first_of-append has.version capacity (drop 19 bytes)
