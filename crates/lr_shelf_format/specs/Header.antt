-- The header of a shelf file, of version 1 or 2.
use Rattle.std.specs.Prelude.{◌≡◌, ◌⊎◌, ◌≤◌, ◌+◌, ◌^◌, ℕ, List, ◌∷◌, ◌++◌, length, take, codes}
use Rattle.byteorder.specs.Endian.{big_bytes}
use Rattle.lr_bits.specs.Crc.{crc_of}

-- the bytes 1 to 16: the name, the version, and the capacity
abbrev pub named_capacity : ℕ → ℕ → List ℕ
named_capacity version capacity = codes "LRSHELF" ++ (version ∷ big_bytes 8 capacity)

-- the bytes 0 to 18: 5A hex, those, and their checksum
unfoldable pub header_bytes : ℕ → ℕ → List ℕ
header_bytes version capacity =
    0x5A ∷ (named_capacity version capacity ++ big_bytes 2 (crc_of (named_capacity version capacity)))

-- the place of the first gate, after the header
abbrev pub first_gate : ℕ
first_gate = 19

-- the capacity of a shelf of no items, the least one, and the greatest one, in bytes
abbrev pub least_capacity : ℕ
least_capacity = first_gate + 1

abbrev pub most_capacity : ℕ
most_capacity = 2 ^ 40

-- a shelf may have this capacity
pub record IsCapacity (capacity : ℕ) : Type 0 where
  pub least : least_capacity ≤ capacity
  pub most : capacity ≤ most_capacity

-- A header for this capacity stands at 0, of version 1 or 2, with the first gate, whatever that is.
pub record HasHeader (bytes : List ℕ) (capacity : ℕ) : Type 0 where
  pub version : ℕ
  pub known : (version ≡ 1) ⊎ (version ≡ 2)
  pub allowed : IsCapacity capacity
  pub whole : first_gate + 1 ≤ length bytes
  pub stands : take first_gate bytes ≡ header_bytes version capacity
