-- What is appended for a line: the bits of its string, filled with zeros to whole bytes.
use Rattle.std.specs.Prelude.{◌≡◌, ◌<◌, ◌≤◌, ◌⊎◌, ◌+◌, ◌/◌, ℕ, List, ◌++◌, length, replicate, All}
use Rattle.lr_bits.specs.Bits.{bits_of}
use Rattle.lr_bits.specs.Sizes.{most_body_bytes}
use Rattle.lr_rice.specs.CodedLines.{Form}
use Rattle.lr_rice_coder.specs.Shortest.{shortest_string}
use Rattle.lr_rice_coder.specs.declared.fault.CodeFault.{CodeFault}
use Rattle.lr_rice_coder.specs.declared.fault.CodeFault.TheVariants.{Long, NoMemory}

-- a block has 8, 16, 32 or 64 samples
abbrev pub IsBlockSize : ℕ → Type 0
IsBlockSize block = (block ≡ 8) ⊎ ((block ≡ 16) ⊎ ((block ≡ 32) ⊎ (block ≡ 64)))

-- lines can be coded so: samples of 5 to 16 bits
pub record IsCodable (form : Form) : Type 0 where
  pub least_bits : 5 ≤ form.bits
  pub most_bits : form.bits ≤ 16
  pub block : IsBlockSize form.block

-- the bytes have these bits, and then zeros up to a whole byte
pub record ArePaddedBits (bytes string : List ℕ) : Type 0 where
  pub zeros : ℕ
  pub few : zeros < 8
  pub whole : bits_of bytes ≡ string ++ replicate zeros 0

-- how many bytes a string fills
abbrev pub byte_count : List ℕ → ℕ
byte_count string = (length string + 7) / 8

-- the line's string fills more bytes than the body of a packet has
abbrev pub IsLong : Form → List ℕ → Type 0
IsLong form samples = most_body_bytes < byte_count (shortest_string form samples)

-- the bytes of a line, no more than the body of a packet has
pub record IsCodedLine (form : Form) (samples bytes : List ℕ) : Type 0 where
  pub small : All (λ byte. byte < 256) bytes
  pub fills : ArePaddedBits bytes (shortest_string form samples)
  pub short : length bytes ≤ most_body_bytes

-- the bytes of the line were appended
pub record AppendsLine (form : Form) (samples old new : List ℕ) : Type 0 where
  pub bytes : List ℕ
  pub appended : new ≡ old ++ bytes
  pub coded : IsCodedLine form samples bytes

-- why the line wasn't appended; want of memory may come at any time
abbrev pub IsFault : Form → List ℕ → CodeFault → Type 0
IsFault form samples Long = IsLong form samples
IsFault form samples NoMemory = Unit {0}
