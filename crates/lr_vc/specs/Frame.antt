-- A transfer frame of 892 bytes (CCSDS 732.0-B, section 4.1). Each field is the number in these bits, the first of
-- which is bit 0.
use Rattle.std.specs.Prelude.{ℕ, Bool, List, drop, ◌==◌, Result, Ok, Err, if◌then◌else◌}
use Rattle.lr_bits.specs.Bits.{field_of}

-- the fields of a frame, but for its version
pub record Fields : Type 0 where
  pub spacecraft : ℕ
  pub vc : ℕ
  pub counter : ℕ
  pub replay : Bool
  pub rest : ℕ
  pub pointer : ℕ
  pub zone : List ℕ

-- bits 0 to 1
abbrev pub version_of : List ℕ → ℕ
version_of bytes = field_of bytes 0 2

-- Bits 2 to 9, 10 to 15, 16 to 39, 40, 41 to 47 and 53 to 63; the packet zone begins at bit 64. Bits 48 to 52 are
-- spare.
abbrev pub fields_of : List ℕ → Fields
fields_of bytes = record {
  spacecraft = field_of bytes 2 8;
  vc = field_of bytes 10 6;
  counter = field_of bytes 16 24;
  replay = field_of bytes 40 1 == 1;
  rest = field_of bytes 41 7;
  pointer = field_of bytes 53 11;
  zone = drop 8 bytes;
}

-- the fields of a frame of version 1, or another version
abbrev pub frame_of : List ℕ → Result Fields ℕ
frame_of bytes = if version_of bytes == 1 then Ok (fields_of bytes) else Err (version_of bytes)
