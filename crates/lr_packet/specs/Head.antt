-- The header of a space packet (CCSDS 133.0-B, section 4.1.3). Each field is the number in these bits, the first of
-- which is bit 0.
use Rattle.std.specs.Prelude.{ℕ, ◌-◌, Bool, List, length, ◌==◌}
use Rattle.lr_bits.specs.Bits.{field_of}

-- the fields, with the number of bytes of the data field in place of the length field, which is one less
pub record HeadFields : Type 0 where
  pub version : ℕ
  pub kind : Bool
  pub secondary : Bool
  pub apid : ℕ
  pub flags : ℕ
  pub count : ℕ
  pub length : ℕ

-- Bits 0 to 2, 3, 4, 5 to 15, 16 to 17 and 18 to 31; the data field is all that is after the six bytes of the header.
abbrev pub head_fields_of : List ℕ → HeadFields
head_fields_of bytes = record {
  version = field_of bytes 0 3;
  kind = field_of bytes 3 1 == 1;
  secondary = field_of bytes 4 1 == 1;
  apid = field_of bytes 5 11;
  flags = field_of bytes 16 2;
  count = field_of bytes 18 14;
  length = length bytes - 6;
}
