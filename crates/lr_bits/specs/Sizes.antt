-- The limits of this project, and the greatest number of 64 bits. The code's own constants of `sizes` are these
-- numbers: the contracts cite the limits, so that a constant which differs from its limit is refused.
use Rattle.std.specs.Prelude.{ℕ, ◌-◌, ◌^◌}

-- the greatest number of 64 bits, at which a count stays
abbrev pub most_u64 : ℕ
most_u64 = 2 ^ 64 - 1

-- the most bytes of a packet's body: a data field has at most 65,536 bytes (CCSDS 133.0-B, section 4.1.3.5), the last
-- two of them its checksum
abbrev pub most_body_bytes : ℕ
most_body_bytes = 65534

-- the most bodies that a file has
abbrev pub most_file_bodies : ℕ
most_file_bodies = 1048576

-- the most bytes that a file has, with its transport header
abbrev pub most_file_bytes : ℕ
most_file_bytes = 67108864
