-- The dual basis of CCSDS 131.0-B, in which its Berlekamp representation of a byte is written: a byte
-- becomes the sum of the rows whose bit is set in it; the first row goes with the most significant bit.
use Rattle.std.specs.Prelude.{ℕ, ◌-◌, ◌*◌, List, [], ◌∷◌, slice_index}
use Rattle.std.specs.Int.{bit_at}
use Rattle.lr_gf.specs.Sums.{sum_of}

-- the sum of the rows whose bit is set
unfoldable pub rows_sum : List ℕ → ℕ → ℕ
rows_sum rows byte = sum_of 8 (λ i. bit_at byte (7 - i) * slice_index rows i)

-- a conventional byte in the dual basis
unfoldable pub dual_of : ℕ → ℕ
dual_of byte = rows_sum (0x8D ∷ 0xEF ∷ 0xEC ∷ 0x86 ∷ 0xFA ∷ 0x99 ∷ 0xAF ∷ 0x7B ∷ []) byte

-- a byte of the dual basis as the conventional byte
unfoldable pub conventional_of : ℕ → ℕ
conventional_of byte = rows_sum (0xC5 ∷ 0x42 ∷ 0x2E ∷ 0xFD ∷ 0xF0 ∷ 0x79 ∷ 0xAC ∷ 0xCC ∷ []) byte
