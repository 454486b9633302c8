-- The sequence that is added to each block (CCSDS 131.0-B, the pseudo-randomiser).
use Rattle.std.specs.Prelude.{◌≡◌, ℕ, suc, ◌+◌, ◌*◌, ◌%◌, bit_xor, List, length, map, slice_index}
use Rattle.std.specs.Int.Digits.{number_from_digits}
use Rattle.std.specs.List.{range_with_len}
use Rattle.lr_bits.specs.declared.sizes.TheConstants.{BLOCK_BYTES}

-- a(n + 8) = a(n + 7) + a(n + 5) + a(n + 3) + a(n) modulo 2, and a(0) to a(7) are 1
unfoldable pub sequence_bit : ℕ → ℕ
sequence_bit (suc (suc (suc (suc (suc (suc (suc (suc n)))))))) =
    (sequence_bit (suc (suc (suc (suc (suc (suc (suc n)))))))
    + sequence_bit (suc (suc (suc (suc (suc n)))))
    + sequence_bit (suc (suc (suc n)))
    + sequence_bit n)
    % 2
sequence_bit _ = 1

-- byte i is made of a(8 i) to a(8 i + 7), the most significant bit first
unfoldable pub sequence_byte : ℕ → ℕ
sequence_byte i = number_from_digits 2 (map sequence_bit (range_with_len (8 * i) 8))

-- the sequence's first 1,020 bytes are added to a block, bit by bit
unfoldable pub randomised_block : List ℕ → List ℕ
randomised_block block = map (λ i. bit_xor (slice_index block i) (sequence_byte i)) (range_with_len 0 BLOCK_BYTES)

-- the law: what is randomised twice is as it was
abbrev pub TwiceIsTheSame : Type 0
TwiceIsTheSame = (block : List ℕ) → length block ≡ BLOCK_BYTES → randomised_block (randomised_block block) ≡ block
