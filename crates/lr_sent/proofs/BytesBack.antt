-- The bytes of a block come back from its bits.
use Rattle.std.proofs.Common.{◌≡◌, ℕ, zero, suc, ◌+◌, ◌-◌, ◌*◌, ◌/◌, ◌%◌, ◌^◌, ◌<◌, Bool, nat_eq, List, ◌∷◌, length}
use Rattle.std.proofs.Common.{drop, get_or, map, sym, ap, ◌∙◌, arith}
use Rattle.std.proofs.Math.Seq.{drop-cons}
use Rattle.std.proofs.lemmas.List.{drop_all}
use Rattle.std.specs.Int.Digits.{number_from_digits}
use Rattle.std.specs.List.{range_with_len}
use Rattle.lr_bits.specs.Bits.{bit_of}
use Rattle.lr_conv.specs.Convolution.{bit}
use Rattle.lr_conv.proofs.SevenBits.{bit_test}
use Rattle.lr_trellis.specs.Path.{bytes_from, bytes_of_bits}
use Rattle.lr_make.specs.Symbols.{bits_of_bytes}
use Rattle.lr_make.proofs.Coding.{first_bits, length-first_bits}

-- ---- eight bits are their byte

module _ (block : List ℕ) (bytes : (i : ℕ) → i < length block → get_or block i 0 < 256) where
  abbrev bit_is_one : ℕ → Bool
  bit_is_one place = nat_eq (bit_of block place) 1

  digit : (k j place : ℕ) → place ≡ 8 * k + j → j < 8 → bit (bit_is_one place) ≡ get_or block k 0 / 2 ^ (7 - j) % 2
  digit k j place e l =
      let byte : place / 8 ≡ k = omega arith in
      let low : place % 8 ≡ j = omega arith in
      bit_test (bit_of block place) (omega arith) ∙ ap (λ z. get_or block z 0 / 2 ^ (7 - place % 8) % 2) byte
      ∙ ap (λ z. get_or block k 0 / 2 ^ (7 - z) % 2) low

  byte_is : (k : ℕ) → k < length block →
      number_from_digits 2 (map bit (map bit_is_one (range_with_len (8 * k) 8))) ≡ get_or block k 0
  byte_is k l =
      let a : ℕ = 8 * k in
      let small = bytes k l in
      let d0 = digit k 0 a (omega arith) (omega arith) in
      let d1 = digit k 1 (a + 1) (omega arith) (omega arith) in
      let d2 = digit k 2 (a + 1 + 1) (omega arith) (omega arith) in
      let d3 = digit k 3 (a + 1 + 1 + 1) (omega arith) (omega arith) in
      let d4 = digit k 4 (a + 1 + 1 + 1 + 1) (omega arith) (omega arith) in
      let d5 = digit k 5 (a + 1 + 1 + 1 + 1 + 1) (omega arith) (omega arith) in
      let d6 = digit k 6 (a + 1 + 1 + 1 + 1 + 1 + 1) (omega arith) (omega arith) in
      let d7 = digit k 7 (a + 1 + 1 + 1 + 1 + 1 + 1 + 1) (omega arith) (omega arith) in
      omega arith

  bytes_from_place : (n k : ℕ) → k + n ≡ length block →
      bytes_from n (map bit_is_one (range_with_len (8 * k) (8 * n))) ≡ drop k block
  bytes_from_place zero k e = sym (drop_all k block (omega arith))
  bytes_from_place (suc n) k e =
      let a : ℕ = 8 * k in
      let eight_more : 8 * suc n ≡ suc (suc (suc (suc (suc (suc (suc (suc (8 * n)))))))) = omega arith in
      let next : a + 1 + 1 + 1 + 1 + 1 + 1 + 1 + 1 ≡ 8 * suc k = omega arith in
      ap (λ z. bytes_from (suc n) (map bit_is_one (range_with_len a z))) eight_more
      ∙ ap (λ z. z ∷ bytes_from n (map bit_is_one (range_with_len (a + 1 + 1 + 1 + 1 + 1 + 1 + 1 + 1) (8 * n))))
      (byte_is k (omega arith))
      ∙ ap (λ z. get_or block k 0 ∷ bytes_from n (map bit_is_one (range_with_len z (8 * n)))) next
      ∙ ap (λ z. get_or block k 0 ∷ z) (bytes_from_place n (suc k) (omega arith))
      ∙ sym (drop-cons block k 0 (omega arith))

pub bytes_back : (block : List ℕ) → ((i : ℕ) → i < length block → get_or block i 0 < 256) →
    bytes_of_bits (bits_of_bytes block) ≡ block
unfolding bytes_of_bits bits_of_bytes
bytes_back block bytes =
    let bits : List Bool = first_bits block (8 * length block) in
    let count : length bits / 8 ≡ length block = omega (arith, length-first_bits block (8 * length block)) in
    ap (λ z. bytes_from z bits) count ∙ bytes_from_place block bytes (length block) 0 (omega arith)
