-- The tables of the dual basis, and that each map is the inverse of the other.
use Rattle.std.proofs.Common.{◌≡◌, ℕ, ◌-◌, ◌*◌, ◌^◌, ◌<◌, Bool, true, eqb, ltb, zero, suc, [], ◌∷◌, get_or}
use Rattle.std.proofs.Common.{slice_index, map, refl, ap, ◌∙◌, arith, zero-add}
use Rattle.std.specs.Int.{bit_at}
use Rattle.std.proofs.lemmas.Bool.{eqb-true, ltb-true}
use Rattle.std.proofs.lemmas.Nat.Bits.{bit_at-lt}
use Rattle.lr_gf.proofs.Tests.{all_below, all_below-at}
use Rattle.lr_gf.proofs.Linear.{Linear, linear-id, linear-after, linear-sum_of, linear-bit, linear-same}
use Rattle.std.specs.List.{range_with_len}
use Rattle.std.proofs.lemmas.List.FromFn.{get_or-map-range_with_len}
use Rattle.lr_gf.specs.Sums.{sum_of}
use Rattle.lr_gf.proofs.SumLaws.{sum_of-lt}
use Rattle.lr_gf.specs.Dual.{rows_sum, dual_of, conventional_of}
use Rattle.lr_gf.specs.declared.tables.TheConstants.{TO_DUAL, FROM_DUAL}

to-test : TO_DUAL ≡ map dual_of (range_with_len 0 256)
unfolding dual_of rows_sum sum_of
to-test = refl

from-test : FROM_DUAL ≡ map conventional_of (range_with_len 0 256)
unfolding conventional_of rows_sum sum_of
from-test = refl

pub to-is : (b : ℕ) → b < 256 → get_or TO_DUAL b 0 ≡ dual_of b
to-is b h = ap (λ t. get_or t b 0) to-test ∙ get_or-map-range_with_len dual_of 0 256 b b 0 h (zero-add b)

pub from-is : (b : ℕ) → b < 256 → get_or FROM_DUAL b 0 ≡ conventional_of b
from-is b h = ap (λ t. get_or t b 0) from-test ∙ get_or-map-range_with_len conventional_of 0 256 b b 0 h (zero-add b)

linear-dual : Linear dual_of
unfolding dual_of rows_sum
linear-dual = linear-sum_of 8
    (λ i b. bit_at b (7 - i) * slice_index (0x8D ∷ 0xEF ∷ 0xEC ∷ 0x86 ∷ 0xFA ∷ 0x99 ∷ 0xAF ∷ 0x7B ∷ []) i)
    (λ i. linear-bit (7 - i) (slice_index (0x8D ∷ 0xEF ∷ 0xEC ∷ 0x86 ∷ 0xFA ∷ 0x99 ∷ 0xAF ∷ 0x7B ∷ []) i))

linear-conventional : Linear conventional_of
unfolding conventional_of rows_sum
linear-conventional =
    linear-sum_of 8 (λ i b. bit_at b (7 - i) * slice_index
    (0xC5 ∷ 0x42 ∷ 0x2E ∷ 0xFD ∷ 0xF0 ∷ 0x79 ∷ 0xAC ∷ 0xCC ∷ []) i)
    (λ i. linear-bit (7 - i) (slice_index (0xC5 ∷ 0x42 ∷ 0x2E ∷ 0xFD ∷ 0xF0 ∷ 0x79 ∷ 0xAC ∷ 0xCC ∷ []) i))

back-test : all_below 8 (λ i. eqb (conventional_of (dual_of (2 ^ i))) (2 ^ i)) ≡ true
unfolding dual_of conventional_of rows_sum sum_of all_below
back-test = refl

forth-test : all_below 8 (λ i. eqb (dual_of (conventional_of (2 ^ i))) (2 ^ i)) ≡ true
unfolding dual_of conventional_of rows_sum sum_of all_below
forth-test = refl

pub conventional-dual : (b : ℕ) → b < 256 → conventional_of (dual_of b) ≡ b
conventional-dual b h =
    linear-same 8 (λ x. conventional_of (dual_of x)) (λ x. x)
    (linear-after conventional_of dual_of linear-conventional linear-dual) linear-id
    (λ i k. eqb-true (conventional_of (dual_of (2 ^ i))) (2 ^ i)
    (all_below-at 8 (λ i. eqb (conventional_of (dual_of (2 ^ i))) (2 ^ i)) back-test i k)) b h

pub dual-conventional : (b : ℕ) → b < 256 → dual_of (conventional_of b) ≡ b
dual-conventional b h =
    linear-same 8 (λ x. dual_of (conventional_of x)) (λ x. x)
    (linear-after dual_of conventional_of linear-dual linear-conventional) linear-id
    (λ i k. eqb-true (dual_of (conventional_of (2 ^ i))) (2 ^ i)
    (all_below-at 8 (λ i. eqb (dual_of (conventional_of (2 ^ i))) (2 ^ i)) forth-test i k)) b h

-- the way back makes a byte, of whatever number
bit-times : (x m : ℕ) → x < 2 → m < 256 → x * m < 256
bit-times zero m h k = omega arith
bit-times (suc zero) m h k = omega arith
bit-times (suc (suc x)) m h k = absurd (omega arith)

conventional_row_fits : ℕ → Bool
conventional_row_fits i = ltb (slice_index (0xC5 ∷ 0x42 ∷ 0x2E ∷ 0xFD ∷ 0xF0 ∷ 0x79 ∷ 0xAC ∷ 0xCC ∷ []) i) 256

rows-test : all_below 8 conventional_row_fits ≡ true
unfolding all_below conventional_row_fits
rows-test = refl

pub conventional-lt : (b : ℕ) → conventional_of b < 256
unfolding conventional_of rows_sum conventional_row_fits
conventional-lt b = sum_of-lt 8
    (λ i. bit_at b (7 - i) * slice_index (0xC5 ∷ 0x42 ∷ 0x2E ∷ 0xFD ∷ 0xF0 ∷ 0x79 ∷ 0xAC ∷ 0xCC ∷ []) i)
    (λ i h. bit-times (bit_at b (7 - i))
    (slice_index (0xC5 ∷ 0x42 ∷ 0x2E ∷ 0xFD ∷ 0xF0 ∷ 0x79 ∷ 0xAC ∷ 0xCC ∷ []) i) (bit_at-lt b (7 - i))
    (ltb-true (slice_index (0xC5 ∷ 0x42 ∷ 0x2E ∷ 0xFD ∷ 0xF0 ∷ 0x79 ∷ 0xAC ∷ 0xCC ∷ []) i) 256
    (all_below-at 8 conventional_row_fits rows-test i h)))
