-- A step of the division on 32 lanes.
use Rattle.std.proofs.Common.{arith, ap, refl, ◌∙◌, ◌≡◌, ◌+◌, ◌-◌, ◌<◌, ◌++◌, ℕ, List, length, get_or, bit_xor, sym}
use Rattle.std.proofs.Math.ListN.{get_or-append}
use Rattle.std.proofs.Math.Seq.{get_or-append_right}
use Rattle.std.proofs.lemmas.List.FromFn.{get_or-map-range_with_len}
use Rattle.std.proofs.lemmas.Simd.{length-zip2, get_or-zip2}
use Rattle.std.specs.Prelude.{map, replicate}
use Rattle.std.specs.List.{range_with_len}
use lib.Lanes.{zip2}
use Rattle.lr_gf.specs.Field.{times}
use Rattle.lr_rs.specs.Division.{generator_coefficient, IsDivisionStep}
use Rattle.lr_rs.specs.declared.sizes.TheConstants.{CHECK_BYTES}

module _
    (c : ℕ)
    (old products : List ℕ)
    (size : length old ≡ CHECK_BYTES)
    (wide : length products ≡ CHECK_BYTES)
    (value : (k : ℕ) → k < CHECK_BYTES → get_or products k 0 ≡ times (get_or old 0 0) (generator_coefficient k))
  where
    abbrev both : List ℕ
    both = old ++ replicate 32 c

    -- each lane has the next one, and the last the coefficient
    abbrev moved : List ℕ
    moved = map (λ k. get_or both k 0) (range_with_len 1 32)

    moved_at : (k : ℕ) → k < CHECK_BYTES → get_or moved k 0 ≡ get_or both (k + 1) 0
    moved_at k l = get_or-map-range_with_len (λ k. get_or both k 0) 1 32 k (k + 1) 0 l (omega arith)

    next_at : (k : ℕ) → k < 31 → get_or moved k 0 ≡ get_or old (k + 1) 0
    next_at k l = moved_at k (omega arith) ∙ get_or-append old (replicate 32 c) 0 (k + 1) (omega arith)

    last_at : get_or moved 31 0 ≡ c
    last_at =
        let first : 32 - length old ≡ 0 = omega arith in
        moved_at 31 (omega arith) ∙ get_or-append_right old (replicate 32 c) 32 0 (omega arith)
        ∙ ap (λ p. get_or (replicate 32 c) p 0) first

    long : length moved ≡ CHECK_BYTES
    long = refl

    sum_at : (k : ℕ) → k < CHECK_BYTES → get_or (zip2 bit_xor moved products) k 0 ≡
        bit_xor (get_or moved k 0) (times (get_or old 0 0) (generator_coefficient k))
    sum_at k l =
        get_or-zip2 bit_xor moved products k 0 0 0 (omega (arith, long)) (omega arith)
        ∙ ap (bit_xor (get_or moved k 0)) (value k l)

    pub step_is : IsDivisionStep c old (zip2 bit_xor moved products)
    step_is = record {
      long = length-zip2 bit_xor moved products (long ∙ sym wide) ∙ long;
      next = λ k l. sum_at k (omega arith)
          ∙ ap (λ z. bit_xor z (times (get_or old 0 0) (generator_coefficient k))) (next_at k l);
      last = sum_at 31 (omega arith)
          ∙ ap (λ z. bit_xor z (times (get_or old 0 0) (generator_coefficient 31))) last_at;
    }
