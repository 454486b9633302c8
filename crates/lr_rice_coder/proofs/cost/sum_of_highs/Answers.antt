use Rattle.std.proofs.Common.{◌/◌, ◌^◌, ℕ, get_or, arith}
use Rattle.std.proofs.lemmas.List.Sums.{sum_by_more}
use Rattle.std.proofs.lemmas.Nat.{shr_le}
use Rattle.lr_rice_coder.proofs.cost.sum_of_highs.Goals as goal

pub loop-value-preserved : goal.loop-value-preserved
loop-value-preserved c =
    let values = c.args.values.now in
    let i = c.loop-value.value-index in
    let k = c.args.low_bits in
    record {
      sum_is = omega (
        arith,
        sum_by_more (λ (v : ℕ). v / 2 ^ k) values i 0 (omega arith),
        c.loop-value.invariant.sum_is,
      );
      fits = omega (
        arith,
        shr_le (get_or values i 0) k,
        c.requires.small i 0 (omega arith),
        c.loop-value.invariant.fits,
      );
    }
