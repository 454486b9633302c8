use Rattle.std.proofs.Common.{◌≡◌, ◌+◌, ◌-◌, ◌*◌, ◌/◌, ◌^◌, ◌≤◌, ℕ, length, ap, arith}
use Rattle.lr_rice_coder.specs.Costs.{highs_sum}
use Rattle.lr_rice_coder.proofs.SearchLemmas.{far-splits}
use Rattle.lr_rice_coder.proofs.cost.shortest_split.Goals as goal

pub loop-low_bits-init : goal.loop-low_bits-init
loop-low_bits-init c =
    let values = c.args.values.now in
    let k = c.first_candidate-low_bits.result in
    record {
      inside = c.first_candidate-low_bits.ensures.inside;
      highs_are = c.sum_of_highs-highs.ensures.value;
      fits = c.sum_of_highs-highs.ensures.fits;
      falls = λ some.
          let far : 3 * length values ≤ highs_sum 0 values / 2 ^ (k - 1) =
          omega (
            arith,
            c.first_candidate-low_bits.ensures.far some,
            ap (λ (s : ℕ). s / 2 ^ (k - 1)) c.requires.sum,
          ) in
          let next : k - 1 + 1 ≡ k = omega arith in
          omega (
            arith,
            far-splits values (k - 1) far c.requires.some,
            ap (λ (i : ℕ). highs_sum i values) next,
          );
    }
