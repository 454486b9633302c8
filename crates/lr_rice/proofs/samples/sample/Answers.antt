use Rattle.std.proofs.Common.{◌≡◌, ◌+◌, ◌-◌, ◌*◌, ◌/◌, ◌%◌, ◌^◌, ◌<◌, ◌≤◌, ℕ, min, sym, inl, inr, arith}
use Rattle.std.proofs.lemmas.Bool.{cases_lt}
use Rattle.lr_rice.specs.Samples.{sample_of}
use Rattle.lr_rice.proofs.SampleLemmas.{sample_of-even, sample_of-odd, sample_of-up, sample_of-down}
use Rattle.lr_rice.proofs.samples.sample.Goals as goal

near : (most p value step : ℕ) → most < 2 ^ 16 → p ≤ most → value ≤ 2 * min p (most - p)
    → (value % 2 ≡ 0 → step ≡ value / 2) → (value % 2 ≡ 1 → step + value / 2 + 1 ≡ 2 ^ 64) →
    (p + step) % 2 ^ 64 ≡ sample_of most p value
near most p value step small in_range inside even odd =
    elim (cases_lt (value % 2) 1) [
      | inl is ↦
          let none : value % 2 ≡ 0 = omega arith in
          omega (arith, even none, sample_of-even most p value inside none)
      | inr is ↦
          let one : value % 2 ≡ 1 = omega arith in
          omega (arith, odd one, sample_of-odd most p value inside one)
    ]

pub returns-then-value-min-clause-value : goal.returns-then-value-min-clause-value
returns-then-value-min-clause-value c =
    near c.args.most c.args.p c.args.value c.step.result c.requires.narrow c.requires.sample
    (omega arith) c.step.ensures.even c.step.ensures.odd

pub returns-then-p-most-clause-value : goal.returns-then-p-most-clause-value
returns-then-p-most-clause-value c = sym (sample_of-up c.args.most c.args.p c.args.value (omega arith) (omega arith))

pub returns-else-p-most-clause-value : goal.returns-else-p-most-clause-value
returns-else-p-most-clause-value c = sym (sample_of-down c.args.most c.args.p c.args.value (omega arith) (omega arith))
