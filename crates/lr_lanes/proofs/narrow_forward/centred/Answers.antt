use Rattle.std.proofs.Common.{arith, ◌+◌, ℕ, List}
use Rattle.std.specs.Prelude.{replicate}
use lib.Lanes.{zip2}
use mir.Syntax.{w16}
use Rattle.lr_lanes.specs.declared.narrow_forward.TheConstants.{MIDDLE}
use Rattle.lr_lanes.proofs.Splats.{sums_fit, sum_size, sum_at, differences_fit, difference_size, difference_at}
use Rattle.lr_lanes.proofs.narrow_forward.centred.Goals as goal

abbrev sums : List ℕ → List ℕ
sums lanes = zip2 (λ a b. a + b) lanes (replicate 32 MIDDLE)

pub overflow_add-result : goal.overflow_add-result
overflow_add-result c = sums_fit c.args.lanes c.requires.size MIDDLE w16 c.requires.most

pub overflow_sub-result : goal.overflow_sub-result
overflow_sub-result c =
    differences_fit (sums c.args.lanes) (sum_size c.args.lanes c.requires.size MIDDLE) c.args.first
    (λ k l. omega (arith, sum_at c.args.lanes c.requires.size MIDDLE k l, c.requires.least k l))

pub returns-clause-size : goal.returns-clause-size
returns-clause-size c =
    difference_size (sums c.args.lanes) (sum_size c.args.lanes c.requires.size MIDDLE) c.args.first

pub returns-clause-value : goal.returns-clause-value
returns-clause-value c = λ k l.
    omega (
      arith,
      difference_at (sums c.args.lanes) (sum_size c.args.lanes c.requires.size MIDDLE) c.args.first k l,
      sum_at c.args.lanes c.requires.size MIDDLE k l,
      c.requires.least k l,
    )
