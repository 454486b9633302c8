use Rattle.std.proofs.Common.{arith, ap, ◌∙◌, ◌≡◌, ◌++◌, ℕ, List, length, take, drop, length-drop}
use Rattle.std.proofs.lemmas.List.{length-take-le, take_all, take-append-drop}
use borrow.Rule.Slice.PartMut.{mid_of}
use Rattle.lr_lanes.proofs.forward.lanes_of.Goals as goal

module _ (costs : List ℕ) (size : length costs ≡ 64) where
  low_size : length (take 32 costs) ≡ 32
  low_size = length-take-le 32 costs (omega arith)

  behind : length (drop 32 costs) ≡ 32
  behind = omega (arith, length-drop 32 costs)

  high_is : take 32 (drop 32 costs) ≡ drop 32 costs
  high_is = take_all 32 (drop 32 costs) (omega (arith, behind))

  low_lanes : take 32 (take 32 costs) ≡ take 32 costs
  low_lanes = take_all 32 (take 32 costs) (omega (arith, low_size))

  high_lanes : take 32 (mid_of 32 32 costs) ≡ drop 32 costs
  high_lanes = ap (take 32) high_is ∙ high_is

  both : take 32 (take 32 costs) ++ take 32 (mid_of 32 32 costs) ≡ costs
  both = ap (λ z. z ++ take 32 (mid_of 32 32 costs)) low_lanes ∙ ap (λ z. take 32 costs ++ z) high_lanes
      ∙ take-append-drop 32 costs

pub returns-clause-low_size : goal.returns-clause-low_size
returns-clause-low_size c =
    ap (λ (z : List ℕ). length z) (low_lanes c.args.costs.now c.told-costs) ∙ low_size c.args.costs.now c.told-costs

pub returns-clause-high_size : goal.returns-clause-high_size
returns-clause-high_size c =
    ap (λ (z : List ℕ). length z) (high_lanes c.args.costs.now c.told-costs) ∙ behind c.args.costs.now c.told-costs

pub returns-clause-value : goal.returns-clause-value
returns-clause-value c = both c.args.costs.now c.told-costs
