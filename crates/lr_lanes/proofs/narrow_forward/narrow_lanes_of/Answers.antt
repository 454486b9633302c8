use Rattle.std.proofs.Common.{arith, ◌∙◌, ◌≡◌, ◌<◌, ℕ, List, get_or, length}
use Rattle.std.proofs.lemmas.List.{get_or-map, length-map}
use Rattle.std.specs.Prelude.{map}
use mir.Syntax.{w16}
use Rattle.lr_lanes.specs.declared.narrow_forward.TheConstants.{MIDDLE}
use Rattle.lr_lanes.proofs.Splats.{sums_fit, sum_size, sum_at}
use Rattle.lr_lanes.proofs.narrow_forward.narrow_lanes_of.Goals as goal

module _ (lanes : List ℕ) (size : length lanes ≡ 32) where
  narrow_size : length (map (λ x. x) lanes) ≡ 32
  narrow_size = length-map lanes (λ x. x) ∙ size

  narrow_at : (k : ℕ) → k < 32 → get_or (map (λ x. x) lanes) k 0 ≡ get_or lanes k 0
  narrow_at k l = get_or-map (λ x. x) lanes k 0 0 (omega arith)

pub overflow_add-result : goal.overflow_add-result
overflow_add-result c =
    sums_fit (map (λ x. x) c.args.lanes) (narrow_size c.args.lanes c.requires.size) MIDDLE w16
    (λ k l. omega (arith, narrow_at c.args.lanes c.requires.size k l, c.requires.small k l))

pub returns-clause-size : goal.returns-clause-size
returns-clause-size c = sum_size (map (λ x. x) c.args.lanes) (narrow_size c.args.lanes c.requires.size) MIDDLE

pub returns-clause-value : goal.returns-clause-value
returns-clause-value c = λ k l.
    omega (
      arith,
      sum_at (map (λ x. x) c.args.lanes) (narrow_size c.args.lanes c.requires.size) MIDDLE k l,
      narrow_at c.args.lanes c.requires.size k l,
    )
