use Rattle.std.proofs.Common.{arith, ap, ◌∙◌, ◌≡◌, ◌+◌, ◌<◌, ◌^◌, ℕ, List, get_or, length}
use Rattle.std.proofs.lemmas.List.{get_or-map, length-map}
use Rattle.std.proofs.lemmas.Simd.{Each1-get_or, below_from_Fits}
use Rattle.std.specs.Prelude.{map, replicate}
use lib.Lanes.{zip2}
use mir.Syntax.{w16, w32}
use Rattle.lr_lanes.proofs.Splats.{sums_fit, sum_size, sum_at, differences_fit, difference_size, difference_at}
use Rattle.lr_lanes.proofs.narrow_forward.state_costs.Goals as goal

module _ (lanes : List ℕ) (size : length lanes ≡ 32) where
  wide_size : length (map (λ x. x) lanes) ≡ 32
  wide_size = length-map lanes (λ x. x) ∙ size

  wide_at : (k : ℕ) → k < 32 → get_or (map (λ x. x) lanes) k 0 ≡ get_or lanes k 0
  wide_at k l = get_or-map (λ x. x) lanes k 0 0 (omega arith)

  abbrev sums : ℕ → List ℕ
  sums base = zip2 (λ a b. a + b) (map (λ x. x) lanes) (replicate 32 base)

  sums_size : (base : ℕ) → length (sums base) ≡ 32
  sums_size base = sum_size (map (λ x. x) lanes) wide_size base

  sums_at : (base k : ℕ) → k < 32 → get_or (sums base) k 0 ≡ get_or lanes k 0 + base
  sums_at base k l = sum_at (map (λ x. x) lanes) wide_size base k l ∙ ap (λ x. x + base) (wide_at k l)

pub overflow_add-sums : goal.overflow_add-sums
overflow_add-sums c =
    sums_fit (map (λ x. x) c.args.lanes) (wide_size c.args.lanes c.requires.size) c.args.base w32 (λ k l.
    let low : get_or c.args.lanes k 0 < 2 ^ 16 =
    Each1-get_or (λ x. x < 2 ^ 16) c.args.lanes k 0 (omega (arith, c.requires.size))
    (below_from_Fits w16 c.args.lanes c.fits-lanes.1) in
    omega (arith, wide_at c.args.lanes c.requires.size k l, c.requires.base))

pub overflow_sub-result : goal.overflow_sub-result
overflow_sub-result c =
    differences_fit (sums c.args.lanes c.requires.size c.args.base)
    (sums_size c.args.lanes c.requires.size c.args.base) c.from.result
    (λ k l. omega (
      arith,
      sums_at c.args.lanes c.requires.size c.args.base k l,
      c.requires.above k l,
      c.from.ensures,
    ))

pub returns-clause-size : goal.returns-clause-size
returns-clause-size c =
    difference_size (sums c.args.lanes c.requires.size c.args.base)
    (sums_size c.args.lanes c.requires.size c.args.base) c.from.result

pub returns-clause-value : goal.returns-clause-value
returns-clause-value c = λ k l.
    omega (
      arith,
      difference_at (sums c.args.lanes c.requires.size c.args.base)
          (sums_size c.args.lanes c.requires.size c.args.base) c.from.result k l,
      sums_at c.args.lanes c.requires.size c.args.base k l,
      c.requires.above k l,
      c.from.ensures,
    )
