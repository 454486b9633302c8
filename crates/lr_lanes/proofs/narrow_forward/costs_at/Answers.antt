use Rattle.std.proofs.Common.{rules, ◌≡◌, ◌+◌, ◌*◌, ◌<◌, ℕ, pos, slice_index, slice_index_or, true, false, sym, ◌∙◌}
use Rattle.std.proofs.lemmas.Int.{to_z-of_z}
use Rattle.std.proofs.lemmas.Simd.{length-zip2}
use Rattle.std.specs.Prelude.{not}
use mir.Syntax.{w8}
use mir.Val.{SFits}
use Rattle.lr_conv.specs.Convolution.{first_of_seven, second_of_seven}
use Rattle.lr_trellis.specs.Path.{symbol_cost}
use Rattle.lr_lanes.specs.Lanes.{lowered, pair_costs_of, state_of}
use Rattle.lr_lanes.proofs.StepCosts.{held}
use Rattle.lr_lanes.proofs.narrow_forward.costs_at.Goals as goal

pub returns-clause-size : goal.returns-clause-size
returns-clause-size c =
    length-zip2 _ c.first_costs.result c.second_costs.result
    (c.first_costs.ensures.size ∙ sym c.second_costs.ensures.size) ∙ c.first_costs.ensures.size

pub returns-clause-value : goal.returns-clause-value
unfolding pair_costs_of
returns-clause-value c =
    let line = c.args.line in
    let here = slice_index_or c.args.window.now (2 * c.args.step) (pos 0) in
    let next = slice_index_or c.args.window.now (2 * c.args.step + 1) (pos 0) in
    let fits_here : SFits w8 here = search rules in
    let fits_next : SFits w8 next = search rules in
    let firsts : (j : ℕ) → j < 16 → slice_index c.first_costs.result j ≡
    lowered 127 (symbol_cost (first_of_seven (2 * state_of j)) here) = simp to_z-of_z at c.first_costs.ensures.value in
    let seconds : (j : ℕ) → j < 16 → slice_index c.second_costs.result j ≡
    lowered 127 (symbol_cost (second_of_seven line (2 * state_of j)) next) =
    simp to_z-of_z at c.second_costs.ensures.value in
    let here_sum : symbol_cost false here + symbol_cost true here ≡ 254 = simp to_z-of_z at c.first_costs.ensures.sum in
    let next_sum : symbol_cost (not line.inverted) next + symbol_cost line.inverted next ≡ 254 =
    simp to_z-of_z at c.second_costs.ensures.sum in
    held line here next c.first_costs.result c.second_costs.result c.first_costs.ensures.size
    c.second_costs.ensures.size firsts seconds here_sum next_sum
