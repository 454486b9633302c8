use Rattle.std.proofs.Common.{rules, ◌≡◌, true, false}
use Rattle.std.proofs.lemmas.Int.{to_z-of_z}
use Rattle.std.specs.Prelude.{not}
use mir.Syntax.{w8}
use mir.Val.{SFits}
use Rattle.lr_trellis.specs.Path.{symbol_cost}
use Rattle.lr_trellis.proofs.Words.{four_costs, four_costs_below}
use Rattle.lr_trellis.proofs.costs.pair_costs.Goals as goal

pub returns-clause-value : goal.returns-clause-value
returns-clause-value c = λ m.
    let first : SFits w8 c.args.first = search rules in
    let second : SFits w8 c.args.second = search rules in
    let zero : c.symbol_costs-zero.result.0 ≡ symbol_cost false c.args.first =
    simp to_z-of_z at c.symbol_costs-zero.ensures.zero in
    let one : c.symbol_costs-zero.result.1 ≡ symbol_cost true c.args.first =
    simp to_z-of_z at c.symbol_costs-zero.ensures.one in
    let then_zero : c.second_costs-then_zero.result.0 ≡ symbol_cost (not c.args.line.inverted) c.args.second =
    simp to_z-of_z at c.second_costs-then_zero.ensures.zero in
    let then_one : c.second_costs-then_zero.result.1 ≡ symbol_cost c.args.line.inverted c.args.second =
    simp to_z-of_z at c.second_costs-then_zero.ensures.one in
    four_costs c.args.line _ _ _ _ m c.args.first c.args.second zero one then_zero then_one

pub returns-clause-most : goal.returns-clause-most
returns-clause-most c =
    λ m. four_costs_below _ _ _ _ m c.symbol_costs-zero.ensures.sum c.second_costs-then_zero.ensures.sum
