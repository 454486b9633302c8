use Rattle.std.proofs.Common.{rules, arith, ◌≡◌, ◌-◌, true, false}
use Rattle.std.proofs.lemmas.Int.{to_z-of_z}
use mir.Syntax.{w8}
use mir.Val.{SFits}
use Rattle.lr_trellis.specs.Path.{symbol_cost}
use Rattle.lr_lanes.proofs.CostRows.{second_is, second_size, either_sum}
use Rattle.lr_lanes.proofs.cost_rows.second_costs.Goals as goal

pub returns-clause-size : goal.returns-clause-size
returns-clause-size c =
    second_size c.args.line.inverted c.from.result c.row_of-row.result c.from.ensures c.row_of-row.ensures.below

pub returns-clause-value : goal.returns-clause-value
returns-clause-value c =
    let fits : SFits w8 c.args.symbol = search rules in
    let zero : symbol_cost false c.args.symbol ≡ c.row_of-row.result - 1 =
    simp to_z-of_z at c.row_of-row.ensures.zero in
    let one : symbol_cost true c.args.symbol ≡ 254 - (c.row_of-row.result - 1) =
    simp to_z-of_z at c.row_of-row.ensures.one in
    second_is c.args.line.inverted c.from.result c.row_of-row.result (λ b. symbol_cost b c.args.symbol) c.from.ensures
    c.row_of-row.ensures.below zero one

pub returns-clause-sum : goal.returns-clause-sum
returns-clause-sum c =
    let fits : SFits w8 c.args.symbol = search rules in
    let zero : symbol_cost false c.args.symbol ≡ c.row_of-row.result - 1 =
    simp to_z-of_z at c.row_of-row.ensures.zero in
    let one : symbol_cost true c.args.symbol ≡ 254 - (c.row_of-row.result - 1) =
    simp to_z-of_z at c.row_of-row.ensures.one in
    either_sum c.args.line.inverted (λ b. symbol_cost b c.args.symbol)
    (omega (arith, zero, one, c.row_of-row.ensures.below))
