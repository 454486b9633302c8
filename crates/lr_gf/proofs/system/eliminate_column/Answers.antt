use Rattle.std.proofs.Common.{◌∙◌, ap, sym}
use Rattle.lr_gf.specs.Field.{times}
use Rattle.lr_gf.specs.Systems.{entry}
use Rattle.lr_gf.proofs.Elimination.{is_pivot_step, moved_row-zero}
use Rattle.lr_gf.proofs.system.eliminate_column.Goals as goal

pub returns-clause-step : goal.returns-clause-step
returns-clause-step c _ =
    is_pivot_step c.args.rows c.args.place c.in-Some.from c.args.column c.inv-factor.result
    (entry c.args.cells.now) (entry c.move_pivot.new.cells) (entry c.clear_column.new.cells)
    c.requires.elements c.requires.rows c.requires.column c.in-Some.ensures.0 c.in-Some.ensures.1
    (ap (λ z. times z c.inv-factor.result) (sym c.cell_at.ensures)
    ∙ c.inv-factor.ensures) c.move_pivot.ensures c.clear_column.ensures

pub clear_column-requires-clause-zeros : goal.clear_column-requires-clause-zeros
clear_column-requires-clause-zeros c =
    moved_row-zero c.args.rows c.args.place c.in-Some.from c.args.column c.inv-factor.result
    (entry c.args.cells.now) (entry c.move_pivot.new.cells)
    c.requires.rows c.requires.column c.in-Some.ensures.0 c.in-Some.ensures.1 c.requires.zeros c.move_pivot.ensures
