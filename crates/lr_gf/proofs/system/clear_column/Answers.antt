use Rattle.lr_gf.proofs.Elimination.{clear_more, clear_skip, added_row}
use Rattle.lr_gf.proofs.system.clear_column.Goals as goal
use Rattle.lr_gf.proofs.system.clear_column.Goals.{then-i-pivot, else-i-pivot}

pub loop-i-preserved : goal.loop-i-preserved
loop-i-preserved c = elim c.if-i-pivot.branch [
  | then-i-pivot w ↦
      rw w.cells-is
      (clear_more c.args.cells.now c.loop-i.cells _ c.args.pivot c.args.column c.loop-i.i _ c.loop-i.invariant.2
      c.loop-i-test.true w.if-i-pivot.true
      c.requires.column c.loop-i.invariant.0 c.loop-i.invariant.1 w.cell_at-factor.ensures
      (added_row c.args.column w.cell_at-factor.result _ _ _ c.requires.zeros w.add_scaled.ensures.added
      w.add_scaled.ensures.kept))
  | else-i-pivot w ↦
      rw w.cells-is
      (clear_skip c.args.cells.now c.loop-i.cells c.args.pivot c.args.column c.loop-i.i c.loop-i.invariant.2
      w.if-i-pivot.false c.loop-i.invariant.0 c.loop-i.invariant.1)
]
