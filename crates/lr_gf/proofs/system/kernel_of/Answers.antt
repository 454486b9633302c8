use Rattle.std.proofs.Common.{◌≡◌, ℕ, ◌∙◌, sym, ap, subst, arith, slice_index}
use Rattle.std.proofs.lemmas.Bool.{false≢true}
use Rattle.lr_gf.specs.Systems.{entry}
use Rattle.lr_gf.proofs.Reduction.{IsReduced, reduced_more, dependent, independent, combination_elements}
use Rattle.lr_gf.proofs.Elimination.{if_other}
use Rattle.lr_gf.proofs.system.kernel_of.Goals as goal

pub returns-then-not-eliminate_column-clause-sent : goal.returns-then-not-eliminate_column-clause-sent
returns-then-not-eliminate_column-clause-sent c _ =
    (dependent c.args.rows c.args.columns c.loop-column.column (entry c.args.cells.now) (entry c.loop-column.cells)
    (slice_index c.write_dependence.new.x)
    c.requires.rows c.requires.columns c.loop-column-test.true c.loop-column.invariant.0
    (c.eliminate_column.ensures.none (cc))
    (λ k h. c.write_dependence.ensures.before k h ∙ ap (λ z. entry z k c.loop-column.column)
    (c.eliminate_column.ensures.same (cc)))
    c.write_dependence.ensures.here c.write_dependence.ensures.after).0

pub returns-then-not-eliminate_column-clause-nonzero : goal.returns-then-not-eliminate_column-clause-nonzero
returns-then-not-eliminate_column-clause-nonzero c _ =
    let one = c.write_dependence.ensures.here in
    (c.loop-column.column, c.loop-column-test.true, λ zero. absurd (omega (arith, one, zero)))

pub loop-column-preserved : goal.loop-column-preserved
loop-column-preserved c = (
  reduced_more c.args.rows c.args.columns c.loop-column.column (entry c.args.cells.now) (entry c.loop-column.cells)
      (entry c.eliminate_column.new.cells) c.requires.columns (omega arith) c.loop-column.invariant.0
      (c.eliminate_column.ensures.step (cc)),
  c.loop-column.invariant.1,
)

pub returns-clause-none : goal.returns-clause-none
returns-clause-none c _ =
    let all : c.loop-column.column ≡ c.args.columns = omega arith in
    independent c.args.rows c.args.columns (entry c.args.cells.now) (entry c.loop-column.cells)
    (subst (λ (k : ℕ). IsReduced c.args.rows c.args.columns k (entry c.args.cells.now)
    (entry c.loop-column.cells)) all c.loop-column.invariant.0)

pub returns-then-not-eliminate_column-clause-vector : goal.returns-then-not-eliminate_column-clause-vector
returns-then-not-eliminate_column-clause-vector c _ =
    combination_elements c.loop-column.column (entry c.loop-column.cells) (slice_index c.write_dependence.new.x)
    (omega arith) c.loop-column.invariant.0.elements
    (λ k h. c.write_dependence.ensures.before k h ∙ ap (λ z. entry z k c.loop-column.column)
    (c.eliminate_column.ensures.same (cc)))
    c.write_dependence.ensures.here c.write_dependence.ensures.after

pub returns-clause-narrow : goal.returns-clause-narrow
returns-clause-narrow c _ = omega (arith, c.loop-column.invariant.0.place)

pub returns-clause-unchanged : goal.returns-clause-unchanged
returns-clause-unchanged c _ = c.loop-column.invariant.1

pub returns-then-not-eliminate_column-clause-none : goal.returns-then-not-eliminate_column-clause-none
returns-then-not-eliminate_column-clause-none c e = absurd (false≢true (sym e))

pub returns-then-not-eliminate_column-clause-narrow : goal.returns-then-not-eliminate_column-clause-narrow
returns-then-not-eliminate_column-clause-narrow c e = absurd (false≢true (sym e))

pub eliminate_column-requires-clause-zeros : goal.eliminate_column-requires-clause-zeros
eliminate_column-requires-clause-zeros c i k le lt low = c.loop-column.invariant.0.unit i k lt low
    ∙ if_other i k 1 0 (omega arith)
