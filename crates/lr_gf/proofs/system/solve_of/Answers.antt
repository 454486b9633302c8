use Rattle.std.proofs.Common.{rules, ◌≡◌, ℕ, ◌+◌, ◌<◌, sym, subst, arith, List, get_or, slice_index, ◌⊎◌}
use Rattle.lr_gf.specs.Systems.{entry}
use Rattle.lr_gf.proofs.Solving.{IsEchelon, HasEchelon, echelon_taken, echelon_skip, solved, unsolved, fill_more}
use Rattle.lr_gf.proofs.Solving.{solution_elements}
use Rattle.lr_gf.proofs.system.solve_of.Goals as goal
use Rattle.lr_gf.proofs.system.solve_of.Goals.{then-eliminate_column, else-eliminate_column}

pub loop-column-preserved : goal.loop-column-preserved
loop-column-preserved c = elim c.if-eliminate_column.branch [
  | then-eliminate_column w ↦
      subst (λ (r : ℕ). HasEchelon c.args.n r (c.loop-column.column + 1) c.if-eliminate_column.places
      (entry c.args.cells.now) (entry c.eliminate_column.new.cells)) (sym w.rank-is)
      (subst (λ (ps : List ℕ). HasEchelon c.args.n (c.loop-column.rank + 1) (c.loop-column.column + 1) ps
      (entry c.args.cells.now) (entry c.eliminate_column.new.cells)) (sym w.places-is)
      (echelon_taken c.args.n c.loop-column.rank c.loop-column.column c.loop-column.places (entry c.args.cells.now)
      (entry c.loop-column.cells) (entry c.eliminate_column.new.cells)
      c.requires.n c.loop-column-test.true c.loop-column.invariant (c.eliminate_column.ensures.step (cc))))
  | else-eliminate_column w ↦
      subst (λ (r : ℕ). HasEchelon c.args.n r (c.loop-column.column + 1) c.if-eliminate_column.places
      (entry c.args.cells.now) (entry c.eliminate_column.new.cells)) (sym w.rank-is)
      (subst (λ (ps : List ℕ). HasEchelon c.args.n c.loop-column.rank (c.loop-column.column + 1) ps
      (entry c.args.cells.now) (entry c.eliminate_column.new.cells)) (sym w.places-is)
      (subst (λ (cells : List (List ℕ)). HasEchelon c.args.n c.loop-column.rank
      (c.loop-column.column + 1) c.loop-column.places (entry c.args.cells.now) (entry cells))
      (sym (c.eliminate_column.ensures.same (cc))) (
        echelon_skip c.args.n c.loop-column.rank c.loop-column.column (λ j. get_or c.loop-column.places j 0)
            (entry c.args.cells.now) (entry c.loop-column.cells)
            c.loop-column.invariant.0 (c.eliminate_column.ensures.none (cc)),
        c.loop-column.invariant.1,
      )))
]

pub returns-in-Some-clause-none : goal.returns-in-Some-clause-none
returns-in-Some-clause-none c x s =
    let all : c.loop-column.column ≡ c.args.n = omega arith in
    let pivot = c.in-Some.ensures in
    unsolved c.args.n c.loop-column.rank c.in-Some.field-0 (λ j. get_or c.loop-column.places j 0)
    (entry c.args.cells.now) (entry c.loop-column.cells) x
    c.requires.n c.requires.elements
    (subst (λ (k : ℕ). IsEchelon c.args.n c.loop-column.rank k (λ j. get_or c.loop-column.places j 0)
    (entry c.args.cells.now) (entry c.loop-column.cells)) all c.loop-column.invariant.0)
    pivot.0 pivot.1 pivot.2 s

pub returns-in-Some-clause-unchanged : goal.returns-in-Some-clause-unchanged
returns-in-Some-clause-unchanged c = search rules

pub loop-i-preserved : goal.loop-i-preserved
loop-i-preserved c =
    let room = c.loop-column.invariant.0.room in
    let early : get_or c.loop-column.places c.loop-i.i 0 < c.loop-column.column =
    c.loop-column.invariant.0.before c.loop-i.i c.loop-i-test.true in
    fill_more c.args.n c.loop-column.rank c.loop-column.column c.loop-i.i c.cell_at.result
    (λ j. get_or c.loop-column.places j 0)
    (entry c.args.cells.now)
    (entry c.loop-column.cells) c.loop-i.x c.loop-column.invariant.0 c.loop-i-test.true c.loop-i.invariant.2
    (omega arith)
    c.cell_at.ensures c.loop-i.invariant.0 c.loop-i.invariant.1

pub returns-clause-ok : goal.returns-clause-ok
returns-clause-ok c =
    let all : c.loop-column.column ≡ c.args.n = omega arith in
    let done : c.loop-i.i ≡ c.loop-column.rank = omega arith in
    solved c.args.n c.loop-column.rank (λ j. get_or c.loop-column.places j 0) (entry c.args.cells.now)
    (entry c.loop-column.cells) (slice_index c.loop-i.x)
    c.requires.n c.requires.elements
    (subst (λ (k : ℕ). IsEchelon c.args.n c.loop-column.rank k (λ j. get_or c.loop-column.places j 0)
    (entry c.args.cells.now) (entry c.loop-column.cells)) all c.loop-column.invariant.0)
    c.in_default.ensures
    (subst (λ (i : ℕ). (j : ℕ) → j < i
    → get_or c.loop-i.x (get_or c.loop-column.places j 0) 0 ≡ entry c.loop-column.cells j c.args.n) done
    c.loop-i.invariant.0)
    (subst (λ (i : ℕ). (k : ℕ) → (slice_index c.loop-i.x k ≡ 0)
    ⊎ ((j : ℕ) × (j < i) × (get_or c.loop-column.places j 0 ≡ k))) done c.loop-i.invariant.1)

pub returns-clause-vector : goal.returns-clause-vector
returns-clause-vector c =
    let done : c.loop-i.i ≡ c.loop-column.rank = omega arith in
    solution_elements c.args.n c.loop-column.rank c.loop-column.column (λ j. get_or c.loop-column.places j 0)
    (entry c.args.cells.now) (entry c.loop-column.cells)
    (slice_index c.loop-i.x) c.requires.n c.loop-column.invariant.0
    (subst (λ (i : ℕ). (j : ℕ) → j < i
    → get_or c.loop-i.x (get_or c.loop-column.places j 0) 0 ≡ entry c.loop-column.cells j c.args.n) done
    c.loop-i.invariant.0)
    (subst (λ (i : ℕ). (k : ℕ) → (slice_index c.loop-i.x k ≡ 0)
    ⊎ ((j : ℕ) × (j < i) × (get_or c.loop-column.places j 0 ≡ k))) done c.loop-i.invariant.1)

pub eliminate_column-requires-clause-zeros : goal.eliminate_column-requires-clause-zeros
eliminate_column-requires-clause-zeros c = c.loop-column.invariant.0.low
