use Rattle.std.proofs.Common.{◌≡◌, ℕ, ◌<◌, ◌≤◌, length}
use Rattle.lr_gf.specs.Systems.{entry}
use Rattle.lr_gf.specs.RowOperations.{cleared_column}
use Rattle.lr_gf.proofs.system.clear_column.Given as goal

abbrev pub invariant-loop-i : goal.invariant-loop-i
invariant-loop-i l =
    ((i k : ℕ) → i < l.i → k < 17 → entry l.cells i k ≡ cleared_column l.pivot l.column (entry l.initial.cells) i k)
    × ((i k : ℕ) → l.i ≤ i → k < 17 → entry l.cells i k ≡ entry l.initial.cells i k)
    × (length l.cells ≡ 16)
