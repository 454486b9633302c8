use Rattle.std.proofs.Common.{◌≡◌, ℕ, ◌<◌, length}
use mathlib.Core.Option.{some}
use lib.ListN.{get_elem?}
use Rattle.lr_gatecore.specs.declared.stage.Stage.TheVariants.{Busy}
use Rattle.lr_gatecore.proofs.gate_core.place_of.Given as goal

abbrev pub invariant-loop-place : goal.invariant-loop-place
invariant-loop-place l =
    ((k : ℕ) → k < l.place → ¬ (get_elem? l.window.items k ≡ some (Busy l.worker)))
    × (l.place-end ≡ length l.window.items)
