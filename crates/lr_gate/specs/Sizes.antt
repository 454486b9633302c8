-- How large a gate's table is.
use Rattle.std.specs.Prelude.{◌≡◌, ℕ, ◌+◌, ◌<◌, ◌≤◌}
use Rattle.atomic_table.specs.Seated.{TableId}
use Rattle.lr_gatecore.specs.declared.sizes.TheConstants.{MOST_CELLS, MOST_HANDS}
use Rattle.lr_gatecore.specs.declared.ring_size.RingSize.{RingSize}

-- a slot for each cell, and a word for each and one for the stop
pub record HasSize (table : TableId) (size : RingSize) (cells workers : ℕ) : Type 0 where
  pub slots : table.slots ≡ cells
  pub words : table.words ≡ cells + 1
  pub cells_are : size.cells ≡ cells
  pub workers_are : size.workers ≡ workers
  pub some_cell : 0 < cells
  pub most_cells : cells ≤ MOST_CELLS
  pub most_workers : workers ≤ MOST_HANDS
