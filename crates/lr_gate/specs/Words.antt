-- The words of the cells. A cell is told by the job that lies in it, and by that job's stage.
use Rattle.std.specs.Prelude.{ℕ, ◌+◌, ◌*◌}
use mathlib.Core.Option.{Option, none, some}
use Rattle.lr_gatecore.specs.declared.stage.Stage.{Stage}
use Rattle.lr_gatecore.specs.declared.stage.Stage.TheVariants.{Ready, Busy, Done}
use Rattle.lr_gatecore.specs.declared.sizes.TheConstants.{WORD_BASE}

abbrev pub stage_code : Stage → ℕ
stage_code Ready = 1
stage_code Done = 2
stage_code (Busy w) = 4 * w + 3

-- the word of the cell of the job p; a cell without a job is free
abbrev pub cell_word : ℕ → Option Stage → ℕ
cell_word p none = 0
cell_word p (some st) = p * WORD_BASE + stage_code st

-- how often a job of this stage stands in the lists of finished jobs
abbrev pub finish_count : Option Stage → ℕ
finish_count none = 0
finish_count (some Ready) = 0
finish_count (some (Busy w)) = 0
finish_count (some Done) = 1
