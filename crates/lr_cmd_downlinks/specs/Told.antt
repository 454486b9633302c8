-- What is told of a run. No clause of a public call cites this.
use Rattle.std.specs.Prelude.{◌≡◌, ◌⊎◌, ℕ, List, ◌++◌, length}
use Rattle.lr_io.specs.declared.sink.Sink.{Ghosts as SinkOf}
use Rattle.lr_causes.specs.Puts.{Puts, PutFails}
use Rattle.lr_causes.specs.declared.cause.Cause.{Cause}
use Rattle.lr_causes.specs.declared.cause.Cause.TheVariants.{Done, Failed, NoMemory, Refused}
use Rattle.lr_causes.specs.declared.cause.Party.TheVariants.{Disk, Output}
use Rattle.lr_causes.specs.declared.cause.Refusal.TheVariants.{Capacity as IsFull}
use Rattle.lr_downlinks.specs.declared.run.Run.{Run}
use Rattle.lr_downlinks.specs.declared.run.RunEnd.{RunEnd}
use Rattle.lr_downlinks.specs.declared.run.RunEnd.TheVariants.{All, Disk as DiskFails, NoMemory as NoneLeft, Capacity}
use Rattle.lr_cmd_downlinks.specs.Lines.{receipt_lines, last_line}

-- the streams of a bundle, how many entries there were before, and the order of the files that were put onto the shelf
pub record Receipted : Type 0 where
  pub streams : List (List ℕ)
  pub base : ℕ
  pub order : List ℕ

abbrev pub receipted : List (List ℕ) → ℕ → List ℕ → Receipted
receipted streams base order = record { streams = streams; base = base; order = order }

abbrev pub receipt_lines_of : Receipted → List ℕ
receipt_lines_of run = receipt_lines run.base run.order (length run.streams)

abbrev pub all_lines_of : Receipted → List ℕ
all_lines_of run = receipt_lines_of run ++ last_line run.streams run.order

module _ {O : Type 0} (out : SinkOf O) where
  -- all lines, or a part of them
  abbrev pub TellsAll : Receipted → Cause → O → O → Type 0
  TellsAll run Done o o' = Puts out (all_lines_of run) o o'
  TellsAll run (Failed Output) o o' = PutFails out (all_lines_of run) o o'
  TellsAll run cause o o' = ⊥

  -- the receipts, or a part of them
  abbrev pub TellsSome : Receipted → O → O → Type 0
  TellsSome run o o' = Puts out (receipt_lines_of run) o o' ⊎ PutFails out (receipt_lines_of run) o o'

  abbrev pub TellsEnd : RunEnd → Receipted → Cause → O → O → Type 0
  TellsEnd All run cause o o' = TellsAll run cause o o'
  TellsEnd DiskFails run cause o o' = (cause ≡ Failed Disk) × TellsSome run o o'
  TellsEnd NoneLeft run cause o o' = (cause ≡ NoMemory) × TellsSome run o o'
  TellsEnd (Capacity needed capacity) run cause o o' =
      (cause ≡ Refused (IsFull needed capacity)) × TellsSome run o o'

-- a run over the streams of a bundle
pub record BundleRun : Type 0 where
  pub streams : List (List ℕ)
  pub run : Run

abbrev pub bundle_run : List (List ℕ) → Run → BundleRun
bundle_run streams run = record { streams = streams; run = run }

abbrev pub TellsRun : {O : Type 0} → SinkOf O → BundleRun → Cause → O → O → Type 0
TellsRun out bundle cause o o' =
    TellsEnd out bundle.run.result (receipted bundle.streams bundle.run.base bundle.run.order) cause o o'
