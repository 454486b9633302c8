-- What a call is lent: a source, a disk and `out`, or two of these, and what is said of such things.
use Rattle.lr_bits.specs.Faults.{Rose}
use Rattle.lr_bits.specs.Telling.{KeepsTelling}
use Rattle.lr_disk.specs.declared.disk.Disk.{Ghosts as DiskOf}
use Rattle.lr_io.specs.declared.sink.Sink.{Ghosts as SinkOf}
use Rattle.lr_io.specs.declared.source.Source.{Ghosts as SourceOf}
use Rattle.lr_causes.specs.Causes.{FaultCounts, counts}

-- what is said of sources, of disks and of sinks
pub record World (S D O : Type 0) : Type 1 where
  pub source : SourceOf S
  pub disk : DiskOf D
  pub out : SinkOf O

-- the source, the disk and `out` at some moment
pub record Outside (S D O : Type 0) : Type 0 where
  pub source : S
  pub disk : D
  pub out : O

abbrev pub world_of : {S D O : Type 0} → SourceOf S → DiskOf D → SinkOf O → World S D O
world_of source disk out = record { source = source; disk = disk; out = out }

abbrev pub outside : {S D O : Type 0} → S → D → O → Outside S D O
outside s d o = record { source = s; disk = d; out = o }

-- how often each of them has failed
abbrev pub counts_in : {S D O : Type 0} → World S D O → Outside S D O → FaultCounts
counts_in world w = counts (world.source.faults w.source) (world.disk.faults w.disk) (world.out.faults w.out)

-- none of them failed
pub record NoFault {S D O : Type 0} (world : World S D O) (w w' : Outside S D O) : Type 0 where
  pub of_source : Rose (world.source.faults w.source) (world.source.faults w'.source) → ⊥
  pub of_disk : Rose (world.disk.faults w.disk) (world.disk.faults w'.disk) → ⊥
  pub of_out : Rose (world.out.faults w.out) (world.out.faults w'.out) → ⊥

-- ---- a disk and `out`, for a command that has no source

-- what is said of disks and of sinks
pub record OutletsOf (D O : Type 0) : Type 1 where
  pub disk : DiskOf D
  pub out : SinkOf O

-- the disk and `out` at some moment
pub record Outlets (D O : Type 0) : Type 0 where
  pub disk : D
  pub out : O

abbrev pub outlets_of : {D O : Type 0} → DiskOf D → SinkOf O → OutletsOf D O
outlets_of disk out = record { disk = disk; out = out }

abbrev pub outlets : {D O : Type 0} → D → O → Outlets D O
outlets d o = record { disk = d; out = o }

-- those of a world, and of the outside
abbrev pub world_outlets : {S D O : Type 0} → World S D O → OutletsOf D O
world_outlets world = record { disk = world.disk; out = world.out }

abbrev pub outlets_in : {S D O : Type 0} → Outside S D O → Outlets D O
outlets_in w = record { disk = w.disk; out = w.out }

-- how often each of them has failed
abbrev pub outlet_counts : {D O : Type 0} → OutletsOf D O → Outlets D O → FaultCounts
outlet_counts world w = counts 0 (world.disk.faults w.disk) (world.out.faults w.out)

-- both tell of themselves what they told
pub record TellOn {D O : Type 0} (world : OutletsOf D O) (w w' : Outlets D O) : Type 0 where
  pub by_disk : KeepsTelling (world.disk.tells w.disk) (world.disk.tells w'.disk)
  pub by_out : KeepsTelling (world.out.tells w.out) (world.out.tells w'.out)

-- ---- a source and `out`, for a command that has no disk

-- what is said of sources and of sinks
pub record PipeOf (S O : Type 0) : Type 1 where
  pub source : SourceOf S
  pub out : SinkOf O

-- the source and `out` at some moment
pub record Pipe (S O : Type 0) : Type 0 where
  pub source : S
  pub out : O

abbrev pub pipe_of : {S O : Type 0} → SourceOf S → SinkOf O → PipeOf S O
pipe_of source out = record { source = source; out = out }

abbrev pub pipe : {S O : Type 0} → S → O → Pipe S O
pipe s o = record { source = s; out = o }

-- those of a world, and of the outside
abbrev pub world_pipe : {S D O : Type 0} → World S D O → PipeOf S O
world_pipe world = pipe_of world.source world.out

abbrev pub pipe_in : {S D O : Type 0} → Outside S D O → Pipe S O
pipe_in w = pipe w.source w.out
