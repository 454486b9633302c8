use Rattle.lr_causes.specs.Outside.{world_of}
use Rattle.lr_station.proofs.Writing.{alone_reads, by_command, only_reads}
use Rattle.lr_station.proofs.laws.only_writers_write.Goals as goal

pub returns-clause-commands : goal.returns-clause-commands
returns-clause-commands g c = λ command still cause w w' run.
    by_command (world_of g.S.Source g.D.Disk g.O.Sink) g.met.D.Disk.only_now g.met.D.Disk.reads_none cause w w' command
    still run

pub returns-clause-words : goal.returns-clause-words
returns-clause-words g c = λ words still. (
  (λ cause w w' run.
      only_reads (world_of g.S.Source g.D.Disk g.O.Sink) g.met.D.Disk.only_now g.met.D.Disk.reads_none cause w w' words
      still run),
  (λ cause w w' run.
      alone_reads (world_of g.S.Source g.D.Disk g.O.Sink) g.met.D.Disk.only_now g.met.D.Disk.reads_none cause w w' words
      still run),
)
