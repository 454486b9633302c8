use Rattle.std.proofs.Common.{◌≡◌}
use Rattle.lr_bits.specs.Telling.{KeepsTelling}
use Rattle.lr_disk.specs.Reads.{IsOnlyRead}
use Rattle.lr_shelf.specs.Kept.{kept_by}
use Rattle.lr_cmd_shelf.specs.Reached.{SoFar, entries_run}
use Rattle.lr_causes.specs.Outside.{outlets_of, outlets}
use Rattle.lr_cmd_shelf.proofs.run.take_entries.Given as goal

abbrev pub invariant-loop-number : goal.invariant-loop-number
invariant-loop-number g l =
    record {
      kept : kept_by l.shelf ≡ kept_by l.fn.shelf;
      tell : KeepsTelling (g.D.Disk.tells l.fn.disk) (g.D.Disk.tells l.disk);
      reads : IsOnlyRead g.D.Disk l.fn.disk l.disk;
      disk_count : g.D.Disk.faults l.disk ≡ g.D.Disk.faults l.fn.disk;
      so_far : SoFar (outlets_of g.D.Disk g.O.Sink)
          (entries_run (g.C.ReadsEntries.query l.command) (kept_by l.fn.shelf).way
          (record { from = l.initial.number; to = l.number-end }) (g.C.ReadsEntries.gathers l.command l.gathered))
          (outlets l.fn.disk l.fn.out) l.number l.out;
    }
