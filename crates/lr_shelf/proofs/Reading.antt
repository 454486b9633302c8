-- Runs of calls that read a disk alone, with the answers of a shelf.
use Rattle.std.proofs.Common.{◌≡◌, Result, Ok, Err}
use Rattle.lr_bits.specs.declared.refusals.Failed.{Failed}
use Rattle.lr_disk.specs.Reads.{OnlyReads}
use Rattle.lr_disk.specs.declared.disk.Disk.{Ghosts as DiskOf}
use Rattle.lr_shelf.specs.Calls.{IsFaultCounted, ReadsDisk}
use Rattle.lr_shelf.specs.declared.error.ShelfError.{ShelfError}
use Rattle.lr_shelf.specs.declared.error.ShelfError.TheVariants.{Disk}

module _ {D : Type 0} (disk : DiskOf D) where
  -- a run after which the answer is neither Ok nor `Disk`, or is Ok
  pub run_ended : {S A : Type 0} (d d' : D) (answer : S) (r : Result A ShelfError)
      → (disk.faults d' ≡ disk.faults d → IsFaultCounted (disk.faults d) (disk.faults d') r)
      → OnlyReads disk d d' (Ok answer) → ReadsDisk disk d d' r
  run_ended d d' answer r counted reads = record {
    calls = record { tell = reads.tell; counted = counted reads.cause.kept };
    only_read = reads.only_read;
    images = reads.kept;
  }

  -- a run whose last call failed
  pub run_failed : {S A : Type 0} (d d' : D) (failed : Failed) → OnlyReads disk {T = S} d d' (Err failed)
      → ReadsDisk disk {A = A} d d' (Err Disk)
  run_failed d d' failed reads = record {
    calls = record { tell = reads.tell; counted = (reads.cause.later, reads.cause.rose) };
    only_read = reads.only_read;
    images = reads.kept;
  }
