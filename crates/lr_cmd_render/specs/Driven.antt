-- What a call comes to that leads a pool through the entries of a shelf. No clause of a public call cites this.
use Rattle.std.specs.Prelude.{◌≡◌, ◌<◌, [], Result, Ok, Err}
use Rattle.std.specs.VecDeque.{deque_capacity}
use denote.Ref.{MutBor}
use Rattle.lr_io.specs.declared.sink.Sink.{Ghosts as SinkOf}
use Rattle.lr_disk.specs.declared.disk.Disk.{Ghosts as DiskOf}
use Rattle.lr_causes.specs.declared.cause.Cause.{Cause}
use Rattle.lr_causes.specs.declared.cause.Cause.TheVariants.{DoneWith, NoMemory}
use Rattle.lr_causes.specs.declared.note.Note.TheVariants.{Rendered}
use Rattle.lr_rounds.specs.JobSources.{led}
use Rattle.lr_rounds.specs.declared.drive_fault.DriveFault.{DriveFault}
use Rattle.lr_rounds.specs.declared.drive_fault.DriveFault.TheVariants.{NoMemory as Unpaid, Stopped}
use Rattle.lr_rounds.specs.WorkerPools.{PoolView}
use Rattle.lr_cmd_render.specs.Leading.{Stands, StopsFor}
use Rattle.lr_cmd_render.specs.declared.render_source.RenderSource.{RenderSource}
use Rattle.lr_cmd_render.specs.declared.queue.Queue.{Queue}

-- what a drive of the pool comes to
abbrev pub driven_by : Result (Unit {0}) (DriveFault Cause) → Result (Unit {0}) Cause
driven_by (Ok nothing) = Ok nothing
driven_by (Err (Stopped cause)) = Err cause
driven_by (Err Unpaid) = Err NoMemory

-- no image is under way, and there is room for some
pub record IsFreshQueue (queue : Queue) : Type 0 where
  pub none : queue.images.items ≡ []
  pub room : 0 < deque_capacity queue.images

module _ {D O : Type 0} (disk : DiskOf D) (out : SinkOf O) where
  -- all images were put, or the job source stopped
  abbrev pub RenderComesTo : Result (Unit {0}) Cause → RenderSource D O → RenderSource D O → Type 0
  RenderComesTo (Ok nothing) start now =
      StopsFor disk out start (DoneWith (Rendered now.tally.images now.tally.skipped)) now
  RenderComesTo (Err cause) start now = StopsFor disk out start cause now

  -- it may be called with this pool, where nothing was read
  abbrev pub MayDrive : (PoolView → MutBor (RenderSource D O) → Type 0) → PoolView → Type 0
  MayDrive pre pool = (source : MutBor (RenderSource D O)) → Stands disk out (led source.now [] 0) source.now
      → pre pool source

  abbrev pub Drives : (PoolView → MutBor (RenderSource D O) → Result (Unit {0}) Cause → MutBor (RenderSource D O)
      → Type 0)
      → Type 0
  Drives post =
      (pool : PoolView) (source : MutBor (RenderSource D O)) (answer : Result (Unit {0}) Cause)
      (source' : MutBor (RenderSource D O)) → post pool source answer source'
      → RenderComesTo answer source.now source'.now
