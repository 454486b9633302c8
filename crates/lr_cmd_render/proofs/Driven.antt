-- What a call comes to that leads a pool through the entries of a shelf.
use Rattle.std.proofs.Common.{◌≡◌, ◌<◌, List, ℕ, [], false, None, Result, Ok, Err, IfOk, IfErr}
use Rattle.std.specs.VecDeque.{deque_capacity}
use Rattle.lr_io.specs.declared.sink.Sink.{Ghosts as SinkOf}
use Rattle.lr_disk.specs.declared.disk.Disk.{Ghosts as DiskOf}
use Rattle.lr_shelf.specs.Kept.{kept_by}
use Rattle.lr_causes.specs.declared.cause.Cause.{Cause}
use Rattle.lr_rounds.specs.JobSources.{EndsWell, IsDriveFault, led}
use Rattle.lr_rounds.specs.declared.drive_fault.DriveFault.{DriveFault}
use Rattle.lr_rounds.specs.declared.drive_fault.DriveFault.TheVariants.{NoMemory as Unpaid, Stopped}
use Rattle.lr_cmd_render.specs.declared.sizes.TheConstants.{MOST_ENTRIES}
use Rattle.lr_cmd_render.specs.Leading.{Stands, StopsFor, count_in, images_under_way, render_terms}
use Rattle.lr_cmd_render.specs.Driven.{RenderComesTo, driven_by}
use Rattle.lr_cmd_render.specs.declared.render_source.RenderSource.{RenderSource}
use Rattle.lr_cmd_render.proofs.Stopping.{begins, ends_well, stops_at_once}

module _ {D O : Type 0} (disk : DiskOf D) (out : SinkOf O)
    (only_now : (x : D) (c : List ℕ) → disk.tells x → disk.left_since x (disk.moment x) c → disk.may_leave x c)
    (reads_none : (x : D) → disk.only_read x x)
    (reads_on : (x y z : D) → disk.only_read x y → disk.only_read y z → disk.only_read x z)
    (start now : RenderSource D O) where
  pub comes_to : (answer : Result (Unit {0}) Cause)
      → IfOk answer (λ nothing. EndsWell (render_terms disk out) start now)
      → IfErr answer (λ cause. StopsFor disk out start cause now) → RenderComesTo disk out answer start now
  comes_to (Ok nothing) all stops = ends_well disk out only_now reads_none reads_on all
  comes_to (Err cause) all stops = stops

  pub comes_by : (answer : Result (Unit {0}) (DriveFault Cause))
      → IfOk answer (λ nothing. EndsWell (render_terms disk out) start now)
      → IfErr answer (λ why. IsDriveFault (render_terms disk out) why start start now)
      → RenderComesTo disk out (driven_by answer) start now
  comes_by (Ok nothing) all undriven = ends_well disk out only_now reads_none reads_on all
  comes_by (Err (Stopped cause)) all undriven = undriven
  comes_by (Err Unpaid) all undriven = stops_at_once disk out only_now reads_none start now undriven

-- nothing was read
module _ {D O : Type 0} (disk : DiskOf D) (out : SinkOf O)
    (only_now : (x : D) (c : List ℕ) → disk.tells x → disk.left_since x (disk.moment x) c → disk.may_leave x c)
    (reads_none : (x : D) → disk.only_read x x) where
  pub source_ready : (source : RenderSource D O) → (kept_by source.shelf).failed ≡ false
      → count_in source < MOST_ENTRIES → source.next ≡ 0 → images_under_way source ≡ []
      → 0 < deque_capacity source.queue.images
      → source.tally ≡ record { images = 0; skipped = 0 } → source.refusal ≡ None
      → Stands disk out (led source [] 0) source
  source_ready source working few next_is none room tally_is no_refusal =
      begins disk out only_now reads_none source
      (record { working = working; few = few }) next_is none tally_is no_refusal room
