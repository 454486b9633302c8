-- How the entries of a shelf are led through a ring. No clause of a public call cites this.
use Rattle.std.specs.Prelude.{◌≡◌, ◌<◌, ◌≤◌, ◌+◌, ◌-◌, ◌*◌, ℕ, true, false, Option, Some, None}
use Rattle.std.specs.Prelude.{List, [], ◌∷◌}
use Rattle.std.specs.Prelude.{◌++◌, length, drop}
use Rattle.std.specs.VecDeque.{deque_capacity}
use Rattle.lr_bits.specs.File.{File}
use Rattle.lr_bits.specs.Telling.{KeepsTelling}
use Rattle.lr_io.specs.declared.sink.Sink.{Ghosts as SinkOf}
use Rattle.lr_disk.specs.Reads.{IsOnlyRead}
use Rattle.lr_disk.specs.declared.disk.Disk.{Ghosts as DiskOf}
use Rattle.lr_image.specs.Images.{HasImageFault}
use Rattle.lr_image.specs.declared.fault.ImageFault.{ImageFault}
use Rattle.lr_render.specs.declared.strip.StripSource.{StripSource}
use Rattle.lr_rounds.specs.JobSources.{Led, SourceTerms}
use Rattle.lr_shelf_format.specs.Way.{Way}
use Rattle.lr_shelf_format.specs.declared.stored.Stored.{Stored}
use Rattle.lr_shelf.specs.Kept.{kept_by}
use Rattle.lr_causes.specs.declared.cause.Cause.{Cause}
use Rattle.lr_causes.specs.declared.cause.Refusal.{Refusal}
use Rattle.lr_cmd_shelf.specs.Queries.{EntryView, query_on}
use Rattle.lr_cmd_shelf.specs.Files.{files_of}
use Rattle.lr_causes.specs.Outside.{outlets, outlets_of}
use Rattle.lr_cmd_shelf.specs.Reached.{SoFar, entries_run}
use Rattle.lr_cmd_render.specs.Render.{images_in, render_query, skipped_in}
use Rattle.lr_cmd_shelf.specs.Runs.{RunsOn}
use Rattle.lr_cmd_render.specs.declared.sizes.TheConstants.{MOST_ENTRIES, MOST_STRIPS}
use Rattle.lr_cmd_render.specs.Contents.{ReadsFile, FindsGone, IsRefusedAt}
use Rattle.lr_cmd_render.specs.Queues.{AllGiven, EachUnderWay, FirstWaits, OnlyLastGives, all_left}
use Rattle.lr_cmd_render.specs.Queues.{all_waiting, files_under_way, image_of}
use Rattle.lr_cmd_render.specs.declared.content.Content.{Content}
use Rattle.lr_cmd_render.specs.declared.content.Content.TheVariants.{Gone, NoImage, Image}
use Rattle.lr_cmd_render.specs.declared.render_source.RenderSource.{RenderSource}
use Rattle.lr_cmd_render.specs.declared.tally.Tally.{Tally}
use Rattle.lr_cmd_render.specs.declared.queue.UnderWay.{UnderWay}

-- ---- entries that were read ahead

-- an entry that was read, but isn't settled: it is gone; or its file has no image, for this fault; or the image of its
-- file is under way
pub data Ahead : Type 0 where
  Vacant : Ahead
  Imageless : (stored : Stored) (fault : ImageFault) → Ahead
  Pending : (stored : Stored) → Ahead

-- the files whose images are under way
abbrev pub pending_in : List Ahead → List File
pending_in [] = []
pending_in (Vacant ∷ ahead) = pending_in ahead
pending_in (Imageless stored fault ∷ ahead) = pending_in ahead
pending_in (Pending stored ∷ ahead) = stored.file ∷ pending_in ahead

-- how many have no image
abbrev pub imageless_in : List Ahead → ℕ
imageless_in [] = 0
imageless_in (Vacant ∷ ahead) = imageless_in ahead
imageless_in (Imageless stored fault ∷ ahead) = imageless_in ahead + 1
imageless_in (Pending stored ∷ ahead) = imageless_in ahead

module _ {D : Type 0} (disk : DiskOf D) (way : Way) (d : D) where
  -- this stands at the entry of this number
  abbrev pub AheadStandsAt : ℕ → Ahead → Type 0
  AheadStandsAt number Vacant = FindsGone disk way number d
  AheadStandsAt number (Imageless stored fault) = ReadsFile disk way number d stored × HasImageFault stored.file fault
  AheadStandsAt number (Pending stored) = ReadsFile disk way number d stored

  -- these stand at the entries from this number on
  abbrev pub AreAhead : ℕ → List Ahead → Type 0
  AreAhead number [] = Unit {0}
  AreAhead number (one ∷ ahead) = AheadStandsAt number one × AreAhead (number + 1) ahead

  -- what waits to be refused is refused at the entry of this number
  abbrev pub RefusalMayWait : ℕ → Option Refusal → Type 0
  RefusalMayWait number None = Unit {0}
  RefusalMayWait number (Some refusal) = (number < length way.entries) × IsRefusedAt disk way number d refusal

-- how far the entries are settled: up to this number. Those after it were read ahead, and this was counted
pub record Settled : Type 0 where
  pub ahead : List Ahead
  pub tally : Tally
  pub number : ℕ

abbrev pub settled_to : List Ahead → Tally → ℕ → Settled
settled_to ahead tally number = record { ahead = ahead; tally = tally; number = number }

-- what was counted of the settled entries, and of those ahead
pub record IsTally (ahead : List Ahead) (tally : Tally) (read : List EntryView) : Type 0 where
  pub images : tally.images ≡ images_in (files_of read)
  pub skipped : tally.skipped ≡ skipped_in (files_of read) + imageless_in ahead

-- these jobs were given, and what came of the first of them kept; the others are the strips that wait
pub record HasStripJobs (jobs : List StripSource) (kept next : ℕ) (ahead : List Ahead) (images : List UnderWay)
    : Type 0 where
  pub each : EachUnderWay images
  pub only_last : OnlyLastGives images
  pub files : pending_in ahead ≡ files_under_way images
  pub behind : kept ≤ length jobs
  pub waiting : drop kept jobs ≡ all_waiting images
  pub few : length jobs + all_left images ≤ 65535 * next

-- ---- the job source

abbrev pub refusals_left : Option Refusal → ℕ
refusals_left None = 1
refusals_left (Some refusal) = 0

module _ {D O : Type 0} where
  abbrev pub way_of_source : RenderSource D O → Way
  way_of_source source = (kept_by source.shelf).way

  -- how many entries there are
  abbrev pub count_in : RenderSource D O → ℕ
  count_in source = length (way_of_source source).entries

  abbrev pub images_under_way : RenderSource D O → List UnderWay
  images_under_way source = source.queue.images.items

  -- no more strips than this are to come
  abbrev pub jobs_left : RenderSource D O → ℕ
  jobs_left source = MOST_STRIPS * (count_in source - source.next) + all_left (images_under_way source)

  -- all strips of the images under way were given, and no further entry is to be read, since all were or since a
  -- refusal waits for the images under way
  pub record IsRenderOver (source : RenderSource D O) : Type 0 where
    pub given : AllGiven (images_under_way source)
    pub all : source.refusal ≡ None → count_in source ≤ source.next
    pub waits : (refusal : Refusal) → source.refusal ≡ Some refusal → images_under_way source ≡ [] → ⊥

  -- how many entries are to be read, and one more where none was refused
  abbrev pub reads_left : RenderSource D O → ℕ
  reads_left source = count_in source - source.next + refusals_left source.refusal

  -- the job source is as it was, but for the images under way, and what was put and counted
  pub record IsSameBut (old new : RenderSource D O) : Type 0 where
    pub disk : new.disk ≡ old.disk
    pub out : new.out.ghost_name ≡ old.out.ghost_name
    pub shelf : new.shelf ≡ old.shelf
    pub next : new.next ≡ old.next
    pub refusal : new.refusal ≡ old.refusal
    pub room : deque_capacity new.queue.images ≡ deque_capacity old.queue.images

  -- images were put that gave no strips any more
  pub record PutsImages (old new : RenderSource D O) : Type 0 where
    pub same : IsSameBut old new
    pub left : all_left (images_under_way new) ≤ all_left (images_under_way old)
    pub given : AllGiven (images_under_way old) → AllGiven (images_under_way new)

  -- what an entry holds was counted, or its image joined those under way
  abbrev pub IsContentTaken : Content → RenderSource D O → RenderSource D O → Type 0
  IsContentTaken Gone old new = (new.tally ≡ old.tally) × (images_under_way new ≡ images_under_way old)
  IsContentTaken NoImage old new =
      (new.tally ≡ record { images = old.tally.images; skipped = old.tally.skipped + 1 })
      × (images_under_way new ≡ images_under_way old)
  IsContentTaken (Image plan) old new =
      (new.tally ≡ old.tally) × (images_under_way new ≡ images_under_way old ++ image_of plan ∷ [])

  -- the next entry holds this
  pub record TakesIn (content : Content) (old new : RenderSource D O) : Type 0 where
    pub disk : new.disk ≡ old.disk
    pub out : new.out ≡ old.out
    pub shelf : new.shelf ≡ old.shelf
    pub next : new.next ≡ old.next + 1
    pub refusal : new.refusal ≡ old.refusal
    pub room : deque_capacity new.queue.images ≡ deque_capacity old.queue.images
    pub taken : IsContentTaken content old new

  -- an entry was read
  pub record ReadsOne (old new : RenderSource D O) : Type 0 where
    pub first : FirstWaits (images_under_way old) → FirstWaits (images_under_way new)
    pub left : jobs_left new ≤ jobs_left old
    pub fewer : reads_left new < reads_left old

module _ {D O : Type 0} (disk : DiskOf D) (out : SinkOf O) where
  -- the shelf works and has few entries
  pub record MayBeLed (source : RenderSource D O) : Type 0 where
    pub working : (kept_by source.shelf).failed ≡ false
    pub few : count_in source < MOST_ENTRIES

  -- the shelf is as it was, and the disk was only read
  pub record OnlyReadsDisk (start now : RenderSource D O) : Type 0 where
    pub kept : kept_by now.shelf ≡ kept_by start.shelf
    pub tell : KeepsTelling (disk.tells start.disk.now) (disk.tells now.disk.now)
    pub only_read : IsOnlyRead disk start.disk.now now.disk.now
    pub faults : disk.faults now.disk.now ≡ disk.faults start.disk.now

  -- so far the entries are settled: the texts of their images were put
  abbrev pub Settles : RenderSource D O → Settled → O → Type 0
  Settles start so_far o =
      SoFar (outlets_of disk out) (entries_run render_query (way_of_source start)
      (record { from = 0; to = count_in start })
      (IsTally so_far.ahead so_far.tally)) (outlets start.disk.now start.out.now) so_far.number o

  -- the job source was the first one, has given the jobs led, and kept what came of those kept
  pub record RenderGoes (led : Led (RenderSource D O) StripSource) (now : RenderSource D O) : Type 0 where
    pub same_disk : now.disk.ghost_name ≡ led.start.disk.ghost_name
    pub same_out : now.out.ghost_name ≡ led.start.out.ghost_name
    pub may : MayBeLed led.start
    pub reads : OnlyReadsDisk led.start now
    pub ahead : List Ahead
    pub settled : ℕ
    pub are_ahead : AreAhead disk (way_of_source led.start) led.start.disk.now settled ahead
    pub reached : settled + length ahead ≡ now.next
    pub inside : now.next ≤ count_in led.start
    pub settles : Settles led.start (settled_to ahead now.tally settled) now.out.now
    pub refusal : RefusalMayWait disk (way_of_source led.start) led.start.disk.now now.next now.refusal
    pub has_jobs : HasStripJobs led.jobs led.kept now.next ahead (images_under_way now)
    pub counted : now.tally.images + now.tally.skipped + length (images_under_way now) ≤ now.next
    pub room : 0 < deque_capacity now.queue.images

  -- and its first image isn't complete
  pub record Stands (led : Led (RenderSource D O) StripSource) (now : RenderSource D O) : Type 0 where
    pub goes : RenderGoes led now
    pub first : FirstWaits (images_under_way now)

  -- the job source was the first one, and stopped for this cause
  pub record StopsFor (start : RenderSource D O) (cause : Cause) (now : RenderSource D O) : Type 0 where
    pub same_disk : now.disk.ghost_name ≡ start.disk.ghost_name
    pub same_out : now.out.ghost_name ≡ start.out.ghost_name
    pub runs : RunsOn (outlets_of disk out) (query_on render_query (way_of_source start)) cause
        (outlets start.disk.now start.out.now) (outlets now.disk.now now.out.now)

  -- the terms on which it gives strips and keeps what is rendered
  abbrev pub render_terms : SourceTerms (RenderSource D O) StripSource Cause
  render_terms = record {
    stands = Stands;
    stopped = StopsFor;
    is_over = IsRenderOver;
    left = jobs_left;
    at_once = λ now. true;
  }
