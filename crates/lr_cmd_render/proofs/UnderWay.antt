-- The images under way go on: strips are given and kept, and images put.
use Rattle.std.proofs.Common.{◌≡◌, ◌<◌, ◌≤◌, ◌+◌, ◌-◌, ◌*◌, ◌^◌, ℕ}
use Rattle.std.proofs.Common.{Option, Some, None, Ok, Err, List, [], ◌∷◌, ◌++◌, length, refl, sym, ap, ◌∙◌}
use Rattle.std.proofs.Common.{subst, arith}
use Rattle.std.specs.VecDeque.{deque_capacity}
use Rattle.lr_gatecore.specs.declared.sizes.TheConstants.{MOST_JOBS}
use Rattle.lr_bits.specs.File.{File}
use Rattle.lr_io.specs.declared.sink.Sink.{Ghosts as SinkOf}
use Rattle.lr_disk.specs.Reads.{IsOnlyRead}
use Rattle.lr_disk.specs.declared.disk.Disk.{Ghosts as DiskOf}
use Rattle.lr_image.specs.Images.{HasOutcome}
use Rattle.lr_image.specs.declared.fault.ImageFault.{ImageFault}
use Rattle.lr_render.specs.Plans.{PlanView, planned_strips}
use Rattle.lr_render.specs.declared.strip.StripSource.{StripSource}
use Rattle.lr_shelf_format.specs.Way.{Way}
use Rattle.lr_shelf_format.specs.declared.stored.Stored.{Stored}
use Rattle.lr_shelf.specs.Kept.{KeptShelf, kept_by}
use Rattle.lr_shelf.specs.declared.shelf.Shelf.{Shelf}
use Rattle.lr_causes.specs.declared.cause.Refusal.{Refusal}
use Rattle.lr_cmd_shelf.specs.declared.range.Range.{Range}
use Rattle.lr_cmd_shelf.specs.Queries.{Query, EntryView}
use Rattle.lr_cmd_shelf.specs.Reached.{SoFar, entries_run}
use Rattle.lr_rounds.specs.JobSources.{IsDoneNext, led}
use Rattle.lr_cmd_render.specs.declared.sizes.TheConstants.{MOST_ENTRIES, MOST_STRIPS}
use Rattle.lr_cmd_render.specs.Leading.{Ahead, AreAhead, RenderGoes, HasStripJobs, Imageless, IsSameBut, IsTally}
use Rattle.lr_cmd_render.specs.Leading.{RefusalMayWait, OnlyReadsDisk, Pending}
use Rattle.lr_cmd_render.specs.Leading.{PutsImages, Settles, AheadStandsAt, Vacant}
use Rattle.lr_cmd_render.specs.Leading.{count_in, images_under_way, imageless_in, jobs_left, pending_in, settled_to}
use Rattle.lr_cmd_render.specs.Leading.{way_of_source}
use Rattle.lr_cmd_render.specs.Outcomes.{PutsOutcome, tally_with}
use Rattle.lr_cmd_render.specs.Queues.{AllGiven, FirstKeeps, FirstWaits, LastGives, TakesFirst, all_left}
use Rattle.lr_cmd_render.specs.Queues.{files_under_way}
use Rattle.lr_cmd_render.specs.declared.render_source.RenderSource.{RenderSource}
use Rattle.lr_cmd_render.specs.declared.queue.Queue.{Queue}
use Rattle.lr_cmd_render.specs.declared.tally.Tally.{Tally}
use Rattle.lr_cmd_render.specs.declared.queue.UnderWay.{UnderWay}
use Rattle.lr_cmd_render.proofs.Queueing.{files-length}
use Rattle.lr_cmd_render.proofs.Jobs.{given_left, given_jobs, given_first, given_length, none_jobs, none_given}
use Rattle.lr_cmd_render.proofs.Jobs.{none_left, none_length, kept_length, kept_jobs, taken_kept, taken_files}
use Rattle.lr_cmd_render.proofs.Jobs.{taken_left, taken_length, taken_given, taken_jobs}
use Rattle.lr_causes.specs.Outside.{outlets_of, outlets}
use Rattle.lr_cmd_render.proofs.Settling.{FirstPending, first_pending, pending}

pending-length : (ahead : List Ahead) → length (pending_in ahead) ≤ length ahead
pending-length [] = omega arith
pending-length (Vacant ∷ ahead) = omega (arith, pending-length ahead)
pending-length (Imageless stored fault ∷ ahead) = omega (arith, pending-length ahead)
pending-length (Pending stored ∷ ahead) = omega (arith, pending-length ahead)

pub imageless-vacant : (ahead : List Ahead) → imageless_in (ahead ++ Vacant ∷ []) ≡ imageless_in ahead
imageless-vacant [] = refl
imageless-vacant (Vacant ∷ ahead) = imageless-vacant ahead
imageless-vacant (Imageless stored fault ∷ ahead) = omega (arith, imageless-vacant ahead)
imageless-vacant (Pending stored ∷ ahead) = imageless-vacant ahead

pub imageless-pending : (ahead : List Ahead) (stored : Stored)
    → imageless_in (ahead ++ Pending stored ∷ []) ≡ imageless_in ahead
imageless-pending [] stored = refl
imageless-pending (Vacant ∷ ahead) stored = imageless-pending ahead stored
imageless-pending (Imageless other fault ∷ ahead) stored = omega (arith, imageless-pending ahead stored)
imageless-pending (Pending other ∷ ahead) stored = imageless-pending ahead stored

imageless-more : (ahead : List Ahead) (stored : Stored) (fault : ImageFault)
    → imageless_in (ahead ++ Imageless stored fault ∷ []) ≡ imageless_in ahead + 1
imageless-more [] stored fault = refl
imageless-more (Vacant ∷ ahead) stored fault = imageless-more ahead stored fault
imageless-more (Imageless other first ∷ ahead) stored fault = omega (arith, imageless-more ahead stored fault)
imageless-more (Pending other ∷ ahead) stored fault = imageless-more ahead stored fault

pub tally_same : (ahead : List Ahead) (one : Ahead) (tally tally' : Tally) (read : List EntryView) → tally' ≡ tally
    → imageless_in (ahead ++ one ∷ []) ≡ imageless_in ahead → IsTally ahead tally read
    → IsTally (ahead ++ one ∷ []) tally' read
tally_same ahead one tally tally' read same none is = record {
  images = ap (λ (t : Tally). t.images) same ∙ is.images;
  skipped = omega (arith, ap (λ (t : Tally). t.skipped) same, is.skipped, none);
}

pub tally_skips : (ahead : List Ahead) (stored : Stored) (fault : ImageFault) (tally tally' : Tally)
    (read : List EntryView)
    → tally' ≡ record { images = tally.images; skipped = tally.skipped + 1 } → IsTally ahead tally read
    → IsTally (ahead ++ Imageless stored fault ∷ []) tally' read
tally_skips ahead stored fault tally tally' read same is = record {
  images = ap (λ (t : Tally). t.images) same ∙ is.images;
  skipped = omega (arith, ap (λ (t : Tally). t.skipped) same, is.skipped, imageless-more ahead stored fault);
}

pub ahead_push : {D : Type 0} (disk : DiskOf D) (way : Way) (d : D) (number : ℕ) (ahead : List Ahead) (one : Ahead)
    → AreAhead disk way d number ahead → AheadStandsAt disk way d (number + length ahead) one
    → AreAhead disk way d number (ahead ++ one ∷ [])
ahead_push disk way d number [] one are stands =
    (subst (λ (n : ℕ). AheadStandsAt disk way d n one) (omega arith) stands, tt)
ahead_push disk way d number (first ∷ ahead) one are stands = (
  are.0,
  ahead_push disk way d (number + 1) ahead one are.1
      (subst (λ (n : ℕ). AheadStandsAt disk way d n one) (omega arith) stands),
)

pub with_gathers : {D O : Type 0} (disk : DiskOf D) (out : SinkOf O) (query : Query) (way : Way) (range : Range)
    (d : D)
    (o : O) {gathers gathers' : List EntryView → Type 0} (number : ℕ) (o1 : O)
    (so : SoFar (outlets_of disk out) (entries_run query way range gathers) (outlets d o) number o1) → gathers' so.read
    → SoFar (outlets_of disk out) (entries_run query way range gathers') (outlets d o) number o1
with_gathers disk out query way range d o number o1 so gathered = record {
  read = so.read;
  text = so.text;
  gathered = gathered;
  few = so.few;
  after = so.after;
  puts = so.puts;
  untouched = so.untouched;
  reaches = so.reaches;
  texts = so.texts;
  joined = so.joined;
  all = so.all;
  seen = so.seen;
}

-- the job source with another queue
pub same_but_queue : {D O : Type 0} (old : RenderSource D O) (queue : Queue)
    → deque_capacity queue.images ≡ deque_capacity old.queue.images → IsSameBut old (record old { queue = queue })
same_but_queue old queue room =
    record { disk = refl; out = refl; shelf = refl; next = refl; refusal = refl; room = room }

module _ {D O : Type 0} (disk : DiskOf D) (out : SinkOf O) where
  -- ---- it goes on

  module _ {start before : RenderSource D O} {jobs : List StripSource} {kept : ℕ}
      (goes : RenderGoes disk out (led start jobs kept) before) where
    abbrev way : Way
    way = way_of_source start

    abbrev d : D
    d = start.disk.now

    -- as many entries as the shelf has
    pub count_is : count_in before ≡ count_in start
    count_is = ap (λ (k : KeptShelf). length k.way.entries) goes.reads.kept

    -- an image under way is that of an entry
    pub settled_less : 0 < length (images_under_way before) → goes.settled < count_in start
    settled_less some =
        omega (
          arith,
          some,
          files-length (images_under_way before),
          ap (λ (l : List File). length l) goes.has_jobs.files,
          pending-length goes.ahead,
          goes.reached,
          goes.inside,
        )

    -- the disk was only read
    pub reads_on : (now : RenderSource D O) → now.disk ≡ before.disk → now.shelf ≡ before.shelf
        → OnlyReadsDisk disk out start now
    reads_on now disk_is shelf_is = record {
      kept = ap kept_by shelf_is ∙ goes.reads.kept;
      tell = record {
        told = λ t. subst (λ (r : _). disk.tells r.now) (sym disk_is) (goes.reads.tell.told t);
        untold = λ t. goes.reads.tell.untold (subst (λ (r : _). disk.tells r.now) disk_is t);
      };
      only_read = subst (λ (r : _). IsOnlyRead disk d r.now) (sym disk_is) goes.reads.only_read;
      faults = ap (λ (r : _). disk.faults r.now) disk_is ∙ goes.reads.faults;
    }

    -- the images under way changed, and what was settled
    goes_on : (now : RenderSource D O) → IsSameBut before now → (ahead : List Ahead) (settled : ℕ)
        → AreAhead disk way d settled ahead → settled + length ahead ≡ before.next
        → Settles disk out start (settled_to ahead now.tally settled) now.out.now
        → (jobs' : List StripSource) (kept' : ℕ)
        → HasStripJobs jobs' kept' before.next ahead (images_under_way now)
        → now.tally.images + now.tally.skipped + length (images_under_way now) ≤ before.next
        → RenderGoes disk out (led start jobs' kept') now
    goes_on now same ahead settled are reached settles jobs' kept' has counted = record {
      same_disk = ap (λ (r : _). r.ghost_name) same.disk ∙ goes.same_disk;
      same_out = same.out ∙ goes.same_out;
      may = goes.may;
      reads = reads_on now same.disk same.shelf;
      ahead = ahead;
      settled = settled;
      are_ahead = are;
      reached = reached ∙ sym same.next;
      inside = subst (λ (n : ℕ). n ≤ count_in start) (sym same.next) goes.inside;
      settles = settles;
      refusal = subst (λ (n : ℕ). RefusalMayWait disk way d n now.refusal) (sym same.next)
          (subst (λ (r : Option Refusal). RefusalMayWait disk way d before.next r) (sym same.refusal)
          goes.refusal);
      has_jobs = subst (λ (n : ℕ). HasStripJobs jobs' kept' n ahead (images_under_way now)) (sym same.next) has;
      counted = subst (λ (n : ℕ). now.tally.images + now.tally.skipped + length (images_under_way now) ≤ n)
          (sym same.next) counted;
      room = subst (λ (n : ℕ). 0 < n) (sym same.room) goes.room;
    }

    -- and nothing was put
    goes_queue : (now : RenderSource D O) → IsSameBut before now → now.out.now ≡ before.out.now
        → now.tally ≡ before.tally → (jobs' : List StripSource) (kept' : ℕ)
        → HasStripJobs jobs' kept' before.next goes.ahead (images_under_way now)
        → length (images_under_way now) ≡ length (images_under_way before)
        → RenderGoes disk out (led start jobs' kept') now
    goes_queue now same out_is tally_is jobs' kept' has length_is =
        goes_on now same goes.ahead goes.settled goes.are_ahead goes.reached
        (subst (λ (o : O). Settles disk out start (settled_to goes.ahead now.tally goes.settled) o) (sym out_is)
        (subst (λ (t : Tally). Settles disk out start (settled_to goes.ahead t goes.settled) before.out.now)
        (sym tally_is)
        goes.settles)) jobs' kept' has
        (omega (arith, goes.counted, length_is, ap (λ (t : Tally). t.images + t.skipped) tally_is))

    -- ---- strips are given

    module _ (now : RenderSource D O) (same : IsSameBut before now) (out_is : now.out.now ≡ before.out.now)
        (tally_is : now.tally ≡ before.tally) where
      left_is : jobs_left now + all_left (images_under_way before)
          ≡ jobs_left before + all_left (images_under_way now)
      left_is = omega (
        arith,
        ap (λ (s : Shelf). MOST_STRIPS * (length (kept_by s).way.entries - now.next)) same.shelf,
        ap (λ (n : ℕ). MOST_STRIPS * (count_in before - n)) same.next,
      )

      module _ (strip : StripSource)
          (gives : LastGives (images_under_way before) (images_under_way now) (Some strip)) where
        pub gives_goes : RenderGoes disk out (led start (jobs ++ strip ∷ []) kept) now
        gives_goes =
            goes_queue now same out_is tally_is (jobs ++ strip ∷ []) kept
            (given_jobs jobs kept before.next goes.ahead (images_under_way before) (images_under_way now) goes.has_jobs
            strip gives)
            (given_length jobs kept before.next goes.ahead (images_under_way before) (images_under_way now)
            goes.has_jobs strip gives)

        gives_left : all_left (images_under_way now) + 1 ≡ all_left (images_under_way before)
        gives_left = given_left jobs kept before.next goes.ahead (images_under_way before) (images_under_way now)
            goes.has_jobs strip gives

        pub gives_first : FirstWaits (images_under_way before) → FirstWaits (images_under_way now)
        gives_first = given_first jobs kept before.next goes.ahead (images_under_way before) (images_under_way now)
            goes.has_jobs strip gives

        pub gives_fewer : jobs_left now < jobs_left before
        gives_fewer = omega (arith, left_is, gives_left)

      -- ---- a strip is kept

      module _ (done : StripSource) (is : IsDoneNext (λ strip. strip) jobs kept done)
          (keeps : FirstKeeps (images_under_way before) (images_under_way now))
          (waits : 0 < keeps.first.waiting) where
        pub keeps_goes : RenderGoes disk out (led start jobs (kept + 1)) now
        keeps_goes =
            goes_queue now same out_is tally_is jobs (kept + 1)
            (kept_jobs jobs kept before.next goes.ahead (images_under_way before) goes.has_jobs done is
            (images_under_way now) keeps waits)
            (kept_length jobs kept before.next goes.ahead (images_under_way before) goes.has_jobs done is
            (images_under_way now) keeps waits)

    pub few_jobs : length jobs < MOST_JOBS
    few_jobs = omega (arith, goes.has_jobs.few, goes.inside, goes.may.few)

    -- the queue gives none
    module _ (queue : Queue) (room : deque_capacity queue.images ≡ deque_capacity before.queue.images)
        (gives : LastGives (images_under_way before) queue.images.items None) where
      same_queue : IsSameBut before (record before { queue = queue })
      same_queue = same_but_queue before queue room

      pub none_goes : RenderGoes disk out (led start jobs kept) (record before { queue = queue })
      none_goes =
          goes_queue (record before { queue = queue }) same_queue refl refl jobs kept
          (none_jobs jobs kept before.next goes.ahead (images_under_way before) queue.images.items goes.has_jobs gives)
          (none_length jobs kept before.next goes.ahead (images_under_way before) queue.images.items goes.has_jobs
          gives)

      pub none_all_given : AllGiven queue.images.items
      none_all_given =
          none_given jobs kept before.next goes.ahead (images_under_way before) queue.images.items goes.has_jobs gives

      pub none_fewer : jobs_left (record before { queue = queue }) ≤ jobs_left before
      none_fewer = omega (
        arith,
        left_is (record before { queue = queue }) same_queue refl refl,
        none_left jobs kept before.next goes.ahead (images_under_way before) queue.images.items goes.has_jobs gives,
      )

    -- ---- an image is put

    module _ (plan : PlanView) (now : RenderSource D O) (same : IsSameBut before now)
        (takes : TakesFirst (images_under_way before) (images_under_way now) plan) where
      pub first_is : FirstPending disk out start before.tally before.next before.out.now plan.file
          (files_under_way (images_under_way now))
      first_is =
          first_pending disk out start goes.ahead before.tally goes.settled before.next before.out.now plan.file
          (files_under_way (images_under_way now)) goes.reached goes.inside goes.are_ahead goes.settles
          (taken_files jobs kept before.next goes.ahead (images_under_way before) (images_under_way now) plan
          goes.has_jobs takes)

      pub first_there : first_is.number < count_in start
      first_there = omega (arith, first_is.reached, goes.inside)

      outcome_counted : (o' : O) (puts : PutsOutcome out plan.file before.tally now.tally before.out.now o')
          → now.tally.images + now.tally.skipped ≡ before.tally.images + before.tally.skipped + 1
      outcome_counted o' puts = one_more puts.outcome puts.counted where
        one_more : (outcome : _) → now.tally ≡ tally_with outcome before.tally
            → now.tally.images + now.tally.skipped ≡ before.tally.images + before.tally.skipped + 1
        one_more (Ok picture) is = omega (arith, ap (λ (t : Tally). t.images + t.skipped) is)
        one_more (Err fault) is = omega (arith, ap (λ (t : Tally). t.images + t.skipped) is)

      pub puts_goes : PutsOutcome out plan.file before.tally now.tally before.out.now now.out.now
          → RenderGoes disk out (led start jobs kept) now
      puts_goes puts =
          let first = first_is in
          goes_on now same first.rest (first.number + 1) first.are_ahead (omega (arith, first.reached))
          (subst (λ (t : Tally). Settles disk out start (settled_to first.rest t (first.number + 1)) now.out.now)
          (sym puts.counted)
          (pending disk out start first.number first_there before.out.now first.stored puts.outcome first.rest
          before.tally now.out.now first.settles first.stands
          (subst (λ (f : File). HasOutcome f puts.outcome) (sym first.file_is) puts.has) puts.puts)) jobs kept
          (taken_jobs jobs kept before.next goes.ahead (images_under_way before) (images_under_way now) plan
          goes.has_jobs takes first.rest first.files_are)
          (omega (
            arith,
            goes.counted,
            outcome_counted now.out.now puts,
            taken_length jobs kept before.next goes.ahead (images_under_way before) (images_under_way now) plan
                goes.has_jobs takes,
          ))

      pub puts_kept : plan.kept ≡ length (planned_strips plan)
      puts_kept = taken_kept jobs kept before.next goes.ahead (images_under_way before) (images_under_way now) plan
          goes.has_jobs takes

      pub puts_images : PutsImages before now
      puts_images = record {
        same = same;
        left = taken_left jobs kept before.next goes.ahead (images_under_way before) (images_under_way now) plan
            goes.has_jobs takes;
        given = taken_given jobs kept before.next goes.ahead (images_under_way before) (images_under_way now) plan
            goes.has_jobs takes;
      }

      -- what is counted stays a number of 64 bits
      pub few_counted : before.tally.images + before.tally.skipped + 1 < 2 ^ 64
      few_counted =
          omega (
            arith,
            goes.counted,
            goes.inside,
            goes.may.few,
            taken_length jobs kept before.next goes.ahead (images_under_way before) (images_under_way now) plan
                goes.has_jobs takes,
          )

    -- nothing changed but where the images stand in memory
    pub still_goes : (now : RenderSource D O) → IsSameBut before now → now.out.now ≡ before.out.now
        → now.tally ≡ before.tally → images_under_way now ≡ images_under_way before
        → RenderGoes disk out (led start jobs kept) now
    still_goes now same out_is tally_is is =
        goes_queue now same out_is tally_is jobs kept
        (subst (HasStripJobs jobs kept before.next goes.ahead) (sym is) goes.has_jobs)
        (ap (λ (l : List UnderWay). length l) is)

    pub few_entries : before.next ≤ count_in before → before.next < MOST_ENTRIES + 1
    few_entries inside = omega (arith, inside, count_is, goes.may.few)
