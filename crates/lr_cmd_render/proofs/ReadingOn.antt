-- One entry more is read.
use Rattle.std.proofs.Common.{◌≡◌, ◌<◌, ◌≤◌, ◌+◌, ℕ}
use Rattle.std.proofs.Common.{Some, None, Err, List, [], ◌∷◌, ◌++◌, length, refl, sym, ap, ◌∙◌}
use Rattle.std.proofs.Common.{subst, arith, length-append}
use Rattle.std.specs.VecDeque.{deque_capacity}
use Rattle.lr_bits.proofs.Telling.{tells_both}
use Rattle.lr_io.specs.declared.sink.Sink.{Ghosts as SinkOf}
use Rattle.lr_disk.specs.declared.disk.Disk.{Ghosts as DiskOf}
use Rattle.lr_disk.proofs.Moments.{only_read_joined}
use Rattle.lr_render.specs.declared.strip.StripSource.{StripSource}
use Rattle.lr_shelf_format.specs.Way.{Way, IsFound, Sound, Gone as GoneThere}
use Rattle.lr_shelf.specs.Kept.{KeptShelf}
use Rattle.lr_shelf.specs.declared.shelf.Shelf.{Shelf}
use Rattle.lr_causes.specs.declared.cause.Refusal.{Refusal}
use Rattle.lr_cmd_shelf.specs.Queries.{IsSeen, EntryView, entry_at, fate_of}
use Rattle.lr_cmd_render.specs.Render.{render_query}
use Rattle.lr_cmd_shelf.specs.Steps.{ReadsOnly}
use Rattle.lr_rounds.specs.JobSources.{led}
use Rattle.lr_cmd_render.specs.Contents.{IsContent, IsRefusedAt}
use Rattle.lr_cmd_render.specs.Leading.{Ahead, RenderGoes, HasStripJobs}
use Rattle.lr_cmd_render.specs.Leading.{Imageless, IsTally, IsContentTaken, RefusalMayWait}
use Rattle.lr_cmd_render.specs.Leading.{OnlyReadsDisk, Pending, ReadsOne, Settles, AheadStandsAt, TakesIn, Vacant}
use Rattle.lr_cmd_render.specs.Leading.{count_in, images_under_way, refusals_left, settled_to, way_of_source}
use Rattle.lr_cmd_render.specs.Queues.{AllGiven, FirstWaits, all_left, image_of}
use Rattle.lr_cmd_render.specs.declared.content.Content.{Content}
use Rattle.lr_cmd_render.specs.declared.content.Content.TheVariants.{Gone, NoImage, Image}
use Rattle.lr_cmd_render.specs.declared.render_source.RenderSource.{RenderSource}
use Rattle.lr_cmd_render.specs.declared.queue.Queue.{Queue}
use Rattle.lr_cmd_render.specs.declared.tally.Tally.{Tally}
use Rattle.lr_cmd_render.specs.declared.queue.UnderWay.{UnderWay}
use Rattle.lr_cmd_render.proofs.Queueing.{first_join, left-push}
use Rattle.lr_cmd_render.proofs.Jobs.{pending-vacant, pending-imageless, passed_jobs, joined_jobs}
use Rattle.lr_cmd_render.proofs.UnderWay.{imageless-vacant, imageless-pending, tally_same, tally_skips, ahead_push}
use Rattle.lr_cmd_render.proofs.UnderWay.{with_gathers, count_is}

module _ {D O : Type 0} (disk : DiskOf D) (out : SinkOf O) where
  module _ (reads_on : (x y z : D) → disk.only_read x y → disk.only_read y z → disk.only_read x z)
      {start before : RenderSource D O} {jobs : List StripSource} {kept : ℕ}
      (goes : RenderGoes disk out (led start jobs kept) before) where
    abbrev way : Way
    way = way_of_source start

    abbrev d : D
    d = start.disk.now

    -- ---- an entry is read

    -- what was found on the disk as it is was there from the start
    found_at_start : {A : Type 0} (found : List ℕ → Way → A → Type 0) (a : A)
        → (disk.tells before.disk.now → found (disk.contents before.disk.now) (way_of_source before) a) → disk.tells d
        → found (disk.contents d) way a
    found_at_start found a there t =
        subst (λ (b : List ℕ). found b way a) (goes.reads.only_read.unwritten t).contents
        (subst (λ (k : KeptShelf). found (disk.contents before.disk.now) k.way a) goes.reads.kept
        (there (goes.reads.tell.told t)))

    module _ (now : RenderSource D O) (disk_name : now.disk.ghost_name ≡ before.disk.ghost_name)
        (out_name : now.out.ghost_name ≡ before.out.ghost_name) (out_is : now.out.now ≡ before.out.now)
        (only : ReadsOnly disk before.shelf now.shelf before.disk.now now.disk.now)
        (faults_are : disk.faults now.disk.now ≡ disk.faults before.disk.now)
        (room_is : deque_capacity now.queue.images ≡ deque_capacity before.queue.images) where
      reads_more : OnlyReadsDisk disk out start now
      reads_more = record {
        kept = only.kept ∙ goes.reads.kept;
        tell = tells_both goes.reads.tell only.tell;
        only_read = only_read_joined disk reads_on d before.disk.now now.disk.now goes.reads.tell.told
            goes.reads.only_read only.only_read;
        faults = faults_are ∙ goes.reads.faults;
      }

      -- one entry more is ahead
      reads_one : now.next ≡ before.next + 1 → now.refusal ≡ None → before.next < count_in start → (one : Ahead)
          → AheadStandsAt disk way d before.next one
          → ((read : List EntryView) → IsTally goes.ahead before.tally read
          → IsTally (goes.ahead ++ one ∷ []) now.tally read)
          → HasStripJobs jobs kept (before.next + 1) (goes.ahead ++ one ∷ []) (images_under_way now)
          → now.tally.images + now.tally.skipped + length (images_under_way now) ≤ before.next + 1
          → RenderGoes disk out (led start jobs kept) now
      reads_one next_is none there one stands tally has counted = record {
        same_disk = disk_name ∙ goes.same_disk;
        same_out = out_name ∙ goes.same_out;
        may = goes.may;
        reads = reads_more;
        ahead = goes.ahead ++ one ∷ [];
        settled = goes.settled;
        are_ahead = ahead_push disk way d goes.settled goes.ahead one goes.are_ahead
            (subst (λ (n : ℕ). AheadStandsAt disk way d n one) (sym goes.reached) stands);
        reached = omega (arith, goes.reached, next_is, length-append goes.ahead (one ∷ []));
        inside = omega (arith, next_is, there);
        settles = subst
            (λ (o : O). Settles disk out start (settled_to (goes.ahead ++ one ∷ []) now.tally goes.settled) o)
            (sym out_is)
            (with_gathers disk out render_query way (record { from = 0; to = count_in start }) d start.out.now
            goes.settled before.out.now goes.settles (tally goes.settles.read goes.settles.gathered));
        refusal = subst (RefusalMayWait disk way d now.next) (sym none) tt;
        has_jobs = subst (λ (n : ℕ). HasStripJobs jobs kept n (goes.ahead ++ one ∷ []) (images_under_way now))
            (sym next_is)
            has;
        counted = omega (arith, next_is, counted);
        room = omega (arith, room_is, goes.room);
      }

      module _ (next_is : now.next ≡ before.next + 1) (none : now.refusal ≡ None)
          (there : before.next < count_in start) where
        images_are : (images : List UnderWay) → images_under_way now ≡ images → (next : ℕ) (ahead : List Ahead)
            → HasStripJobs jobs kept next ahead images → HasStripJobs jobs kept next ahead (images_under_way now)
        images_are images is next ahead has = subst (HasStripJobs jobs kept next ahead) (sym is) has

        pub reads_content : (content : Content)
            → IsContent disk (way_of_source before) before.next before.disk.now content
            → IsContentTaken content before now
            → AllGiven (images_under_way before) → RenderGoes disk out (led start jobs kept) now
        reads_content Gone gone taken given =
            reads_one next_is none there Vacant
            (found_at_start (λ b w e. IsFound b (entry_at w before.next) (Some e)) GoneThere gone)
            (λ read is. tally_same goes.ahead Vacant before.tally now.tally read taken.0
            (imageless-vacant goes.ahead) is)
            (images_are (images_under_way before) taken.1 (before.next + 1) (goes.ahead ++ Vacant ∷ [])
            (passed_jobs jobs kept before.next goes.ahead (images_under_way before) goes.has_jobs Vacant
            (pending-vacant goes.ahead)))
            (omega (
              arith,
              goes.counted,
              ap (λ (t : Tally). t.images + t.skipped) taken.0,
              ap (λ (l : List UnderWay). length l) taken.1,
            ))
        reads_content NoImage found taken given =
            let stored = found.0 in
            let fault = found.2.0 in
            reads_one next_is none there (Imageless stored fault)
            (found_at_start (λ b w e. IsFound b (entry_at w before.next) (Some e)) (Sound stored) found.1, found.2.1)
            (λ read is. tally_skips goes.ahead stored fault before.tally now.tally read taken.0 is)
            (images_are (images_under_way before) taken.1 (before.next + 1)
            (goes.ahead ++ Imageless stored fault ∷ [])
            (passed_jobs jobs kept before.next goes.ahead (images_under_way before) goes.has_jobs
            (Imageless stored fault) (pending-imageless goes.ahead stored fault)))
            (omega (
              arith,
              goes.counted,
              ap (λ (t : Tally). t.images + t.skipped) taken.0,
              ap (λ (l : List UnderWay). length l) taken.1,
            ))
        reads_content (Image plan) found taken given =
            let stored = found.0 in
            reads_one next_is none there (Pending stored)
            (found_at_start (λ b w e. IsFound b (entry_at w before.next) (Some e)) (Sound stored) found.1)
            (λ read is. tally_same goes.ahead (Pending stored) before.tally now.tally read taken.0
            (imageless-pending goes.ahead stored) is)
            (images_are (images_under_way before ++ image_of plan ∷ []) taken.1 (before.next + 1)
            (goes.ahead ++ Pending stored ∷ [])
            (joined_jobs jobs kept before.next goes.ahead (images_under_way before) goes.has_jobs stored plan found.2
            given))
            (omega (
              arith,
              goes.counted,
              ap (λ (t : Tally). t.images + t.skipped) taken.0,
              ap (λ (l : List UnderWay). length l) taken.1,
              length-append (images_under_way before) (image_of plan ∷ []),
            ))

        joins_first : (content : Content) → IsContentTaken content before now → FirstWaits (images_under_way before)
            → FirstWaits (images_under_way now)
        joins_first Gone taken first = subst FirstWaits (sym taken.1) first
        joins_first NoImage taken first = subst FirstWaits (sym taken.1) first
        joins_first (Image plan) taken first =
            subst FirstWaits (sym taken.1) (first_join (images_under_way before) (image_of plan) refl first)

        joins_left : (content : Content) → IsContentTaken content before now
            → all_left (images_under_way now) ≤ all_left (images_under_way before) + 65535
        joins_left Gone taken = omega (arith, ap all_left taken.1)
        joins_left NoImage taken = omega (arith, ap all_left taken.1)
        joins_left (Image plan) taken =
            omega (arith, ap all_left taken.1, left-push (images_under_way before) (image_of plan))

        pub reads_one_more : before.refusal ≡ None → (content : Content) → IsContentTaken content before now
            → ReadsOne before now
        reads_one_more was content taken =
            let counts : count_in now ≡ count_in before = ap (λ (k : KeptShelf). length k.way.entries) only.kept in
            record {
              first = joins_first content taken;
              left = omega (arith, counts, count_is disk out goes, next_is, there, joins_left content taken);
              fewer = omega (
                arith,
                counts,
                count_is disk out goes,
                next_is,
                there,
                ap refusals_left none,
                ap refusals_left was,
              );
            }

      -- or it is refused, and that waits
      pub reads_refusal : now.next ≡ before.next → now.tally ≡ before.tally
          → images_under_way now ≡ images_under_way before → before.next < count_in start → (refusal : Refusal)
          → now.refusal ≡ Some refusal → IsRefusedAt disk (way_of_source before) before.next before.disk.now refusal
          → RenderGoes disk out (led start jobs kept) now
      reads_refusal next_is tally_is images_are there refusal is refused = record {
        same_disk = disk_name ∙ goes.same_disk;
        same_out = out_name ∙ goes.same_out;
        may = goes.may;
        reads = reads_more;
        ahead = goes.ahead;
        settled = goes.settled;
        are_ahead = goes.are_ahead;
        reached = goes.reached ∙ sym next_is;
        inside = omega (arith, next_is, goes.inside);
        settles = subst (Settles disk out start (settled_to goes.ahead now.tally goes.settled)) (sym out_is)
            (subst (λ (t : Tally). Settles disk out start (settled_to goes.ahead t goes.settled) before.out.now)
            (sym tally_is)
            goes.settles);
        refusal = subst (RefusalMayWait disk way d now.next) (sym is) (
          omega (arith, next_is, there),
          subst (λ (n : ℕ). IsRefusedAt disk way n d refusal) (sym next_is) (record {
            seen = refused.seen;
            was = record {
              sight = refused.was.sight;
              stands = found_at_start
                  (λ b w s. IsSeen render_query.sees b (entry_at w before.next) s) refused.seen refused.was.stands;
            };
            fate = λ read. subst
                (λ (k : KeptShelf). fate_of render_query k.way read before.next refused.seen ≡ Err refusal)
                goes.reads.kept (refused.fate read);
          }),
        );
        has_jobs = subst (λ (n : ℕ). HasStripJobs jobs kept n goes.ahead (images_under_way now)) (sym next_is)
            (subst (HasStripJobs jobs kept before.next goes.ahead) (sym images_are) goes.has_jobs);
        counted = omega (
          arith,
          next_is,
          goes.counted,
          ap (λ (t : Tally). t.images + t.skipped) tally_is,
          ap (λ (l : List UnderWay). length l) images_are,
        );
        room = omega (arith, room_is, goes.room);
      }

      pub refusal_more : now.next ≡ before.next → images_under_way now ≡ images_under_way before
          → before.next < count_in start → (refusal : Refusal) → before.refusal ≡ None → now.refusal ≡ Some refusal
          → ReadsOne before now
      refusal_more next_is images_are there refusal was is =
          let counts : count_in now ≡ count_in before = ap (λ (k : KeptShelf). length k.way.entries) only.kept in
          record {
            first = λ first. subst FirstWaits (sym images_are) first;
            left = omega (arith, counts, next_is, ap all_left images_are);
            fewer = omega (
              arith,
              counts,
              count_is disk out goes,
              next_is,
              there,
              ap refusals_left is,
              ap refusals_left was,
            );
          }

  -- an entry was read and taken in
  module _ (reads_on : (x y z : D) → disk.only_read x y → disk.only_read y z → disk.only_read x z)
      {start before : RenderSource D O} {jobs : List StripSource} {kept : ℕ}
      (goes : RenderGoes disk out (led start jobs kept) before) (mid now : RenderSource D O)
      (disk_name : mid.disk.ghost_name ≡ before.disk.ghost_name) (out_is : mid.out ≡ before.out)
      (next_is : mid.next ≡ before.next) (tally_is : mid.tally ≡ before.tally) (queue_is : mid.queue ≡ before.queue)
      (none : mid.refusal ≡ None) (only : ReadsOnly disk before.shelf mid.shelf before.disk.now mid.disk.now)
      (faults_are : disk.faults mid.disk.now ≡ disk.faults before.disk.now) (more : before.next < count_in before)
      (content : Content) (takes : TakesIn content mid now) where
    taken_only : ReadsOnly disk before.shelf now.shelf before.disk.now now.disk.now
    taken_only = subst (λ (s : Shelf). ReadsOnly disk before.shelf s before.disk.now now.disk.now) (sym takes.shelf)
        (subst (λ (r : _). ReadsOnly disk before.shelf mid.shelf before.disk.now r.now) (sym takes.disk) only)

    taken_is : (content : Content) → IsContentTaken content mid now → IsContentTaken content before now
    taken_is Gone taken = (taken.0 ∙ tally_is, taken.1 ∙ ap (λ (q : Queue). q.images.items) queue_is)
    taken_is NoImage taken = (
      taken.0 ∙ ap (λ (t : Tally). record { images = t.images; skipped = t.skipped + 1 }) tally_is,
      taken.1 ∙ ap (λ (q : Queue). q.images.items) queue_is,
    )
    taken_is (Image plan) taken = (
      taken.0 ∙ tally_is,
      taken.1 ∙ ap (λ (q : Queue). q.images.items ++ image_of plan ∷ []) queue_is,
    )

    more_there : before.next < count_in start
    more_there = omega (arith, more, count_is disk out goes)

    pub takes_goes : IsContent disk (way_of_source before) before.next before.disk.now content
        → AllGiven (images_under_way before) → RenderGoes disk out (led start jobs kept) now
    takes_goes found given =
        reads_content reads_on goes now (ap (λ (r : _). r.ghost_name) takes.disk ∙ disk_name)
        (ap (λ (r : _). r.ghost_name) takes.out ∙ ap (λ (r : _). r.ghost_name) out_is)
        (ap (λ (r : _). r.now) takes.out ∙ ap (λ (r : _). r.now) out_is) taken_only
        (ap (λ (r : _). disk.faults r.now) takes.disk ∙ faults_are)
        (takes.room ∙ ap (λ (q : Queue). deque_capacity q.images) queue_is)
        (takes.next ∙ ap (λ (n : ℕ). n + 1) next_is) (takes.refusal ∙ none) more_there content found
        (taken_is content takes.taken) given

    pub takes_one : before.refusal ≡ None → ReadsOne before now
    takes_one was =
        reads_one_more reads_on goes now (ap (λ (r : _). r.ghost_name) takes.disk ∙ disk_name)
        (ap (λ (r : _). r.ghost_name) takes.out ∙ ap (λ (r : _). r.ghost_name) out_is)
        (ap (λ (r : _). r.now) takes.out ∙ ap (λ (r : _). r.now) out_is) taken_only
        (ap (λ (r : _). disk.faults r.now) takes.disk ∙ faults_are)
        (takes.room ∙ ap (λ (q : Queue). deque_capacity q.images) queue_is)
        (takes.next ∙ ap (λ (n : ℕ). n + 1) next_is) (takes.refusal ∙ none) more_there was content
        (taken_is content takes.taken)
