-- The job source stops, ends and begins.
use Rattle.std.proofs.Common.{◌≡◌, inl, ◌<◌, ◌≤◌, ◌+◌, ℕ}
use Rattle.std.proofs.Common.{Option, Some, None, Ok, List, [], ◌∷◌, length, refl, sym, ap, ◌∙◌}
use Rattle.std.proofs.Common.{subst, arith, append-nil}
use Rattle.std.proofs.lemmas.List.{drop_all}
use Rattle.std.specs.VecDeque.{deque_capacity}
use Rattle.lr_bits.specs.File.{File}
use Rattle.lr_bits.specs.Faults.{Rose}
use Rattle.lr_bits.proofs.Telling.{tells_still}
use Rattle.lr_io.specs.declared.sink.Sink.{Ghosts as SinkOf}
use Rattle.lr_disk.specs.Reads.{IsOnlyRead}
use Rattle.lr_disk.specs.declared.disk.Disk.{Ghosts as DiskOf}
use Rattle.lr_disk.proofs.Moments.{only_read_joined, only_read_yet}
use Rattle.lr_image.specs.Images.{HasOutcome}
use Rattle.lr_render.specs.Plans.{PlanView}
use Rattle.lr_render.specs.declared.strip.StripSource.{StripSource}
use Rattle.lr_shelf_format.specs.Way.{Way}
use Rattle.lr_causes.specs.declared.cause.Cause.{Cause}
use Rattle.lr_causes.specs.declared.cause.Cause.TheVariants.{Done, DoneWith, Usage, Failed, NoMemory, Refused}
use Rattle.lr_causes.specs.declared.cause.Party.TheVariants.{Source, Disk, Output}
use Rattle.lr_causes.specs.declared.cause.Refusal.{Refusal}
use Rattle.lr_causes.specs.declared.note.Note.TheVariants.{Rendered}
use Rattle.lr_cmd_shelf.specs.Queries.{Whole, query_on}
use Rattle.lr_causes.specs.Outside.{outlet_counts, outlets, outlets_of}
use Rattle.lr_cmd_shelf.specs.Files.{files_of}
use Rattle.lr_cmd_render.specs.Render.{image_text, images_in, render_query, skipped_in}
use Rattle.lr_causes.specs.Counts.{CountsTell, NoneBesides}
use Rattle.lr_cmd_shelf.specs.Runs.{RunsOn}
use Rattle.lr_cmd_shelf.specs.Steps.{EntryStops, ReadsOnly, standing_at}
use Rattle.lr_cmd_shelf.proofs.Taking.{entry_stopped, last_taken, so_first}
use Rattle.lr_cmd_shelf.proofs.Texts.{disk_counts, quiet_counts, stops_seen, text_counted}
use Rattle.lr_rounds.specs.JobSources.{EndsWell, led}
use Rattle.lr_cmd_render.specs.Contents.{ReadStops}
use Rattle.lr_cmd_render.specs.Leading.{Ahead, RenderGoes, HasStripJobs, IsRenderOver, IsSameBut, IsTally, MayBeLed}
use Rattle.lr_cmd_render.specs.Leading.{RefusalMayWait, Pending, Settles, Stands, StopsFor, count_in, images_under_way}
use Rattle.lr_cmd_render.specs.Leading.{render_terms, settled_to, way_of_source}
use Rattle.lr_cmd_render.specs.Outcomes.{OutcomeStops}
use Rattle.lr_cmd_render.specs.Queues.{FirstWaits, TakesFirst, files_under_way}
use Rattle.lr_cmd_render.specs.declared.render_source.RenderSource.{RenderSource}
use Rattle.lr_cmd_render.specs.declared.tally.Tally.{Tally}
use Rattle.lr_cmd_render.specs.declared.queue.UnderWay.{UnderWay}
use Rattle.lr_cmd_render.proofs.Jobs.{none_under_way}
use Rattle.lr_cmd_render.proofs.Settling.{none_pending, opened_with}
use Rattle.lr_cmd_render.proofs.UnderWay.{count_is, settled_less, reads_on, first_is, first_there}

module _ {D O : Type 0} (disk : DiskOf D) (out : SinkOf O) where
  -- ---- it stops

  module _ (only_now : (x : D) (c : List ℕ) → disk.tells x → disk.left_since x (disk.moment x) c → disk.may_leave x c)
      (reads_none : (x : D) → disk.only_read x x)
      (reads_then : (x y z : D) → disk.only_read x y → disk.only_read y z → disk.only_read x z)
      {start before : RenderSource D O} {jobs : List StripSource} {kept : ℕ}
      (goes : RenderGoes disk out (led start jobs kept) before) where
    stops_with : (now : RenderSource D O) → now.disk.ghost_name ≡ before.disk.ghost_name
        → now.out.ghost_name ≡ before.out.ghost_name
        → (disk.tells start.disk.now → disk.tells now.disk.now)
        → (disk.tells now.disk.now → disk.tells start.disk.now)
        → IsOnlyRead disk start.disk.now now.disk.now
        → (ahead : List Ahead) (tally : Tally) (number : ℕ) (o1 : O) → number < count_in start
        → (so : Settles disk out start (settled_to ahead tally number) o1) → (cause : Cause)
        → EntryStops (outlets_of disk out) (standing_at render_query (way_of_source start) so.read number) cause
        (outlets start.disk.now o1)
        (outlets now.disk.now now.out.now)
        → CountsTell NoneBesides cause (outlet_counts (outlets_of disk out) (outlets start.disk.now o1))
        (outlet_counts (outlets_of disk out) (outlets now.disk.now now.out.now))
        → StopsFor disk out start cause now
    stops_with now disk_name out_name told untold only_read ahead tally number o1 there so cause stops counted
        = record {
          same_disk = disk_name ∙ goes.same_disk;
          same_out = out_name ∙ goes.same_out;
          runs = entry_stopped disk out render_query (way_of_source start) start.disk.now start.out.now
              (record { from = 0; to = count_in start }) refl (IsTally ahead tally) number start.disk.now o1
              now.out.now
              so (λ t. t) (λ t. t) (only_read_yet disk only_now start.disk.now (reads_none start.disk.now)) refl
              reads_then now.disk.now there told untold only_read cause stops counted;
        }

    -- memory was refused where an image is under way
    pub memory_stops : (now : RenderSource D O) → now.disk ≡ before.disk → now.out ≡ before.out
        → now.shelf ≡ before.shelf → 0 < length (images_under_way before) → StopsFor disk out start NoMemory now
    memory_stops now disk_is out_is shelf_is some =
        let reads = reads_on disk out goes now disk_is shelf_is in
        stops_with now (ap (λ (r : _). r.ghost_name) disk_is) (ap (λ (r : _). r.ghost_name) out_is) reads.tell.told
        reads.tell.untold reads.only_read goes.ahead before.tally goes.settled before.out.now
        (settled_less disk out goes some) goes.settles NoMemory (ap (λ (r : _). r.now) out_is)
        (quiet_counts disk out NoMemory start.disk.now now.disk.now before.out.now now.out.now tt reads.faults
        (ap (λ (r : _). out.faults r.now) out_is))

    -- an image wasn't put
    pub outcome_stops : (plan : PlanView) (mid now : RenderSource D O) → IsSameBut before mid
        → TakesFirst (images_under_way before) (images_under_way mid) plan → now.disk ≡ before.disk
        → now.out.ghost_name ≡ before.out.ghost_name → now.shelf ≡ before.shelf → (cause : Cause)
        → OutcomeStops out plan.file cause before.out.now now.out.now → StopsFor disk out start cause now
    outcome_stops plan mid now same takes disk_is out_name shelf_is cause stops =
        let first = first_is disk out goes plan mid same takes in
        let reads = reads_on disk out goes now disk_is shelf_is in
        let opened = opened_with first.stored stops.outcome in
        let fate = Ok (image_text (Some stops.outcome)) in
        let has = subst (λ (f : File). HasOutcome f stops.outcome) (sym first.file_is) stops.has in
        stops_with now (ap (λ (r : _). r.ghost_name) disk_is) out_name reads.tell.told reads.tell.untold reads.only_read
        (Pending first.stored ∷ first.rest) before.tally first.number before.out.now
        (first_there disk out goes plan mid same takes) first.settles cause
        (stops_seen disk out render_query (way_of_source start) first.settles.read first.number start.disk.now
        now.disk.now before.out.now now.out.now (Some (Whole opened))
        (record { sight = has; stands = λ t. (first.stands t, has) }) cause stops.stops)
        (text_counted disk out fate start.disk.now now.disk.now before.out.now now.out.now reads.faults cause
        stops.stops)

    -- the next entry wasn't read
    pub read_stops : (now : RenderSource D O) → now.disk.ghost_name ≡ before.disk.ghost_name
        → now.out ≡ before.out → ReadsOnly disk before.shelf now.shelf before.disk.now now.disk.now
        → before.next < count_in start → (cause : Cause) → ((refusal : Refusal) → cause ≡ Refused refusal → ⊥)
        → ReadStops disk (way_of_source before) before.next cause before.disk.now now.disk.now
        → StopsFor disk out start cause now
    read_stops now disk_name out_is only there cause other stops =
        stops_with now disk_name (ap (λ (r : _). r.ghost_name) out_is) (λ t. only.tell.told (goes.reads.tell.told t))
        (λ t. goes.reads.tell.untold (only.tell.untold t))
        (only_read_joined disk reads_then start.disk.now before.disk.now now.disk.now goes.reads.tell.told
        goes.reads.only_read only.only_read)
        goes.ahead before.tally goes.settled before.out.now (omega (arith, goes.reached, there)) goes.settles cause
        (stays cause other stops) (counted cause other stops)
      where
        still : now.out.now ≡ before.out.now
        still = ap (λ (r : _). r.now) out_is

        stays : (cause : Cause) → ((refusal : Refusal) → cause ≡ Refused refusal → ⊥)
            → ReadStops disk (way_of_source before) before.next cause before.disk.now now.disk.now
            → EntryStops (outlets_of disk out)
            (standing_at render_query (way_of_source start) goes.settles.read goes.settled) cause
            (outlets start.disk.now before.out.now) (outlets now.disk.now now.out.now)
        stays Done other stops = absurd stops
        stays (DoneWith note) other stops = absurd stops
        stays Usage other stops = absurd stops
        stays (Failed Source) other stops = absurd stops
        stays (Failed Disk) other stops = still
        stays (Failed Output) other stops = absurd stops
        stays NoMemory other stops = still
        stays (Refused refusal) other stops = absurd (other refusal refl)

        counted : (cause : Cause) → ((refusal : Refusal) → cause ≡ Refused refusal → ⊥)
            → ReadStops disk (way_of_source before) before.next cause before.disk.now now.disk.now
            → CountsTell NoneBesides cause (outlet_counts (outlets_of disk out)
            (outlets start.disk.now before.out.now))
            (outlet_counts (outlets_of disk out) (outlets now.disk.now now.out.now))
        counted Done other stops = absurd stops
        counted (DoneWith note) other stops = absurd stops
        counted Usage other stops = absurd stops
        counted (Failed Source) other stops = absurd stops
        counted (Failed Disk) other stops =
            disk_counts disk out start.disk.now now.disk.now before.out.now now.out.now
            (subst (λ (n : ℕ). Rose n (disk.faults now.disk.now)) goes.reads.faults stops) (ap out.faults still)
        counted (Failed Output) other stops = absurd stops
        counted NoMemory other stops =
            quiet_counts disk out NoMemory start.disk.now now.disk.now before.out.now now.out.now tt
            (stops ∙ goes.reads.faults) (ap out.faults still)
        counted (Refused refusal) other stops = absurd (other refusal refl)

    -- ---- nothing is under way

    settles_all : images_under_way before ≡ []
        → Settles disk out start (settled_to [] before.tally before.next) before.out.now
    settles_all none =
        none_pending disk out start goes.ahead before.tally goes.settled before.next before.out.now goes.reached
        goes.inside goes.are_ahead goes.settles (goes.has_jobs.files ∙ ap files_under_way none)

    -- what waited is refused
    pub refusal_stops : (refusal : Refusal) → before.refusal ≡ Some refusal → images_under_way before ≡ []
        → StopsFor disk out start (Refused refusal) before
    refusal_stops refusal is none =
        let waits : RefusalMayWait disk (way_of_source start) start.disk.now before.next (Some refusal) =
        subst (RefusalMayWait disk (way_of_source start) start.disk.now before.next) is goes.refusal in
        let so = settles_all none in
        stops_with before refl refl goes.reads.tell.told goes.reads.tell.untold goes.reads.only_read []
        before.tally before.next
        before.out.now waits.0 so (Refused refusal)
        (record { seen = waits.1.seen; was = waits.1.was; stops = (waits.1.fate so.read, refl) })
        (quiet_counts disk out (Refused refusal) start.disk.now before.disk.now before.out.now before.out.now tt
        goes.reads.faults refl)

    -- ---- all was put

    pub ends_run : images_under_way before ≡ [] → count_in before ≤ before.next
        → RunsOn (outlets_of disk out) (query_on render_query (way_of_source start))
        (DoneWith (Rendered before.tally.images before.tally.skipped)) (outlets start.disk.now start.out.now)
        (outlets before.disk.now before.out.now)
    ends_run none all =
        let so = settles_all none in
        let images : before.tally.images ≡ images_in (files_of so.read) = so.gathered.images in
        let skipped : before.tally.skipped ≡ skipped_in (files_of so.read) =
        omega (arith, so.gathered.skipped) in
        last_taken disk out render_query (way_of_source start) start.disk.now start.out.now
        (record { from = 0; to = count_in start }) refl (IsTally [] before.tally) before.next before.disk.now
        before.out.now before.out.now so goes.reads.tell.told goes.reads.tell.untold goes.reads.only_read
        goes.reads.faults
        goes.inside
        (subst (λ (n : ℕ). n ≤ before.next) (count_is disk out goes) all)
        (record {
          text = [];
          is = refl;
          puts = record {
            tell = tells_still;
            put = λ t. sym (append-nil (out.contents before.out.now));
            kept = refl;
          };
        })
        (Some (Rendered before.tally.images before.tally.skipped))
        (ap (λ (n : ℕ). Some (Rendered n before.tally.skipped)) images
        ∙ ap (λ (n : ℕ). Some (Rendered (images_in (files_of so.read)) n)) skipped)

  -- ---- at the end, and at the beginning

  no_refusal : (source : RenderSource D O) → images_under_way source ≡ [] → IsRenderOver source
      → (refusal : Option Refusal)
      → source.refusal ≡ refusal → source.refusal ≡ None
  no_refusal source none over None is = is
  no_refusal source none over (Some refusal) is = absurd (over.waits refusal is none)

  pub ends_well : ((x : D) (c : List ℕ) → disk.tells x → disk.left_since x (disk.moment x) c → disk.may_leave x c)
      → ((x : D) → disk.only_read x x)
      → ((x y z : D) → disk.only_read x y → disk.only_read y z → disk.only_read x z)
      → {start now : RenderSource D O} → EndsWell (render_terms disk out) start now
      → StopsFor disk out start (DoneWith (Rendered now.tally.images now.tally.skipped)) now
  ends_well only_now reads_none reads_then {start} {now} ends =
      let goes = ends.all_kept.goes in
      let images = images_under_way now in
      let none : images ≡ [] =
      none_under_way images goes.has_jobs.each ends.over.given ends.all_kept.first
      (sym goes.has_jobs.waiting ∙ drop_all (length ends.jobs) ends.jobs (omega arith)) in
      record {
        same_disk = goes.same_disk;
        same_out = goes.same_out;
        runs = ends_run only_now reads_none reads_then goes none
            (ends.over.all (no_refusal now none ends.over now.refusal refl));
      }

  pub begins : ((x : D) (c : List ℕ) → disk.tells x → disk.left_since x (disk.moment x) c → disk.may_leave x c)
      → ((x : D) → disk.only_read x x) →
      (source : RenderSource D O) → MayBeLed disk out source → source.next ≡ 0 → images_under_way source ≡ []
      → source.tally ≡ record { images = 0; skipped = 0 } → source.refusal ≡ None
      → 0 < deque_capacity source.queue.images → Stands disk out (led source [] 0) source
  begins only_now reads_none source may next_is none tally_is no_refusal room = record {
    goes = record {
      same_disk = refl;
      same_out = refl;
      may = may;
      reads = record {
        kept = refl;
        tell = tells_still;
        only_read = only_read_yet disk only_now source.disk.now (reads_none source.disk.now);
        faults = refl;
      };
      ahead = [];
      settled = 0;
      are_ahead = tt;
      reached = omega (arith, next_is);
      inside = omega (arith, next_is);
      settles = so_first disk out render_query (way_of_source source) (record { from = 0; to = count_in source })
          source.disk.now
          source.out.now (IsTally [] source.tally) (record {
            images = ap (λ (t : Tally). t.images) tally_is;
            skipped = omega (arith, ap (λ (t : Tally). t.skipped) tally_is);
          });
      refusal = subst (RefusalMayWait disk (way_of_source source) source.disk.now source.next) (sym no_refusal) tt;
      has_jobs = subst (HasStripJobs [] 0 source.next []) (sym none) (record {
        each = tt;
        only_last = tt;
        files = refl;
        behind = omega arith;
        waiting = refl;
        few = omega arith;
      });
      counted = omega (
        arith,
        ap (λ (t : Tally). t.images + t.skipped) tally_is,
        ap (λ (l : List UnderWay). length l) none,
      );
      room = room;
    };
    first = subst FirstWaits (sym none) tt;
  }

  -- nothing was put where memory was refused at once
  pub nothing_put : ((x : D) (c : List ℕ) → disk.tells x → disk.left_since x (disk.moment x) c → disk.may_leave x c)
      → ((x : D) → disk.only_read x x) → (over : Way) (d : D) (o : O)
      → RunsOn (outlets_of disk out) (query_on render_query over) NoMemory (outlets d o) (outlets d o)
  nothing_put only_now reads_none over d o = record {
    takes = inl refl;
    counted = quiet_counts disk out NoMemory d d o o tt refl refl;
    tell = record {
      by_disk = tells_still;
      by_out = tells_still;
    };
    only_read = only_read_yet disk only_now d (reads_none d);
    got = λ t. record {
      passed = 0;
      text = [];
      begun = inl (refl, refl);
      put = λ told. sym (append-nil (out.contents o));
      untouched = λ none. refl;
    };
    untouched = λ one cuts. refl;
  }

  pub stops_at_once : ((x : D) (c : List ℕ) → disk.tells x → disk.left_since x (disk.moment x) c → disk.may_leave x c)
      → ((x : D) → disk.only_read x x) →
      (start now : RenderSource D O) → now ≡ start → StopsFor disk out start NoMemory now
  stops_at_once only_now reads_none start now same =
      subst (λ (l : RenderSource D O). StopsFor disk out start NoMemory l) (sym same)
      (record {
        same_disk = refl;
        same_out = refl;
        runs = nothing_put only_now reads_none (way_of_source start) start.disk.now start.out.now;
      })
