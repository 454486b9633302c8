-- What a whole run comes to, by what was loaded, what was taken, and how the files were merged.
use Rattle.std.proofs.Common.{◌≡◌, ◌-◌, ◌⊎◌, inl, inr, ⊎_elim, ℕ, List, [], ◌∷◌, ◌++◌, length}
use Rattle.std.proofs.Common.{refl, sym, ◌∙◌, ap, subst}
use Rattle.lr_bits.specs.declared.placed.Placed.{Placed}
use Rattle.lr_bits.specs.Faults.{Rose}
use Rattle.lr_bits.specs.Telling.{KeepsTelling}
use Rattle.lr_conv.specs.declared.line.LineCode.{LineCode}
use Rattle.lr_io.specs.declared.source.Source.{Ghosts as SourceOf}
use Rattle.lr_io.specs.declared.sink.Sink.{Ghosts as SinkOf}
use Rattle.lr_disk.specs.Reads.{IsOnlyRead}
use Rattle.lr_disk.specs.declared.disk.Disk.{Ghosts as DiskOf}
use Rattle.lr_disk.specs.Pending.{EachImageSince, NothingPending}
use Rattle.lr_disk.proofs.Moments.{joined, weaker}
use Rattle.lr_shelf_format.specs.Way.{IsWay, Way}
use Rattle.lr_shelf_format.proofs.WayLemmas.{has_one_way}
use Rattle.lr_shelf.specs.Adding.{StaysOutside}
use Rattle.lr_shelf.specs.Adds.{last_gate}
use Rattle.lr_shelf.specs.Append.{item_for}
use Rattle.lr_shelf.specs.Prefixes.{way_with_files}
use Rattle.lr_shelf.specs.InitialShelves.{InitialShelf, IsSettledOn, LeavesPrefixes, StandsWith, initial_shelf}
use Rattle.lr_shelf.specs.Kept.{kept_by, shelf_on}
use Rattle.lr_shelf.specs.Shelf.{HasEitherWay}
use Rattle.lr_shelf.specs.declared.shelf.Shelf.{Shelf}
use Rattle.lr_shelf.proofs.InitialPrefixes.{begun_way, front_none, fronts_of_more}
use Rattle.lr_shelf.proofs.InitialPrefixes.{still_holds, still_left}
use Rattle.lr_causes.specs.Causes.{IsCaused, counts}
use Rattle.lr_causes.specs.Counts.{CountsTell}
use Rattle.lr_causes.proofs.Counting.{counts_tell}
use Rattle.lr_causes.specs.declared.cause.Cause.{Cause}
use Rattle.lr_causes.specs.declared.cause.Cause.TheVariants.{Done, Failed, NoMemory, Refused}
use Rattle.lr_causes.specs.declared.cause.Party.TheVariants.{Disk, Output}
use Rattle.lr_causes.specs.declared.cause.Refusal.TheVariants.{Capacity as IsFull}
use Rattle.lr_shelf.proofs.Loaded.{IsReady, way_read}
use Rattle.lr_downlinks.specs.Merge.{IsWhole, merge}
use Rattle.lr_downlinks.specs.Room.{AllFit}
use Rattle.lr_downlinks.specs.Runs.{MergeEnds, MergesOver, NextDoesNotFitBy, merging, all_files}
use Rattle.lr_downlinks.specs.Appended.{HasAppended, MayHaveAppended}
use Rattle.lr_downlinks.specs.Streams.{files_of_downlink}
use Rattle.lr_downlinks.specs.declared.run.Run.{Run}
use Rattle.lr_downlinks.specs.declared.run.RunEnd.{RunEnd}
use Rattle.lr_downlinks.specs.declared.run.RunEnd.TheVariants.{All, Disk as DiskFails, NoMemory as NoneLeft, Capacity}
use Rattle.lr_cmd_downlinks.specs.Downlinks.{AddsAllOn, AddsMerged, BreaksMerging, BreaksOn, DownlinksRun}
use Rattle.lr_cmd_downlinks.specs.Downlinks.{OutBesides, broken_at, bundle_read}
use Rattle.lr_cmd_downlinks.specs.Downlinks.{EndsMerging, GotReceipts}
use Rattle.lr_causes.specs.Outside.{outside, world_of, World, Outside}
use Rattle.lr_cmd_downlinks.specs.Downlinks.{LeavesMerged, Merges}
use Rattle.lr_cmd_downlinks.specs.Lines.{receipt_lines, last_line}
use Rattle.lr_cmd_downlinks.specs.Taking.{TakesBundle}
use Rattle.lr_cmd_downlinks.specs.Told.{TellsAll, TellsEnd, TellsSome, receipted}

-- ---- the disk, since the shelf was loaded from it

module _ {D : Type 0} (disk : DiskOf D) (shelf : Shelf) (d d1 : D) (ready : IsReady disk d d1 shelf) where
  kept_way : (way : Way) → disk.tells d → IsWay (disk.contents d) way → (kept_by shelf).way ≡ way
  kept_way way t is =
      (has_one_way (disk.contents d)).way (kept_by shelf).way way (way_read disk d d1 shelf ready t) is

  -- the shelf, as it was loaded, is the one of this initial shelf, and nothing else stood on the disk
  record BeginsOn (initial : InitialShelf) : Type 0 where
    settled : IsSettledOn initial [] disk shelf d1
    alone : LeavesPrefixes disk initial [] d d1

  alone_on : (initial : InitialShelf) → disk.tells d → StandsWith initial [] (disk.contents d)
      → NothingPending disk d → LeavesPrefixes disk initial [] d d1
  alone_on initial t stands only =
      weaker disk.moment disk.left_since d d1 _ _ (front_none initial)
      (still_left disk initial d d1 (ready.only_read.unwritten t) stands only)

  on_way : (way : Way) → disk.tells d → IsWay (disk.contents d) way → NothingPending disk d
      → BeginsOn (initial_shelf way (disk.contents d))
  on_way way t is only =
      let begun = begun_way way (disk.contents d) is in
      record {
        settled = record {
          told = ready.tell.told t;
          kept = record { way = kept_way way t is; working = ready.works };
          on_disk =
              still_holds disk (initial_shelf way (disk.contents d)) d d1 (ready.only_read.unwritten t) begun only;
        };
        alone = alone_on (initial_shelf way (disk.contents d)) t begun only;
      }

  module _ (d' : D) (files : List Placed) (initial : InitialShelf) (begins : BeginsOn initial) where
    fronts_since : (all : List Placed) → LeavesPrefixes disk initial all d1 d' → LeavesPrefixes disk initial all d d'
    fronts_since all fronts =
        joined disk.moment disk.left_since d d1 d' _ (fronts_of_more disk initial d d1 d' [] begins.alone all) fronts

    added_on : HasAppended disk (shelf_on shelf d1) files d' → AddsAllOn disk files d d' initial
    added_on has =
        let on = has.on initial begins.settled in record { now = on.0; any_moment = fronts_since files on.1 }

    broken_on : (placed : Placed) → MayHaveAppended disk (shelf_on shelf d1) files placed d'
        → BreaksOn disk (broken_at files placed) d d' initial
    broken_on placed has =
        let on = has.on initial begins.settled in
        record { now = on.0; any_moment = fronts_since (files ++ placed ∷ []) on.1 }

module _ {D : Type 0} (disk : DiskOf D) (shelf : Shelf) (d d1 d' : D) (ready : IsReady disk d d1 shelf)
    (files : List Placed) where
  -- as the shelf was loaded, no byte changed
  same_yet : (from to : ℕ) → disk.tells d → NothingPending disk d
      → EachImageSince disk d d1 (StaysOutside from to (disk.contents d))
  same_yet from to t only =
      weaker disk.moment disk.left_since d d1 (disk.may_leave d) (StaysOutside from to (disk.contents d))
      (λ c image. subst (λ (l : List ℕ). StaysOutside from to (disk.contents d) l) (sym (only c image))
      (record { before = refl; after = refl }))
      (ready.only_read.unwritten t).any_moment

  module _ (way : Way) (told : disk.tells d) (is : IsWay (disk.contents d) way) where
    -- what the shelf's own way said of these bytes
    as_found : StaysOutside (last_gate (kept_by shelf)) (way_with_files files (kept_by shelf).way).end
        (disk.contents d1) (disk.contents d')
        → StaysOutside (way.end - 1) (way_with_files files way).end (disk.contents d) (disk.contents d')
    as_found stays =
        subst (λ (w : Way). StaysOutside (w.end - 1) (way_with_files files w).end (disk.contents d)
        (disk.contents d'))
        (kept_way disk shelf d d1 ready way told is)
        (subst (λ (l : List ℕ).
        StaysOutside (last_gate (kept_by shelf)) (way_with_files files (kept_by shelf).way).end
        l (disk.contents d')) (ready.only_read.unwritten told).contents stays)

    as_found_since : NothingPending disk d
        → EachImageSince disk d1 d'
        (StaysOutside (last_gate (kept_by shelf)) (way_with_files files (kept_by shelf).way).end (disk.contents d1))
        → EachImageSince disk d d'
        (StaysOutside (way.end - 1) (way_with_files files way).end (disk.contents d))
    as_found_since only stays =
        joined disk.moment disk.left_since d d1 d'
        (StaysOutside (way.end - 1) (way_with_files files way).end (disk.contents d))
        (same_yet (way.end - 1) (way_with_files files way).end told only)
        (subst (λ (w : Way). EachImageSince disk d1 d'
        (StaysOutside (w.end - 1) (way_with_files files w).end (disk.contents d)))
        (kept_way disk shelf d d1 ready way told is)
        (subst (λ (l : List ℕ). EachImageSince disk d1 d'
        (StaysOutside (last_gate (kept_by shelf)) (way_with_files files (kept_by shelf).way).end l))
        (ready.only_read.unwritten told).contents stays))

module _ {D : Type 0} (disk : DiskOf D) (count : ℕ) (files : ℕ → List Placed) (order : List ℕ) (shelf : Shelf)
    (d d1 d' : D) (ready : IsReady disk d d1 shelf) where
  added : HasAppended disk (shelf_on shelf d1) (merge files order) d'
      → AddsMerged disk (merging count files order) d d'
  added has = record {
    way = λ way t is. (
      subst (λ (w : Way). IsWay (disk.contents d') (way_with_files (merge files order) w))
          (kept_way disk shelf d d1 ready way t is) (has.way (ready.tell.told t) (ready.keeps t)),
      has.durable (ready.tell.told t) (ready.synced t),
    );
    outside = λ way t is.
        as_found disk shelf d d1 d' ready (merge files order) way t is (has.outside (ready.tell.told t));
    outside_any_moment = λ way t is only.
        as_found_since disk shelf d d1 d' ready (merge files order) way t is only
        (has.outside_any_moment (ready.tell.told t) (ready.synced t));
    onto_way = λ way t is only.
        added_on disk shelf d d1 ready d' (merge files order) (initial_shelf way (disk.contents d))
        (on_way disk shelf d d1 ready way t is only) has;
  }

  broken_in : MergeEnds (merging count files order) disk DiskFails (shelf_on shelf d1) d'
      → BreaksMerging disk (merging count files order) d d'
  broken_in breaks = record {
    downlink = breaks.downlink;
    placed = breaks.placed;
    next = breaks.next;
    way = λ way t is.
        subst (λ (w : Way). HasEitherWay (way_with_files (merge files order) w) (item_for breaks.placed)
        (disk.contents d')) (kept_way disk shelf d d1 ready way t is)
        (breaks.appended.way (ready.tell.told t) (ready.keeps t));
    outside = λ way t is.
        as_found disk shelf d d1 d' ready (merge files order ++ breaks.placed ∷ []) way t is
        (breaks.appended.outside (ready.tell.told t));
    outside_any_moment = λ way t is only.
        as_found_since disk shelf d d1 d' ready (merge files order ++ breaks.placed ∷ []) way t is only
        (breaks.appended.outside_any_moment (ready.tell.told t) (ready.synced t));
    onto_way = λ way t is only.
        broken_on disk shelf d d1 ready d' (merge files order) (initial_shelf way (disk.contents d))
        (on_way disk shelf d d1 ready way t is only) breaks.placed breaks.appended;
  }

  not_fitting : (needed capacity : ℕ)
      → NextDoesNotFitBy (merging count files order) (kept_by shelf).way needed capacity
      → (way : Way) → disk.tells d → IsWay (disk.contents d) way
      → NextDoesNotFitBy (merging count files order) way needed capacity
  not_fitting needed capacity full way t is =
      subst (λ (w : Way). NextDoesNotFitBy (merging count files order) w needed capacity)
      (kept_way disk shelf d d1 ready way t is) full

-- ---- how a run over a bundle ends

module _ {S D O : Type 0} (source : SourceOf S) (disk : DiskOf D) (out : SinkOf O) (line : LineCode)
    (s s' : S) (d d1 d' : D) (o o' : O) (shelf : Shelf) (ready : IsReady disk d d1 shelf) (streams : List (List ℕ))
    (same_source : source.faults s' ≡ source.faults s) (base : ℕ) (order : List ℕ) where
  -- what is left, what `out` got, and the counts
  pub record IsFinished (cause : Cause) : Type 0 where
    pub leaves : LeavesMerged disk (merging (length streams) (files_of_downlink line streams) order) d d' cause
    pub got : GotReceipts out cause
        (record { receipts = (receipt_lines base order (length streams)); last = (last_line streams order) }) o o'
    pub counted : CountsTell OutBesides cause (counts (source.faults s) (disk.faults d) (out.faults o))
        (counts (source.faults s') (disk.faults d') (out.faults o'))
    pub tell : KeepsTelling (out.tells o) (out.tells o')

  -- by the counts of the disk and of `out`
  counts_are : (cause : Cause) → IsCaused cause (counts (source.faults s) (disk.faults d) (out.faults o))
      (counts (source.faults s') (disk.faults d') (out.faults o'))
      → ((cause ≡ Failed Disk → ⊥) → (OutBesides cause Disk → ⊥) → disk.faults d' ≡ disk.faults d)
      → ((cause ≡ Failed Output → ⊥) → (OutBesides cause Output → ⊥) → out.faults o' ≡ out.faults o)
      → CountsTell OutBesides cause (counts (source.faults s) (disk.faults d) (out.faults o))
      (counts (source.faults s') (disk.faults d') (out.faults o'))
  counts_are cause named same_disk same_out =
      counts_tell OutBesides cause (counts (source.faults s) (disk.faults d) (out.faults o))
      (counts (source.faults s') (disk.faults d') (out.faults o')) named (λ not none. same_source) same_disk same_out

  told_some : TellsSome out (receipted streams base order) o o' → out.tells o → out.tells o'
  told_some (inl puts) = puts.tell.told
  told_some (inr fails) = fails.tell.told

  untold_some : TellsSome out (receipted streams base order) o o' → out.tells o' → out.tells o
  untold_some (inl puts) = puts.tell.untold
  untold_some (inr fails) = fails.tell.untold

  finish_all : (cause : Cause)
      → HasAppended disk (shelf_on shelf d1) (merge (files_of_downlink line streams) order) d'
      × IsWhole (length streams) (files_of_downlink line streams) order
      → TellsAll out (receipted streams base order) cause o o' → IsFinished cause
  finish_all Done ends tells = record {
    leaves = (
      added disk (length streams) (files_of_downlink line streams) order shelf d d1 d' ready ends.0,
      ends.1,
    );
    got = tells;
    counted = counts_are Done tt (λ not none. ends.0.count ∙ ready.count) (λ not none. tells.kept);
    tell = tells.tell;
  }
  finish_all (Failed Output) ends tells = record {
    leaves = (
      added disk (length streams) (files_of_downlink line streams) order shelf d d1 d' ready ends.0,
      ends.1,
    );
    got = tells;
    counted =
        counts_are (Failed Output) tells.rose (λ not none. ends.0.count ∙ ready.count) (λ not none. absurd (not refl));
    tell = tells.tell;
  }
  finish_all _ ends tells = absurd tells

  pub finished : (result : RunEnd) (cause : Cause)
      → MergeEnds (merging (length streams) (files_of_downlink line streams) order) disk result (shelf_on shelf d1) d'
      → TellsEnd out result (receipted streams base order) cause o o' → IsFinished cause
  finished All cause ends tells = finish_all cause ends tells
  finished DiskFails cause ends tells =
      subst IsFinished (sym tells.0) (record {
        leaves = broken_in disk (length streams) (files_of_downlink line streams) order shelf d d1 d' ready ends;
        got = tells.1;
        counted = counts_are (Failed Disk) (subst (λ n. Rose n (disk.faults d')) ready.count ends.appended.rose)
            (λ not none. absurd (not refl)) (λ not none. absurd (none tt));
        tell = record { told = told_some tells.1; untold = untold_some tells.1 };
      })
  finished NoneLeft cause ends tells =
      subst IsFinished (sym tells.0) (record {
        leaves = added disk (length streams) (files_of_downlink line streams) order shelf d d1 d' ready ends;
        got = tells.1;
        counted = counts_are NoMemory tt (λ not none. ends.count ∙ ready.count) (λ not none. absurd (none tt));
        tell = record { told = told_some tells.1; untold = untold_some tells.1 };
      })
  finished (Capacity needed capacity) cause ends tells =
      subst IsFinished (sym tells.0) (record {
        leaves = (
          added disk (length streams) (files_of_downlink line streams) order shelf d d1 d' ready ends.0,
          not_fitting disk (length streams) (files_of_downlink line streams) order shelf d
              d1 d' ready needed capacity
              ends.1,
        );
        got = tells.1;
        counted = counts_are (Refused (IsFull needed capacity)) tt (λ not none. ends.0.count ∙ ready.count)
            (λ not none. absurd (none tt));
        tell = record { told = told_some tells.1; untold = untold_some tells.1 };
      })

  pub told_since : (result : RunEnd)
      → MergeEnds (merging (length streams) (files_of_downlink line streams) order) disk result (shelf_on shelf d1)
      d' → disk.tells d
      → disk.tells d'
  told_since All ends t = ends.0.tell.told (ready.tell.told t)
  told_since DiskFails ends t = ends.appended.tell.told (ready.tell.told t)
  told_since NoneLeft ends t = ends.tell.told (ready.tell.told t)
  told_since (Capacity needed capacity) ends t = ends.0.tell.told (ready.tell.told t)

  pub untold_since : (result : RunEnd)
      → MergeEnds (merging (length streams) (files_of_downlink line streams) order) disk result (shelf_on shelf d1)
      d' → disk.tells d'
      → disk.tells d
  untold_since All ends t = ready.tell.untold (ends.0.tell.untold t)
  untold_since DiskFails ends t = ready.tell.untold (ends.appended.tell.untold t)
  untold_since NoneLeft ends t = ready.tell.untold (ends.tell.untold t)
  untold_since (Capacity needed capacity) ends t = ready.tell.untold (ends.0.tell.untold t)

  -- the disk failed exactly where the run says so
  pub disk_failed : (result : RunEnd) (cause : Cause) → TellsEnd out result (receipted streams base order) cause o o'
      → result ≡ DiskFails → cause ≡ Failed Disk
  disk_failed All cause tells is = absurd (cc (is))
  disk_failed DiskFails cause tells is = tells.0
  disk_failed NoneLeft cause tells is = absurd (cc (is))
  disk_failed (Capacity needed capacity) cause tells is = absurd (cc (is))

  all_told : (cause : Cause) → TellsAll out (receipted streams base order) cause o o'
      → (Rose (out.faults o) (out.faults o') → ⊥) → cause ≡ Done
  all_told Done tells sure = refl
  all_told (Failed Output) tells sure = absurd (sure tells.rose)
  all_told _ tells sure = absurd tells

  -- all files were put onto the shelf, or memory was refused
  pub done_or_none : (result : RunEnd) (cause : Cause) → TellsEnd out result (receipted streams base order) cause o o'
      → (Rose (out.faults o) (out.faults o') → ⊥) → (result ≡ All) ⊎ (result ≡ NoneLeft)
      → (cause ≡ Done) ⊎ (cause ≡ NoMemory)
  done_or_none All cause tells sure is = inl (all_told cause tells sure)
  done_or_none DiskFails cause tells sure (inl all) = absurd (cc (all))
  done_or_none DiskFails cause tells sure (inr none) = absurd (cc (none))
  done_or_none NoneLeft cause tells sure is = inr tells.0
  done_or_none (Capacity needed capacity) cause tells sure (inl all) = absurd (cc (all))
  done_or_none (Capacity needed capacity) cause tells sure (inr none) = absurd (cc (none))

-- a run that goes on to its bundle ends as its files were merged
to_ends : {S D O : Type 0} (world : World S D O) (line : LineCode) (bytes : List ℕ) (w w' : Outside S D O)
    (streams : List (List ℕ)) (order : List ℕ) (cause : Cause)
    → LeavesMerged world.disk (merging (length streams) (files_of_downlink line streams) order) w.disk w'.disk cause
    → Merges world (bundle_read line bytes) cause w w' → EndsMerging world (bundle_read line bytes) cause w w'
to_ends world line bytes w w' streams order Done leaves merges = merges
to_ends world line bytes w w' streams order (Failed Output) leaves merges = merges
to_ends world line bytes w w' streams order (Failed Disk) leaves merges = inr merges
to_ends world line bytes w w' streams order NoMemory leaves merges = inr merges
to_ends world line bytes w w' streams order (Refused (IsFull needed capacity)) leaves merges = merges
to_ends world line bytes w w' streams order _ leaves merges = absurd leaves

module _ {S D O : Type 0} (source : SourceOf S) (disk : DiskOf D) (out : SinkOf O) (line : LineCode)
    (s s' : S) (d d1 d' : D) (o o' : O) (shelf : Shelf) (ready : IsReady disk d d1 shelf) (streams : List (List ℕ))
    (taken : TakesBundle source streams s s') (run : Run)
    (over : MergesOver disk (all_files (length streams) (files_of_downlink line streams)) (shelf_on shelf d1) d' run)
    (cause : Cause)
    (tells : TellsEnd out run.result (receipted streams run.base run.order) cause o o') where
  same_count : source.faults s' ≡ source.faults s
  same_count = taken.taken.reason.2

  done_with : IsFinished source disk out line s s' d d1 d' o o' shelf ready streams same_count
      run.base run.order cause
  done_with =
      finished source disk out line s s' d d1 d' o o' shelf ready streams same_count run.base
      run.order run.result cause
      over.ends tells

  merges : Merges (world_of source disk out) (bundle_read line taken.bytes) cause (outside s d o) (outside s' d' o')
  merges = record {
    ended = taken.taken.reason;
    streams = streams;
    bundle = taken.bundle;
    order = run.order;
    order_is = over.order_is;
    leaves = done_with.leaves;
    base = run.base;
    base_is = λ way t is.
        over.base ∙ ap (λ (w : Way). length w.entries) (kept_way disk shelf d d1 ready way t is);
    receipts = λ at less.
        let one = over.receipts at less in
        (one.0, one.1, λ capacity items t durable. one.2 capacity items (ready.settled capacity items t durable));
    got = done_with.got;
    only_read = λ none not_failed.
        ⊎_elim
        (λ failed.
        absurd (not_failed
        (disk_failed source disk out line s s' d d1 d' o o' shelf ready streams same_count
        run.base run.order run.result
        cause tells failed)))
        (λ same. subst (λ x. IsOnlyRead disk d x) (sym same) ready.only_read) (over.untouched none);
  }

  pub whole_run : DownlinksRun (world_of source disk out) line cause (outside s d o) (outside s' d' o')
  whole_run = record {
    counted = done_with.counted;
    tell = record {
      by_disk = record {
        told =
            told_since source disk out line s s' d d1 d' o o' shelf ready streams same_count
            run.base run.order run.result
            over.ends;
        untold =
            untold_since source disk out line s s' d d1 d' o o' shelf ready streams same_count
            run.base run.order run.result
            over.ends;
      };
      by_out = done_with.tell;
    };
    bytes = taken.bytes;
    read = taken.taken.read;
    ends = to_ends (world_of source disk out) line taken.bytes (outside s d o) (outside s' d' o')
        streams run.order cause done_with.leaves merges;
    broken = λ at t no.
        absurd ((has_one_way (disk.contents d)).none (kept_by shelf).way at (way_read disk d d1 shelf ready t) no);
    flawed = λ flaw all has. absurd (taken.sound flaw has);
    complete = λ no_fault others bundle few way t is fit.
        let same = taken.only others bundle in
        let fits : AllFit (length streams) (files_of_downlink line streams) (kept_by shelf).way =
        subst (λ (w : Way). AllFit (length streams) (files_of_downlink line streams) w)
        (sym (kept_way disk shelf d d1 ready way t is))
        (subst (λ (them : List (List ℕ)). AllFit (length them) (files_of_downlink line them) way) same fit) in
        done_or_none source disk out line s s' d d1 d' o o' shelf ready streams same_count
        run.base run.order run.result
        cause tells no_fault.of_out
        (over.complete (λ rose. no_fault.of_disk (subst (λ n. Rose n (disk.faults d')) ready.count rose)) fits);
  }
