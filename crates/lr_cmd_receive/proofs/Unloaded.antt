-- What `receive` comes to where the shelf was not loaded.
use Rattle.std.proofs.Common.{◌≡◌, inl, inr, false, ℕ, List, [], refl, sym, ◌∙◌, ap, subst, arith}
use Rattle.std.proofs.Common.{Result, Ok, Err, IfOk, MatchResult, OnOk, length, ⊎_elim}
use Rattle.lr_bits.specs.declared.placed.Placed.{Placed}
use Rattle.lr_bits.proofs.Telling.{tells_both, tells_still}
use Rattle.lr_disk.specs.Reads.{IsOnlyRead}
use Rattle.lr_disk.specs.Pending.{EachImageSince, NothingPending}
use Rattle.lr_disk.proofs.Moments.{joined, weaker, stays}
use Rattle.lr_shelf_format.specs.Way.{IsWay, IsNoShelfAt, Way}
use Rattle.lr_shelf_format.proofs.WayLemmas.{has_one_way}
use Rattle.lr_shelf.specs.Kept.{kept_by}
use Rattle.lr_shelf.specs.Load.{Loads, IsLoadRefusal, MayRefuseAt}
use Rattle.lr_shelf.specs.Shelf.{KeepsWay}
use Rattle.lr_shelf.specs.declared.shelf.Shelf.{Shelf}
use Rattle.lr_shelf.specs.declared.error.ShelfError.{ShelfError}
use Rattle.lr_shelf.specs.declared.error.ShelfError.TheVariants.{Disk as Disk'}
use Rattle.lr_shelf.specs.declared.error.ShelfError.TheVariants.{NotAShelf as NotAShelf'}
use Rattle.lr_shelf.specs.declared.error.ShelfError.TheVariants.{NoMemory as NoMemory'}
use Rattle.lr_causes.specs.declared.cause.Cause.{Cause}
use Rattle.lr_causes.specs.declared.cause.Cause.TheVariants.{Failed, NoMemory, Refused}
use Rattle.lr_causes.specs.declared.cause.Party.TheVariants.{Disk}
use Rattle.lr_causes.specs.declared.cause.Refusal.TheVariants.{NotAShelf}
use Rattle.lr_refusals.specs.Errors.{cause_of}
use Rattle.lr_causes.specs.Outside.{counts_in, outlets, outside, outlets_in, world_outlets, World, Outside}
use Rattle.lr_cmd_receive.proofs.Causing.{first_later, first_refused}
use Rattle.lr_cmd_receive.proofs.Changing.{no_change}
use Rattle.lr_causes.specs.Counts.{CountsTell}
use Rattle.lr_cmd_receive.specs.First.{SourceBesides}
use Rattle.lr_cmd_receive.specs.Noted.{NotedFile, placed_files}
use Rattle.lr_shelf.specs.InitialShelves.{InitialShelf, HoldsStill, IsSettledOn, StandsWith}
use Rattle.lr_shelf.specs.InitialShelves.{LeavesPrefixes, initial_shelf}
use Rattle.lr_cmd_receive.specs.Onto.{ChangesFor, ChangesImagesFor, IsFullWith}
use Rattle.lr_cmd_receive.specs.Shelved.{MayStop, ShelvesSoFar, shelf_in}
use Rattle.lr_cmd_receive.specs.Receive.{Receives, IsWorkDone, EndsWork, IsUntouched, StopsEarly, files_asked}
use Rattle.lr_cmd_receive.specs.Receive.{PutsNoFileOff, ReceiveQuery, ReceiveRun}
use Rattle.lr_cmd_receive.specs.Reception.{EndsRun, run_of}
use Rattle.lr_cmd_receive.specs.Shelving.{StopsBy}
use Rattle.lr_cmd_receive.proofs.Headline.{receives}
use Rattle.lr_cmd_receive.proofs.ReceiveEnding.{got_none, loaded, no_work}
use Rattle.lr_cmd_receive.proofs.ShelvingOne.{same_of}
use Rattle.lr_cmd_receive.proofs.Taking.{no_bytes}
use Rattle.lr_cmd_receive.proofs.Timely.{none_put_off}
use Rattle.lr_shelf.proofs.InitialPrefixes.{front_none, begun_way, still_holds}
use Rattle.lr_shelf.proofs.InitialPrefixes.{still_left}
use Rattle.lr_cmd_receive.proofs.Loading.{ended_before, may_refuse, load_cause, load_room, load_work, run_cause}
use Rattle.lr_cmd_receive.proofs.Loading.{run_kind, full_reads, load_silent, nothing_waits, stopped_at_once}

-- ---- the shelf was to be loaded

module _ {S D O : Type 0} (world : World S D O) (asked : ReceiveQuery) (w : Outside S D O)
    (d1 : D)
    (result : Result Shelf ShelfError) (loads : Loads world.disk w.disk d1 result) where
  -- the disk was only read
  abbrev read_only : Outside S D O
  read_only = outside w.source d1 w.out

  -- the first event decides
  first_of : (e : ShelfError) → result ≡ Err e → IsLoadRefusal world.disk w.disk e
      → CountsTell SourceBesides (cause_of e) (counts_in world w) (counts_in world read_only)
  first_of e is refusal =
      first_refused e result (world.source.faults w.source) (world.source.faults w.source)
      (world.disk.faults w.disk) (world.disk.faults d1) (world.out.faults w.out)
      is (λ failed. subst (λ (x : ShelfError). IsLoadRefusal world.disk w.disk x) failed refusal)
      loads.calls.counted

  module _ (initial : InitialShelf) (told : world.disk.tells w.disk)
      (stands : StandsWith initial [] (world.disk.contents w.disk))
      (only : NothingPending world.disk w.disk) where
    still : HoldsStill initial [] world.disk d1
    still = still_holds world.disk initial w.disk d1 (loads.only_read.unwritten told) stands only

    loading : EachImageSince world.disk w.disk d1 (StandsWith initial [])
    loading = still_left world.disk initial w.disk d1 (loads.only_read.unwritten told) stands only

    none : (cause : Cause) → MayStop cause
        → StopsBy (world_outlets world) initial (files_asked asked []) cause (outlets_in w)
        (outlets_in read_only)
        → CountsTell SourceBesides cause (counts_in world w) (counts_in world read_only)
        → Receives world (run_of asked initial []) cause w read_only
    none cause may stops first =
        receives world asked initial [] w read_only cause
        (subst (λ (l : List NotedFile). LeavesPrefixes world.disk initial (placed_files l) w.disk d1)
        (sym (no_bytes asked.mend asked.input))
        (weaker world.disk.moment world.disk.left_since w.disk d1 _ _ (front_none initial) loading))
        (inl may)
        (record { stands = λ done. absurd (no_work cause may done); stops = λ undone. inl stops })
        first

    nothing : (e : ShelfError) → result ≡ Err e → IsLoadRefusal world.disk w.disk e
        → ((at : ℕ) → IsNoShelfAt (world.disk.contents w.disk) at → ⊥)
        → Receives world (run_of asked initial []) (cause_of e) w read_only
    nothing Disk' is refusal shelf = none (Failed Disk) tt (record {
      done = [];
      rest = [];
      split = no_bytes asked.mend asked.input;
      contents = inl still.stands;
      images = λ c image. inl (subst (StandsWith initial []) (sym (still.durable c image)) still.stands);
      got = got_none world.out initial w.out;
    }) (first_of Disk' is refusal)
    nothing (NotAShelf' at) is refusal shelf = absurd (shelf at (refusal told))
    nothing NoMemory' is refusal shelf = none NoMemory tt (record {
      done = [];
      rest = [];
      split = no_bytes asked.mend asked.input;
      durable = still;
      got = got_none world.out initial w.out;
    }) (first_of NoMemory' is refusal)
    nothing _ is refusal shelf = absurd refusal

  -- nothing is written while it is loaded
  loading_images : (way : Way) (files : List Placed) → world.disk.tells w.disk → NothingPending world.disk w.disk
      → ChangesImagesFor world.disk way files w.disk d1
  loading_images way files told only =
      weaker world.disk.moment world.disk.left_since w.disk d1 _ _
      (λ c image. no_change way files (world.disk.contents w.disk) c (only c image))
      (loads.only_read.unwritten told).any_moment

  only_read : IsUntouched world w read_only
  only_read = record { only_read = loads.only_read; source_stays = refl; out_stays = refl }

  refused : (e : ShelfError) (at : ℕ) → IsLoadRefusal world.disk w.disk e → cause_of e ≡ Refused (NotAShelf at)
      → world.disk.tells w.disk → IsNoShelfAt (world.disk.contents w.disk) at
  refused Disk' at refusal is = cc (is)
  refused (NotAShelf' at') at refusal is =
      let same : at' ≡ at = cc (is) in
      λ t. subst (λ (k : ℕ). IsNoShelfAt (world.disk.contents w.disk) k) same (refusal t)
  refused NoMemory' at refusal is = cc (is)
  refused _ at refusal is = absurd refusal

  -- it wasn't
  pub not_loaded : (e : ShelfError) → result ≡ Err e → IsLoadRefusal world.disk w.disk e
      → ReceiveRun world asked (cause_of e) w read_only
  not_loaded e is refusal = record {
    causes = load_cause world.disk w.disk e refusal;
    counted = first_of e is refusal;
    bytes = [];
    read = record { tell = tells_still; moved = λ t. refl; few = omega arith; asked = inl (refl, refl) };
    tell = record {
      by_disk = loads.calls.tell;
      by_out = tells_still;
    };
    onto = record {
      way = λ way told way_is only.
          nothing (initial_shelf way (world.disk.contents w.disk)) told
          (begun_way way (world.disk.contents w.disk) way_is)
          only e is refusal
          (λ at no. (has_one_way (world.disk.contents w.disk)).none way at way_is no);
      keeps_up = λ initial told stands only.
          none_put_off world asked initial [] w read_only w.disk
          (nothing_waits world initial asked w d1
          (still initial told stands (only refl))) (inl (refl, refl));
    };
    ended = λ done. absurd (load_work world.disk w.disk e refusal done);
    stopped = λ undone. stopped_at_once world asked (cause_of e) w read_only refl
        (load_silent world.disk w.disk e refusal);
    wants = record {
      refused = λ at named. (refused e at refusal named, only_read);
      broken = λ at told no. (ended_before e at (may_refuse at result e is (loads.broken at told no)), only_read);
    };
    capacity = record {
      full = λ way needed most named. absurd (load_room world.disk w.disk e refusal needed most named);
      nothing_fits = λ needed most named. absurd (load_room world.disk w.disk e refusal needed most named);
    };
    alone = record {
      only_read = λ none. loads.only_read;
      silent = λ none early. refl;
      unasked = λ none failed. refl;
    };
    writes = record {
      outside = λ way told is.
          no_change way (placed_files (files_asked asked [])) (world.disk.contents w.disk)
          (world.disk.contents d1)
          (loads.only_read.unwritten told).contents;
      outside_any_moment = λ way told is only.
          loading_images way (placed_files (files_asked asked [])) told only;
    };
  }

  -- it was
  module _ (only_now : (d : D) (c : List ℕ) → world.disk.tells d → world.disk.left_since d (world.disk.moment d) c
      → world.disk.may_leave d c)
      (shelf : Shelf) (is : result ≡ Ok shelf) (w' : Outside S D O) (cause : Cause)
      (run : EndsRun world asked cause (shelf_in shelf read_only) w')
    where
      if_ok : (P : Shelf → Type 0) → IfOk result P → P shelf
      if_ok P holds = subst (λ (r : Result Shelf ShelfError). IfOk r P) is holds

      same_count : world.disk.faults d1 ≡ world.disk.faults w.disk
      same_count = same_of world.disk w.disk d1 result shelf is loads.calls.counted

      working : (kept_by shelf).failed ≡ false
      working = if_ok (λ x. (kept_by x).failed ≡ false) loads.working

      is_way : world.disk.tells w.disk → IsWay (world.disk.contents w.disk) (kept_by shelf).way
      is_way told =
          subst (λ (l : List ℕ). IsWay l (kept_by shelf).way) (loads.only_read.unwritten told).contents
          (if_ok (KeepsWay (world.disk.contents d1)) (loads.way told))

      -- the first event decides
      first_run : CountsTell SourceBesides cause (counts_in world w) (counts_in world w')
      first_run = first_later cause (world.source.faults w.source) (world.source.faults w'.source)
          (world.disk.faults w.disk) (world.disk.faults d1) (world.disk.faults w'.disk)
          (world.out.faults w.out) (world.out.faults w.out) (world.out.faults w'.out) same_count
          refl (run.first working)

      -- on an initial shelf that the shelf was loaded from
      onto : (initial : InitialShelf) (told : world.disk.tells w.disk)
          → StandsWith initial [] (world.disk.contents w.disk)
          → NothingPending world.disk w.disk
          → IsSettledOn initial [] world.disk shelf d1
          → Receives world (run_of asked initial run.bytes) cause w w'
      onto initial told stands only settled =
          let begun = loaded (world_outlets world) initial (outlets_in w) d1 shelf settled
          (loading initial told stands only) same_count in
          let all = run.ends initial (outlets_in w) begun in
          receives world asked initial run.bytes w w' cause all.0 run.kind all.1 first_run

      onto_way : (way : Way) → world.disk.tells w.disk → IsWay (world.disk.contents w.disk) way
          → NothingPending world.disk w.disk
          → Receives world (run_of asked (initial_shelf way (world.disk.contents w.disk)) run.bytes) cause
          w w'
      onto_way way told way_is only =
          let begins = begun_way way (world.disk.contents w.disk) way_is in
          let same : (kept_by shelf).way ≡ way =
          (has_one_way (world.disk.contents w.disk)).way (kept_by shelf).way way (is_way told) way_is in
          onto (initial_shelf way (world.disk.contents w.disk)) told begins only
          (record {
            told = loads.calls.tell.told told;
            kept = record { way = same; working = working };
            on_disk = still (initial_shelf way (world.disk.contents w.disk)) told begins only;
          })

      -- also where something was pending on the disk: it was synced first
      settled_after : (initial : InitialShelf) → world.disk.tells w.disk
          → StandsWith initial [] (world.disk.contents w.disk)
          → IsSettledOn initial [] world.disk shelf d1
      settled_after initial told stands = record {
        told = loads.calls.tell.told told;
        kept = record {
          way = (has_one_way (world.disk.contents w.disk)).way (kept_by shelf).way initial.way (is_way told)
              stands.is_way;
          working = working;
        };
        on_disk = record {
          stands = subst (StandsWith initial []) (sym (loads.only_read.unwritten told).contents) stands;
          durable = subst (λ (r : Result Shelf ShelfError). OnOk r (NothingPending world.disk d1)) is
              (loads.synced told);
        };
      }

      -- from the disk as it was loaded
      begun_after : (initial : InitialShelf) → world.disk.tells w.disk
          → StandsWith initial [] (world.disk.contents w.disk)
          → ShelvesSoFar (world_outlets world) initial [] (outlets d1 w.out) (shelf_in shelf (outlets d1 w.out))
      begun_after initial told stands =
          let settled = settled_after initial told stands in
          loaded (world_outlets world) initial (outlets d1 w.out) d1 shelf settled
          (stays world.disk only_now d1 (StandsWith initial []) settled.told
          (λ c left. subst (StandsWith initial []) (sym (settled.on_disk.durable c left)) settled.on_disk.stands))
          refl

      keeps_up_run : (initial : InitialShelf) → world.disk.tells w.disk
          → StandsWith initial [] (world.disk.contents w.disk)
          → PutsNoFileOff world (run_of asked initial run.bytes) w w'
      keeps_up_run initial told stands =
          let all = run.ends initial (outlets d1 w.out) (begun_after initial told stands) in
          none_put_off world asked initial run.bytes w w' d1 all.2 all.3

      numbered_run : (way : Way) → world.disk.tells w.disk → IsWay (world.disk.contents w.disk) way
          → length (kept_by shelf).way.entries ≡ length way.entries
      numbered_run way told has =
          ap (λ (x : Way). length x.entries)
          ((has_one_way (world.disk.contents w.disk)).way (kept_by shelf).way way (is_way told) has)

      stopped_run : (IsWorkDone cause → ⊥)
          → StopsEarly world asked run.bytes cause w w'
      stopped_run undone = record {
        number = length (kept_by shelf).way.entries;
        lines = ⊎_elim (λ lines. inl lines)
            (λ last. inr (last.0, record { stop = last.1.stop; reason = last.1.reason; part = last.1.part }))
            (run.stopped undone);
        numbered = λ way told has some. numbered_run way told has;
      }

      ended_run : IsWorkDone cause → EndsWork world asked run.bytes cause w w'
      ended_run done =
          let there = run.ended done in
          record {
            stop = there.stop;
            is = there.is;
            reason = there.reason;
            number = length (kept_by shelf).way.entries;
            got = there.got;
            numbered = numbered_run;
            stand = λ initial told stands.
                (run.ends initial (outlets d1 w.out) (begun_after initial told stands)).1.stands done;
          }

      changes_run : (way : Way) → world.disk.tells w.disk → IsWay (world.disk.contents w.disk) way
          → ChangesFor way (placed_files (files_asked asked run.bytes)) (world.disk.contents w.disk)
          (world.disk.contents w'.disk)
      changes_run way told has =
          let files = placed_files (files_asked asked run.bytes) in
          subst (λ (x : Way). ChangesFor x files (world.disk.contents w.disk) (world.disk.contents w'.disk))
          ((has_one_way (world.disk.contents w.disk)).way (kept_by shelf).way way (is_way told) has)
          (subst (λ (l : List ℕ). ChangesFor (kept_by shelf).way files l (world.disk.contents w'.disk))
          (loads.only_read.unwritten told).contents (run.outside (loads.calls.tell.told told)))

      images_run : (way : Way) → world.disk.tells w.disk → IsWay (world.disk.contents w.disk) way
          → NothingPending world.disk w.disk
          → ChangesImagesFor world.disk way (placed_files (files_asked asked run.bytes)) w.disk w'.disk
      images_run way told has only =
          let files = placed_files (files_asked asked run.bytes) in
          let read = loads.only_read.unwritten told in
          let old = world.disk.contents w.disk in
          let loading = loading_images way files told only in
          let same_way : (kept_by shelf).way ≡ way =
          (has_one_way old).way (kept_by shelf).way way (is_way told) has in
          ⊎_elim
          (λ same. subst (λ (x : D). ChangesImagesFor world.disk way files w.disk x) (sym same) loading)
          (λ then.
          joined world.disk.moment world.disk.left_since w.disk d1 w'.disk _ loading
          (weaker world.disk.moment world.disk.left_since d1 w'.disk _ _
          (λ c changes.
          subst (λ (x : Way). ChangesFor x files old c) same_way
          (subst (λ (l : List ℕ). ChangesFor (kept_by shelf).way files l c) read.contents changes)) then))
          (run.moments (loads.calls.tell.told told) (λ c image. only c (read.images c image) ∙ sym read.contents))

      pub loaded_run : ReceiveRun world asked cause w w'
      loaded_run = record {
        causes = run_cause cause run.kind;
        counted = first_run;
        bytes = run.bytes;
        read = run.read;
        tell = record {
          by_disk = tells_both loads.calls.tell run.tell.by_disk;
          by_out = run.tell.by_out;
        };
        onto = record {
          way = onto_way;
          keeps_up = λ initial told stands only. keeps_up_run initial told stands;
        };
        ended = ended_run;
        stopped = stopped_run;
        wants = record {
          refused = λ at named. absurd (run_kind cause run.kind at named);
          broken = λ at told no.
              absurd (subst (λ (r : Result Shelf ShelfError). MatchResult r (λ _. ⊥) (MayRefuseAt at)) is
              (loads.broken at told no));
        };
        capacity = record {
          full = λ way needed most named told has.
              subst (λ (x : Way). IsFullWith x needed most (placed_files (files_asked asked run.bytes)))
              ((has_one_way (world.disk.contents w.disk)).way (kept_by shelf).way way (is_way told) has)
              (run.over.full needed most named);
          nothing_fits = λ needed most named tells empty.
              let full = run.over.full needed most named in
              full_reads world.source asked.mend asked.input asked.limit run.bytes w.source w'.source run.read tells
              empty full.done full.next full.rest full.split;
        };
        alone = record {
          only_read = λ none.
              subst (λ (x : D). IsOnlyRead world.disk w.disk x) (sym (run.over.same_disk (ap placed_files none)))
              loads.only_read;
          silent = λ none early. run.over.silent (ap placed_files none) early;
          unasked = λ none failed. absurd (run.over.kind (ap placed_files none) failed);
        };
        writes = record { outside = changes_run; outside_any_moment = images_run };
      }
