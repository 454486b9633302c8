-- What `trial` leaves of the disk once its shelf is made, at each exit.
use Rattle.std.proofs.Common.{◌≡◌, ◌⊎◌, inl, inr, ℕ, ◌<◌, ◌≤◌, false, List, [], ◌∷◌, ◌++◌, length}
use Rattle.std.proofs.Common.{refl, sym, ◌∙◌, ap, subst, arith, append_assoc, append-nil}
use Rattle.std.proofs.Common.{length-append, Result, Ok, Err, IfOk, IfErr, OnOk}
use Rattle.lr_bits.specs.Faults.{Rose}
use Rattle.lr_bits.specs.declared.placed.Placed.{Placed}
use Rattle.lr_bits.proofs.Telling.{tells_both}
use Rattle.lr_io.specs.declared.source.Source.{Ghosts as SourceOf}
use Rattle.lr_io.specs.declared.sink.Sink.{Ghosts as SinkOf}
use Rattle.lr_disk.specs.declared.disk.Disk.{Ghosts as DiskOf}
use Rattle.lr_shelf_format.specs.ShelfBytes.{StandsForShelf, end_of}
use Rattle.lr_shelf_format.specs.Way.{Way, way_of}
use Rattle.lr_shelf.specs.Load.{Loads, IsLoadRefusal}
use Rattle.lr_shelf.specs.Kept.{kept_by}
use Rattle.lr_shelf.specs.Shelf.{IsDurable, IsSettled}
use Rattle.lr_shelf.specs.declared.shelf.Shelf.{Shelf}
use Rattle.lr_shelf.specs.declared.error.ShelfError.{ShelfError}
use Rattle.lr_shelf.specs.declared.error.ShelfError.TheVariants.{Disk as Disk'}
use Rattle.lr_shelf.specs.declared.error.ShelfError.TheVariants.{NotAShelf as NotAShelf'}
use Rattle.lr_shelf.specs.declared.error.ShelfError.TheVariants.{NoMemory as NoMemory'}
use Rattle.lr_disk.specs.Pending.{EachImageSince, NothingPending}
use Rattle.lr_disk.proofs.Moments.{joined, weaker}
use Rattle.lr_forms.specs.declared.forms.Stop.{Stop}
use Rattle.lr_forms.specs.declared.forms.Stop.TheVariants.{End, Limit, Fault}
use Rattle.lr_causes.specs.declared.cause.Cause.{Cause}
use Rattle.lr_causes.specs.declared.cause.Cause.TheVariants.{Done, Failed, NoMemory, Refused}
use Rattle.lr_causes.specs.declared.cause.Party.TheVariants.{Disk, Output}
use Rattle.lr_causes.specs.declared.cause.Refusal.TheVariants.{NotAShelf, Capacity}
use Rattle.lr_cmd_receive.specs.declared.receive_counts.ReceiveCounts.{ReceiveCounts}
use Rattle.lr_cmd_receive.specs.declared.test_stream.TheConstants.{TEST_DECODING}
use Rattle.lr_forms.specs.declared.forms.Input.TheVariants.{Symbols}
use Rattle.lr_causes.specs.Causes.{counts}
use Rattle.lr_refusals.specs.Errors.{cause_of}
use Rattle.lr_cmd_receive.specs.Inputs.{files_of_bytes}
use Rattle.lr_cmd_receive.specs.Noted.{placed_files}
use Rattle.lr_cmd_receive.proofs.Noted.{placed-append, placed_split}
use Rattle.lr_reading.specs.Reading.{IsRead, EndsFor}
use Rattle.lr_cmd_receive.specs.Receive.{receive_last, receive_query}
use Rattle.lr_cmd_receive.specs.Reception.{sums_line, ReadsAll, ReadsSome}
use Rattle.lr_shelf.specs.InitialShelves.{HoldsStill, InitialShelf, IsSettledOn, LeavesPrefixes, StandsForPrefix}
use Rattle.lr_shelf.specs.InitialShelves.{shelf_before, with_files}
use Rattle.lr_shelf.specs.Prefixes.{end_with}
use Rattle.lr_cmd_receive.specs.Shelving.{StopsBy}
use Rattle.lr_cmd_receive.specs.Shelved.{MayStop, StopsTrial, ShelvesSoFar, shelf_in}
use Rattle.lr_cmd_receive.specs.Trial.{trial_capacity, GotFiles, StandsForPart, HoldsTrialPart, trial_files}
use Rattle.lr_cmd_receive.specs.Filling.{FillEnds, FillsDisk, StopsFilling}
use Rattle.lr_cmd_receive.proofs.Causing.{first_later, first_refused, none_rose}
use Rattle.lr_causes.specs.Counts.{CountsTell}
use Rattle.lr_cmd_receive.specs.First.{SourceBesides}
use Rattle.lr_cmd_receive.proofs.ReceiveEnding.{last_line_is, loaded}
use Rattle.lr_shelf.proofs.InitialPrefixes.{still_left}
use Rattle.lr_shelf.proofs.OnShelves.{files_come_onto_shelves, settled_before, way_of_items}
use Rattle.lr_shelf.proofs.Prefixes.{end_with-append, way_end}
use Rattle.lr_cmd_receive.specs.Onto.{ChangesFor, ChangesImagesFor}
use Rattle.lr_cmd_receive.proofs.Changing.{both_of, change_among, change_for, no_change}
use Rattle.lr_cmd_receive.proofs.ShelvingOne.{same_of}
use Rattle.lr_causes.specs.Outside.{outlets, outlets_of, outside, world_of}

-- a sink that counts no fault doesn't stop it
pub stops_trial : (cause : Cause) (s s' d d' : ℕ) → MayStop cause
    → CountsTell SourceBesides cause (counts s d 0) (counts s' d' 0) → StopsTrial cause
stops_trial (Failed Disk) s s' d d' may caused = tt
stops_trial (Failed Output) s s' d d' may caused = absurd (none_rose caused.named)
stops_trial NoMemory s s' d d' may caused = tt
stops_trial (Refused (Capacity needed most)) s s' d d' may caused = tt
stops_trial _ s s' d d' may caused = absurd may

-- a prefix of the first ones of the files, on a shelf that was empty
stands_for_part : (symbols : List ℕ) (files later : List Placed)
    → trial_files symbols ≡ files ++ later → (n : ℕ) (old bytes : List ℕ) → StandsForShelf old trial_capacity []
    → StandsForPrefix (shelf_before trial_capacity [] old) files n bytes → StandsForPart symbols n bytes
stands_for_part symbols files later split n old bytes stood stands = record {
  first = stands.first;
  rest = stands.rest ++ later;
  split = split ∙ ap (λ (l : List Placed). l ++ later) stands.split ∙ append_assoc stands.first stands.rest later;
  enough = stands.enough;
  stands = files_come_onto_shelves.some trial_capacity [] old bytes stands.first stood stands.stands;
}

-- where such a shelf ends
ends_alike : (files : List Placed) → end_of (with_files [] files) ≡ end_with (end_of []) files
ends_alike files = sym (ap (λ (w : Way). w.end) (way_of_items trial_capacity files []))
    ∙ way_end files (way_of trial_capacity [])

-- an empty shelf
none_of : (symbols bytes : List ℕ) → StandsForShelf bytes trial_capacity [] → StandsForPart symbols 0 bytes
none_of symbols bytes stands = record {
  first = [];
  rest = trial_files symbols;
  split = refl;
  enough = omega arith;
  stands = stands;
}

module _ {D : Type 0} (disk : DiskOf D) (symbols : List ℕ) (d1 : D)
    (empty : disk.tells d1 → IsDurable disk trial_capacity [] d1) where
  -- the empty shelf that was there
  abbrev start : InitialShelf
  start = shelf_before trial_capacity [] (disk.contents d1)

  -- ---- the empty shelf was loaded, or not
  module _ (d2 : D) (result2 : Result Shelf ShelfError) (loads : Loads disk d1 d2 result2) where
    empty_moments : disk.tells d1
        → EachImageSince disk d1 d2 (λ c. StandsForShelf c trial_capacity [])
    empty_moments told =
        let durable = empty told in
        weaker disk.moment disk.left_since d1 d2 _ _
        (λ c image. subst (λ (l : List ℕ). StandsForShelf l trial_capacity []) (sym (durable.durable c image))
        durable.stands) (loads.only_read.unwritten told).any_moment

    empty_images : (files : List Placed) → disk.tells d1
        → ChangesImagesFor disk (way_of trial_capacity []) files d1 d2
    empty_images files told =
        weaker disk.moment disk.left_since d1 d2 _ _
        (λ c image.
        no_change (way_of trial_capacity []) files (disk.contents d1) c ((empty told).durable c image))
        (loads.only_read.unwritten told).any_moment

    holds_none : disk.tells d1 → HoldsTrialPart disk symbols 0 d2
    holds_none told =
        let durable = loads.durable trial_capacity [] told (empty told) in
        record { contents = none_of symbols (disk.contents d2) durable.stands; images = durable.durable }

    got_none : disk.tells d1 → GotFiles symbols (disk.contents d1) (disk.contents d2)
    got_none told = record {
      stands = (holds_none told).contents;
      changes = no_change (way_of trial_capacity []) (trial_files symbols) (disk.contents d1)
          (disk.contents d2) (loads.only_read.unwritten told).contents;
    }

    unloaded_kind : (e : ShelfError) → IsLoadRefusal disk d1 e → StopsTrial (cause_of e)
    unloaded_kind Disk' r = tt
    unloaded_kind (NotAShelf' at) r = tt
    unloaded_kind NoMemory' r = tt
    unloaded_kind _ r = absurd r

    unloaded_ends : (e : ShelfError) → result2 ≡ Err e → IsLoadRefusal disk d1 e
        → FillEnds disk symbols (cause_of e) d1 d2
    unloaded_ends Disk' is r = tt
    unloaded_ends (NotAShelf' at) is r = λ told. loads.is_shelf trial_capacity [] told (empty told).stands at is
    unloaded_ends NoMemory' is r = λ told. holds_none told
    unloaded_ends _ is r = absurd r

    pub not_loaded : (e : ShelfError) → result2 ≡ Err e → IsLoadRefusal disk d1 e
        → StopsFilling disk symbols (cause_of e) d1 d2
    not_loaded e is r = record {
      kind = unloaded_kind e r;
      fills = record {
        tell = loads.calls.tell;
        ends = unloaded_ends e is r;
        got = got_none;
        any_moment = λ told. weaker disk.moment disk.left_since d1 d2 _ _
            (λ c at. record { stands = none_of symbols c at.0; changes = at.1 })
            (both_of disk.moment disk.left_since d1 d2 _ _ (empty_moments told)
            (empty_images (trial_files symbols) told));
      };
      first = first_refused e result2 0 0 (disk.faults d1) (disk.faults d2) 0 is
          (λ failed. subst (λ (x : ShelfError). IsLoadRefusal disk d1 x) failed r) loads.calls.counted;
    }

    -- ---- the files of the symbols, or of the first of them
    module _ {S O : Type 0} (source : SourceOf S) (out : SinkOf O) (limit : ℕ) (few : length symbols < limit)
        (shelf : Shelf) (is2 : result2 ≡ Ok shelf) (s s' : S) (given : source.tells s)
        (gives : source.left s ≡ symbols) (d' : D) (o o' : O) where
      same_count : disk.faults d2 ≡ disk.faults d1
      same_count = same_of disk d1 d2 result2 shelf is2 loads.calls.counted

      begun : disk.tells d1
          → ShelvesSoFar (outlets_of disk out) start [] (outlets d1 o)
          (shelf_in shelf (outlets d2 o))
      begun told =
          let settled = subst (λ (r : Result Shelf ShelfError). IfOk r
          (λ x. IsSettled disk trial_capacity [] x d2)) is2
          (loads.settled trial_capacity [] told (empty told).stands) in
          let read = loads.only_read.unwritten told in
          let stands = files_come_onto_shelves.none trial_capacity [] (disk.contents d1) (empty told).stands in
          loaded (outlets_of disk out) start (outlets d1 o) d2 shelf
          (subst (λ (l : List ℕ). IsSettledOn (shelf_before trial_capacity [] l) [] disk shelf d2) read.contents
          (settled_before disk trial_capacity [] shelf d2 settled))
          (still_left disk start d1 d2 read stands (empty told).durable) same_count

      -- what was read is the first of the symbols
      split_of : (bytes : List ℕ) → IsRead source limit bytes s s' → symbols ≡ bytes ++ source.left s'
      split_of bytes read = sym gives ∙ read.moved given

      -- the way that the shelf in memory keeps
      way_is : disk.tells d1 → (kept_by shelf).way ≡ way_of trial_capacity []
      way_is told = (begun told).settled.kept.way

      module _ (files later : List Placed) (split : trial_files symbols ≡ files ++ later) where
        holds_front : disk.tells d1 → (done rest : List Placed) → files ≡ done ++ rest
            → HoldsStill start done disk d' → HoldsTrialPart disk symbols 0 d'
        holds_front told done rest is durable = record {
          contents = stands_for_part symbols files later split 0 (disk.contents d1) (disk.contents d')
              (empty told).stands (record {
                first = done;
                rest = rest;
                split = is;
                enough = omega arith;
                stands = durable.stands;
              });
          images = durable.durable;
        }

        -- whatever bytes these are
        got_so : (told : disk.tells d1) (c : List ℕ) → StandsForPrefix start files 0 c
            → ChangesFor (way_of trial_capacity []) files (disk.contents d1) c → GotFiles symbols (disk.contents d1) c
        got_so told c stands changes =
            let way = way_of trial_capacity [] in
            record {
              stands = stands_for_part symbols files later split 0 (disk.contents d1) c (empty told).stands stands;
              changes = subst (λ (l : List Placed). ChangesFor way l (disk.contents d1) c) (sym split)
                  (change_among way files later (disk.contents d1) c changes);
            }

        -- those of the shelf in memory
        from_loaded : (told : disk.tells d1) (c : List ℕ) → ChangesFor (kept_by shelf).way files (disk.contents d2) c
            → ChangesFor (way_of trial_capacity []) files (disk.contents d1) c
        from_loaded told c changes =
            subst (λ (l : List ℕ). ChangesFor (way_of trial_capacity []) files l c)
            (loads.only_read.unwritten told).contents
            (subst (λ (x : Way). ChangesFor x files (disk.contents d2) c) (way_is told) changes)

        all_images : (told : disk.tells d1)
            → (d' ≡ d2) ⊎ ChangesImagesFor disk (kept_by shelf).way files d2 d'
            → ChangesImagesFor disk (way_of trial_capacity []) files d1 d'
        all_images told (inl same) =
            subst (λ (x : D). ChangesImagesFor disk (way_of trial_capacity []) files d1 x) (sym same)
            (empty_images files told)
        all_images told (inr run) =
            joined disk.moment disk.left_since d1 d2 d' _ (empty_images files told)
            (weaker disk.moment disk.left_since d2 d' _ _ (from_loaded told) run)

        got_moments : (told : disk.tells d1) → LeavesPrefixes disk start files d1 d'
            → (d' ≡ d2) ⊎ ChangesImagesFor disk (kept_by shelf).way files d2 d'
            → EachImageSince disk d1 d' (GotFiles symbols (disk.contents d1))
        got_moments told leaves images =
            weaker disk.moment disk.left_since d1 d' _ _ (λ c at. got_so told c at.0 at.1)
            (both_of disk.moment disk.left_since d1 d' _ _ leaves (all_images told images))

        -- nothing is pending on the disk that was loaded
        only_loaded : disk.tells d1 → NothingPending disk d2
        only_loaded told = (loads.durable trial_capacity [] told (empty told)).durable

        got_front : (told : disk.tells d1)
            → StandsForPrefix start files 0 (disk.contents d')
            → ChangesFor (kept_by shelf).way files (disk.contents d2) (disk.contents d')
            → GotFiles symbols (disk.contents d1) (disk.contents d')
        got_front told stands changes =
            got_so told (disk.contents d') stands (from_loaded told (disk.contents d') changes)

      -- shelving stopped
      module _ (calm : Rose (source.faults s) (source.faults s') → ⊥)
          (fit : end_of (with_files [] (trial_files symbols)) ≤ trial_capacity)
          (workers : ℕ) (cause : Cause)
          (some : ReadsSome (world_of source disk out) (receive_query 0 (Symbols TEST_DECODING) workers limit) cause
          (shelf_in shelf (outside s d2 o)) (outside s' d' o')) where
        split : symbols ≡ some.bytes ++ source.left s'
        split = split_of some.bytes some.read

        -- the files that were shelved are the first ones of all
        come_first : (later : List Placed) × (trial_files symbols ≡ placed_files some.files ++ later)
        come_first =
            let few_read : length some.bytes < limit =
            omega (arith, few, ap length split, length-append some.bytes (source.left s')) in
            let first = some.first TEST_DECODING refl given few_read calm in
            (placed_files first.0, ap trial_files split ∙ placed_split some.files first.0 first.1)

        -- and all of them fit
        all_fit : (done rest : List Placed) (next : Placed) → placed_files some.files ≡ done ++ next ∷ rest
            → trial_capacity < end_with (end_of []) (done ++ next ∷ []) → ⊥
        all_fit done rest next is over =
            let first = come_first in
            let all : trial_files symbols ≡ (done ++ next ∷ []) ++ (rest ++ first.0) =
            first.1 ∙ ap (λ (l : List Placed). l ++ first.0) is
            ∙ append_assoc done (next ∷ rest) first.0 ∙ sym (append_assoc done (next ∷ []) (rest ++ first.0)) in
            omega (
              arith,
              over,
              fit,
              ends_alike (trial_files symbols),
              ap (end_with (end_of [])) all,
              end_with-append (end_of []) (done ++ next ∷ []) (rest ++ first.0),
            )

        stopped_ends : (c : Cause) → (disk.tells d1
            → StopsBy (outlets_of disk out) start some.files c (outlets d1 o)
            (outlets d' o')) → StopsTrial c
            → FillEnds disk symbols c d1 d'
        stopped_ends (Failed Disk) why kind = tt
        stopped_ends NoMemory why kind = λ told.
            let w = why told in holds_front (placed_files some.files) come_first.0 come_first.1 told
            (placed_files w.done)
            (placed_files w.rest) (placed_split w.done w.rest w.split) w.durable
        stopped_ends (Refused (NotAShelf at)) why kind = λ told. absurd (why told)
        stopped_ends (Refused (Capacity needed most)) why kind = λ told.
            let w = why told in absurd (all_fit (placed_files w.done) (placed_files w.rest) w.next.placed
            (placed_split w.done (w.next ∷ w.rest) w.split)
            (subst (λ (l : List Placed). trial_capacity < end_with (end_of []) l) (placed-append w.done (w.next ∷ []))
            w.over))
        stopped_ends _ why kind = absurd kind

        -- a sink that counts no fault
        module _ (sure : (x : O) → out.faults x ≡ 0) (works : (kept_by shelf).failed ≡ false) where
          abbrev between : ℕ → ℕ → Type 0
          between o1 o2 = CountsTell SourceBesides cause (counts 0 (disk.faults d2) o1) (counts 0 (disk.faults d') o2)

          first : CountsTell SourceBesides cause (counts 0 (disk.faults d1) 0) (counts 0 (disk.faults d') 0)
          first =
              first_later cause 0 0 (disk.faults d1) (disk.faults d2) (disk.faults d') 0 0 0 same_count refl
              (subst (between 0) (sure o')
              (subst (λ (k : ℕ). between k (out.faults o')) (sure o) (some.stopped.first works)))

          kind : StopsTrial cause
          kind = stops_trial cause 0 0 (disk.faults d1) (disk.faults d') some.stopped.kind first

          pub stopped : StopsFilling disk symbols cause d1 d'
          stopped = record {
            kind = kind;
            fills = record {
              tell = tells_both loads.calls.tell some.stopped.tell.by_disk;
              ends = stopped_ends cause
                  (λ told. (some.early.stops start [] (outlets d1 o) (begun told)).why) kind;
              got = λ told.
                  got_front (placed_files some.files) come_first.0 come_first.1 told
                  (some.early.keeps start [] (outlets d1 o) (begun told)).held.contents
                  (some.early.outside (loads.calls.tell.told told));
              any_moment = λ told.
                  got_moments (placed_files some.files) come_first.0 come_first.1 told
                  (some.early.stops start [] (outlets d1 o) (begun told)).any_moment
                  (some.early.moments (loads.calls.tell.told told)
                  (only_loaded (placed_files some.files) come_first.0 come_first.1 told));
            };
            first = first;
          }

      -- all of them are shelved
      module _ (workers : ℕ) (sums : ReceiveCounts) (shelf' : Shelf)
          (all : ReadsAll (world_of source disk out) (receive_query 0 (Symbols TEST_DECODING) workers limit) sums
          (shelf_in shelf (outside s d2 o)) (shelf_in shelf' (outside s' d' o')))
          (calm : Rose (source.faults s) (source.faults s') → ⊥) where
        split_all : symbols ≡ all.bytes ++ source.left s'
        split_all = split_of all.bytes all.ends.read

        no_longer : length all.bytes ≤ length symbols
        no_longer = omega (arith, ap length split_all, length-append all.bytes (source.left s'))

        at_end : (stop : Stop) → EndsFor source stop limit all.bytes s s' → (stop ≡ End)
            × (all.bytes ≡ symbols)
        at_end End why = (refl, sym (split_all ∙ ap (λ l. all.bytes ++ l) (why.1 given) ∙ append-nil all.bytes))
        at_end Limit why = absurd (omega (arith, why.0, no_longer, few))
        at_end Fault why = absurd (calm why.1)

        ended_so : (sums.totals.stop ≡ End) × (all.bytes ≡ symbols)
        ended_so = at_end sums.totals.stop all.ends.reason

        pub line : sums_line sums ≡ receive_last 0 (Symbols TEST_DECODING) symbols End
        line = last_line_is source 0 (Symbols TEST_DECODING) limit all.bytes s s' sums all.ends all.counts
            ∙ ap (λ stop. receive_last 0 (Symbols TEST_DECODING) all.bytes stop) ended_so.0
            ∙ ap (λ bytes. receive_last 0 (Symbols TEST_DECODING) bytes End) ended_so.1

        so_far : disk.tells d1
            → ShelvesSoFar (outlets_of disk out) start
            (files_of_bytes 0 (Symbols TEST_DECODING) all.bytes) (outlets d1 o) (shelf_in shelf' (outlets d' o'))
        so_far told = all.shelved.shelved start [] (outlets d1 o) (begun told)

        durable : disk.tells d1
            → IsDurable disk trial_capacity (with_files [] (trial_files all.bytes)) d'
        durable told =
            let still = (so_far told).settled.on_disk in record {
              stands = files_come_onto_shelves.some trial_capacity [] (disk.contents d1) (disk.contents d')
                  (trial_files all.bytes) (empty told).stands still.stands;
              durable = still.durable;
            }

        abbrev all_files : List Placed
        all_files = trial_files all.bytes

        are_all : trial_files symbols ≡ all_files ++ []
        are_all = ap trial_files (sym ended_so.1) ∙ sym (append-nil all_files)

        pub finished : FillsDisk disk symbols Done d1 d'
        finished = record {
          tell = tells_both loads.calls.tell all.shelved.tell.by_disk;
          ends = (
            λ told. subst (λ (l : List ℕ). IsDurable disk trial_capacity
                (with_files [] (trial_files l)) d') ended_so.1 (durable told),
            all.shelved.disk_count ∙ same_count,
          );
          got = λ told.
              got_front all_files [] are_all told
              (record {
                first = all_files;
                rest = [];
                split = sym (append-nil all_files);
                enough = omega arith;
                stands = (so_far told).settled.on_disk.stands;
              })
              (change_for (kept_by shelf).way all_files (disk.contents d2) (disk.contents d') all.shelved.grown.room
              (all.shelved.outside (loads.calls.tell.told told)));
          any_moment = λ told.
              got_moments all_files [] are_all told (so_far told).any_moment
              (all.shelved.moments (loads.calls.tell.told told) (only_loaded all_files [] are_all told)).1;
        }

      -- ---- for either answer
      pub stream_ends : (workers : ℕ) (shelf' : Shelf) (answer : Result ReceiveCounts Cause)
          → IfOk answer (λ sums. ReadsAll (world_of source disk out)
          (receive_query 0 (Symbols TEST_DECODING) workers limit) sums
          (shelf_in shelf (outside s d2 o)) (shelf_in shelf' (outside s' d' o')))
          → IfErr answer (λ cause. ReadsSome (world_of source disk out)
          (receive_query 0 (Symbols TEST_DECODING) workers limit)
          cause (shelf_in shelf (outside s d2 o)) (outside s' d' o'))
          → (Rose (source.faults s) (source.faults s') → ⊥)
          → end_of (with_files [] (trial_files symbols)) ≤ trial_capacity
          → ((x : O) → out.faults x ≡ 0)
          → IfOk answer (λ sums. sums_line sums ≡ receive_last 0 (Symbols TEST_DECODING) symbols End)
          × OnOk answer (FillsDisk disk symbols Done d1 d')
          × IfErr answer (λ cause. StopsFilling disk symbols cause d1 d')
      stream_ends workers shelf' (Ok sums) all some calm fit sure =
          (line workers sums shelf' all calm, finished workers sums shelf' all calm, tt)
      stream_ends workers shelf' (Err cause) all some calm fit sure = (
        tt,
        tt,
        stopped calm fit workers cause some sure
            (subst (λ (r : Result Shelf ShelfError). IfOk r (λ x. (kept_by x).failed ≡ false)) is2 loads.working),
      )
