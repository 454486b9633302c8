-- `receive` goes on by one outcome, and what it does with all that comes of its input.
use Rattle.std.proofs.Common.{◌≡◌, ◌==◌, not, ℕ, ◌+◌, ◌*◌, ◌<◌, ◌≤◌, ◌^◌, List, [], ◌∷◌, ◌++◌, length, ap, ◌∙◌}
use Rattle.std.proofs.Common.{sym, refl, subst, arith, append_assoc, append-nil, length-append}
use Rattle.std.proofs.Common.{⊎_elim}
use Rattle.std.proofs.lemmas.Bool.{cases_lt}
use Rattle.std.proofs.lemmas.List.{length-map, map-append}
use Rattle.lr_bits.specs.declared.outcome.Outcome.{Outcome}
use Rattle.lr_bits.specs.declared.sizes.TheConstants.{FRAME_BYTES}
use Rattle.lr_io.specs.declared.source.Source.{Ghosts as SourceOf}
use Rattle.lr_io.specs.declared.sink.Sink.{Ghosts as SinkOf}
use Rattle.lr_disk.specs.declared.disk.Disk.{Ghosts as DiskOf}
use Rattle.lr_layers.specs.Layers.{CountsView, mended_numbers_of}
use Rattle.lr_layers.specs.Origins.{marked_of_outcomes, placed_packets}
use Rattle.lr_layers.specs.Standing.{MendingLayersStandFor, numbers}
use Rattle.lr_causes.specs.declared.cause.Cause.{Cause}
use Rattle.lr_causes.specs.declared.cause.Cause.TheVariants.{NoMemory}
use Rattle.lr_reading.specs.Arrivals.{arrivals_of, outcomes_of_arrivals}
use Rattle.lr_reading.specs.Runs.{TakesAll, TakesSome, course_of, lent}
use Rattle.lr_reading.specs.declared.arrival.Arrival.{Arrival}
use Rattle.lr_forms.specs.declared.forms.Input.{Input}
use Rattle.lr_reading.proofs.Coming.{outcomes_are, no_arrivals}
use Rattle.lr_cmd_receive.specs.declared.shelver.Shelver.{Shelver}
use Rattle.lr_cmd_receive.specs.declared.receive_counts.ReceiveCounts.{ReceiveCounts}
use Rattle.lr_cmd_receive.specs.Inputs.{files_of_bytes}
use Rattle.lr_cmd_receive.specs.Noted.{NotedFile, noted_of_outcomes}
use Rattle.lr_cmd_receive.specs.Reception.{FewWait, ReadsAll, ReadsSome, run_of}
use Rattle.lr_cmd_receive.specs.Receive.{receive_query}
use Rattle.lr_cmd_receive.specs.Shelved.{HasShelved, ShelvesSoFar, StopsShelving, Gains, GainsNoMore}
use Rattle.lr_cmd_receive.specs.Shelved.{shelf_in, one_more}
use Rattle.lr_cmd_receive.specs.ShelverTaken.{HasSameParts, ShelverTook, ShelverStopped, files_of_arrivals}
use Rattle.lr_cmd_receive.specs.ShelverTaken.{lent_to, mend_of}
use Rattle.lr_layers.proofs.Pushing.{both_kinds}
use Rattle.lr_cmd_receive.specs.Shelving.{AreAcknowledged}
use Rattle.lr_cmd_receive.proofs.FirstFiles.{files_first}
use Rattle.lr_cmd_receive.proofs.Timely.{all_come_first, worked_in_time}
use Rattle.lr_cmd_receive.proofs.Acknowledging.{acknowledged_more}
use Rattle.lr_cmd_receive.proofs.Pieces.{shelved_none, shelved_on, stopped_after, stopped_before}
use Rattle.lr_cmd_receive.proofs.ShelvingOne.{no_line}
use Rattle.lr_causes.specs.Outside.{Outlets, outlets_of, outside, world_of}
use Rattle.lr_reading.specs.Readers.{leeway_for}
use Rattle.lr_shelf.specs.InitialShelves.{InitialShelf}

-- no outcomes have no files
pub no_files : (mend : ℕ) → noted_of_outcomes mend [] ≡ []
unfolding noted_of_outcomes marked_of_outcomes placed_packets
no_files mend = refl

-- no bytes have none
pub no_bytes : (mend : ℕ) (input : Input) → files_of_bytes mend input [] ≡ []
unfolding files_of_bytes
no_bytes mend input =
    ap (noted_of_outcomes mend) (outcomes_are input [] ∙ ap outcomes_of_arrivals (no_arrivals input)) ∙ no_files mend

-- one outcome more
outcomes-push : (arrivals : List Arrival) (arrival : Arrival) → outcomes_of_arrivals (arrivals ++ arrival ∷ [])
    ≡ outcomes_of_arrivals arrivals ++ arrival.outcome ∷ []
outcomes-push arrivals arrival = map-append (λ (a : Arrival). a.outcome) arrivals (arrival ∷ [])

files_all : (mend : ℕ) (input : Input) (bytes : List ℕ)
    → files_of_bytes mend input bytes ≡ files_of_arrivals mend (arrivals_of input bytes)
unfolding files_of_bytes
files_all mend input bytes = ap (noted_of_outcomes mend) (outcomes_are input bytes)

-- ---- one outcome more

module _ {D O : Type 0} (disk : DiskOf D) (out : SinkOf O) where
  -- it begins
  pub shelver_begun : (shelver : Shelver D O) → MendingLayersStandFor (mend_of shelver) shelver.layers.now []
      → numbers shelver.counts ≡ shelver.layers.now.numbers → shelver.mends ≡ not (mend_of shelver == 0)
      → ShelverTook (outlets_of disk out) shelver [] shelver
  shelver_begun shelver stands counted mends = record {
    on_same = record { same_layers = refl; same_shelf = refl; same_disk = refl; same_out = refl };
    stands = stands;
    counted = counted;
    mends = mends;
    shelved = subst (λ (l : List NotedFile). HasShelved (outlets_of disk out) l
        (shelf_in shelver.shelf.now (lent_to shelver)) (shelf_in shelver.shelf.now (lent_to shelver)))
        (sym (no_files (mend_of shelver)))
        (shelved_none (outlets_of disk out) shelver.shelf.now (lent_to shelver));
  }

  pub shelver_ready : (shelver : Shelver D O) → MendingLayersStandFor (mend_of shelver) shelver.layers.now []
      → numbers shelver.counts ≡ shelver.layers.now.numbers → shelver.mends ≡ not (mend_of shelver == 0)
      → (first : Shelver D O) × ShelverTook (outlets_of disk out) first [] shelver
  shelver_ready shelver stands counted mends = (shelver, shelver_begun shelver stands counted mends)

  module _ {before now : Shelver D O} {arrivals : List Arrival}
      (took : ShelverTook (outlets_of disk out) before arrivals now) where
    -- the layers may take one more
    pub few : FRAME_BYTES * (length arrivals + 1) ≤ 2 ^ 48
        → now.layers.now.numbers.restored + now.layers.now.numbers.lost < 2 ^ 48
    few fits =
        omega (
          arith,
          fits,
          both_kinds (outcomes_of_arrivals arrivals),
          length-map arrivals (λ (a : Arrival). a.outcome),
          ap (λ (n : CountsView). n.restored + n.lost) took.stands.numbers,
        )

    -- memory for reading on was refused
    pub shelver_refused : ShelverStopped (outlets_of disk out) before arrivals NoMemory now
    shelver_refused =
        let files = files_of_arrivals (mend_of before) arrivals in
        record {
          on_same = took.on_same;
          stopped = subst (λ (l : List NotedFile). StopsShelving (outlets_of disk out) NoMemory l
              (shelf_in before.shelf.now (lent_to before)) (lent_to now)) (append-nil files)
              (stopped_after (outlets_of disk out) took.shelved
              (no_line (outlets_of disk out) [] now.shelf.now (lent_to now)));
          worked = arrivals;
          late = [];
          split = sym (append-nil arrivals);
          one = omega arith;
          keeps = λ initial start so_far.
              subst (λ (l : List NotedFile). AreAcknowledged (outlets_of disk out) initial l files start
              (lent_to now))
              (append-nil files)
              ((no_line (outlets_of disk out) [] now.shelf.now (lent_to now)).keeps initial files start
              (took.shelved.shelved initial [] start so_far));
        }

    module _ (arrival : Arrival) (now' : Shelver D O) (same : HasSameParts now now') where
      both : HasSameParts before now'
      both = record {
        same_layers = same.same_layers ∙ took.on_same.same_layers;
        same_shelf = same.same_shelf ∙ took.on_same.same_shelf;
        same_disk = same.same_disk ∙ took.on_same.same_disk;
        same_out = same.same_out ∙ took.on_same.same_out;
      }

      is : noted_of_outcomes (mend_of before) (outcomes_of_arrivals arrivals ++ arrival.outcome ∷ [])
          ≡ files_of_arrivals (mend_of before) (arrivals ++ arrival ∷ [])
      is = ap (noted_of_outcomes (mend_of before)) (sym (outcomes-push arrivals arrival))

      -- its files were shelved
      pub shelver_more : MendingLayersStandFor (mend_of before) now'.layers.now
          (outcomes_of_arrivals arrivals ++ arrival.outcome ∷ [])
          → numbers now'.counts ≡ now'.layers.now.numbers → now'.mends ≡ now.mends
          → Gains (outlets_of disk out) (one_more (mend_of before) (outcomes_of_arrivals arrivals) arrival.outcome)
          (shelf_in now.shelf.now (lent_to now)) (shelf_in now'.shelf.now (lent_to now'))
          → ShelverTook (outlets_of disk out) before (arrivals ++ arrival ∷ []) now'
      shelver_more stands counted same_mends gains = record {
        on_same = both;
        stands = subst (λ (l : List Outcome). MendingLayersStandFor (mend_of before) now'.layers.now l)
            (sym (outcomes-push arrivals arrival)) stands;
        counted = counted;
        mends = same_mends ∙ took.mends
            ∙ ap (λ (n : ℕ). not (n == 0)) (took.stands.most ∙ sym stands.most);
        shelved = subst (λ (l : List NotedFile). HasShelved (outlets_of disk out) l
            (shelf_in before.shelf.now (lent_to before)) (shelf_in now'.shelf.now (lent_to now')))
            (sym gains.files ∙ is)
            (shelved_on (outlets_of disk out) took.shelved gains.shelved);
      }

      -- they were not
      pub shelver_stopped : (cause : Cause)
          → GainsNoMore (outlets_of disk out) cause (one_more (mend_of before)
          (outcomes_of_arrivals arrivals) arrival.outcome)
          (shelf_in now.shelf.now (lent_to now)) (lent_to now')
          → ShelverStopped (outlets_of disk out) before (arrivals ++ arrival ∷ []) cause now'
      shelver_stopped cause gains = record {
        on_same = both;
        stopped = subst (λ (l : List NotedFile). StopsShelving (outlets_of disk out) cause l
            (shelf_in before.shelf.now (lent_to before)) (lent_to now')) (sym gains.files ∙ is)
            (stopped_after (outlets_of disk out) took.shelved gains.stopped);
        worked = arrivals;
        late = arrival ∷ [];
        split = refl;
        one = omega arith;
        keeps = λ initial start so_far.
            let files = files_of_arrivals (mend_of before) arrivals in
            subst (λ (l : List NotedFile). AreAcknowledged (outlets_of disk out) initial l files start
            (lent_to now'))
            (sym gains.files ∙ is)
            (gains.stopped.keeps initial files start (took.shelved.shelved initial [] start so_far));
      }

-- ---- the whole input

module _ {S D O : Type 0} (source : SourceOf S) (disk : DiskOf D) (out : SinkOf O) (input : Input) (limit : ℕ)
    {s s' : S} {before now : Shelver D O} (begun : ShelverTook (outlets_of disk out) before [] before) where
  -- all files were shelved
  received_all : (workers : ℕ) (sums : ReceiveCounts)
      → TakesAll (course_of source (ShelverTook (outlets_of disk out)) input limit (leeway_for input workers))
      sums.totals
      (lent s before) (lent s' now)
      → sums.counts ≡ now.counts
      → ReadsAll (world_of source disk out) (receive_query (mend_of before) input workers limit) sums
      (shelf_in before.shelf.now (outside s before.disk.now before.out.now))
      (shelf_in now.shelf.now (outside s' now.disk.now now.out.now))
  received_all workers sums all same =
      let took = all.taken before begun in
      record {
        bytes = all.bytes;
        ends = all.ends;
        counts = ap numbers same ∙ took.counted ∙ took.stands.numbers
            ∙ ap (λ (l : List Outcome). mended_numbers_of (mend_of before) l) (sym (outcomes_are input all.bytes));
        shelved = subst (λ (l : List NotedFile). HasShelved (outlets_of disk out) l
            (shelf_in before.shelf.now (lent_to before)) (shelf_in now.shelf.now (lent_to now)))
            (sym (files_all (mend_of before) input all.bytes)) took.shelved;
        in_time = all_come_first source (receive_query (mend_of before) input workers limit) all.bytes s s' all.in_time;
      }

  -- they were not
  received_some : (workers : ℕ) (cause : Cause)
      → TakesSome (course_of source (ShelverTook (outlets_of disk out)) input limit (leeway_for input workers))
      (ShelverStopped (outlets_of disk out)) cause
      (lent s before) (lent s' now)
      → ReadsSome (world_of source disk out) (receive_query (mend_of before) input workers limit) cause
      (shelf_in before.shelf.now (outside s before.disk.now before.out.now)) (outside s' now.disk.now now.out.now)
  received_some workers cause some =
      let halted = some.stops before begun in
      let stopped = halted.stopped in
      let first = files_first (mend_of before) input some.bytes some.passed some.rest some.split in
      let timely : (initial : InitialShelf) (start : Outlets D O)
      → ShelvesSoFar (outlets_of disk out) initial [] start (shelf_in before.shelf.now (lent_to before))
      → FewWait (outlets_of disk out) (run_of (receive_query (mend_of before) input workers limit) initial some.bytes)
      start
      (lent_to now) =
      λ initial start so_far. record {
        worked = outcomes_of_arrivals halted.worked;
        late = outcomes_of_arrivals (halted.late ++ some.rest);
        split = outcomes_are input some.bytes
            ∙ ap outcomes_of_arrivals (some.split ∙ ap (λ (l : List Arrival). l ++ some.rest) halted.split
            ∙ append_assoc halted.worked halted.late some.rest)
            ∙ map-append (λ (a : Arrival). a.outcome) halted.worked (halted.late ++ some.rest);
        few = omega (
          arith,
          length-map (halted.late ++ some.rest) (λ (a : Arrival). a.outcome),
          length-append halted.late some.rest,
          halted.one,
          some.near,
        );
        close = λ count come. ⊎_elim (λ (none : count < 1). omega (arith, none))
            (λ (least : 1 ≤ count). omega (
              arith,
              some.close count (omega (arith, least)) come,
              ap (λ (l : List Arrival). length l) halted.split,
              length-append halted.worked halted.late,
              halted.one,
              length-map halted.worked (λ (a : Arrival). a.outcome),
            )) (cases_lt count 1);
        acknowledged = subst (λ (l : List NotedFile). AreAcknowledged (outlets_of disk out) initial l
            (files_of_arrivals (mend_of before) halted.worked) start (lent_to now)) (sym first.1)
            (acknowledged_more (outlets_of disk out) initial first.0 (halted.keeps initial start so_far));
      } in
      record {
        bytes = some.bytes;
        read = some.read;
        stopped = subst (λ (l : List NotedFile). StopsShelving (outlets_of disk out) cause l
            (shelf_in before.shelf.now (lent_to before)) (lent_to now)) (sym first.1)
            (stopped_before (outlets_of disk out) first.0 stopped);
        files = files_of_arrivals (mend_of before) some.passed;
        early = stopped;
        first = λ line symbols told few calm.
            let later = some.begins line symbols told few calm in
            files_first (mend_of before) input (some.bytes ++ source.left s') some.passed later.0 later.1;
        timely = timely;
        in_time = λ initial start so_far. worked_in_time source (receive_query (mend_of before) input workers limit)
            some.bytes s s'
            (outlets_of disk out) initial start (lent_to now) some.passed some.rest halted.worked halted.late
            some.split
            halted.split halted.one (timely initial start so_far) refl some.in_time;
      }

  -- the same, where an image has at most `mend` fillers
  module _ (mend : ℕ) (most : mend_of before ≡ mend) where
    pub read_all : (workers : ℕ) (sums : ReceiveCounts)
        → TakesAll (course_of source (ShelverTook (outlets_of disk out)) input limit (leeway_for input workers))
        sums.totals
        (lent s before) (lent s' now)
        → sums.counts ≡ now.counts
        → ReadsAll (world_of source disk out) (receive_query mend input workers limit) sums
        (shelf_in before.shelf.now (outside s before.disk.now before.out.now))
        (shelf_in now.shelf.now (outside s' now.disk.now now.out.now))
    read_all workers sums all same =
        subst (λ (n : ℕ). ReadsAll (world_of source disk out) (receive_query n input workers limit) sums
        (shelf_in before.shelf.now (outside s before.disk.now before.out.now))
        (shelf_in now.shelf.now (outside s' now.disk.now now.out.now))) most (received_all workers sums all same)

    pub read_some : (workers : ℕ) (cause : Cause)
        → TakesSome (course_of source (ShelverTook (outlets_of disk out)) input limit (leeway_for input workers))
        (ShelverStopped (outlets_of disk out)) cause
        (lent s before) (lent s' now)
        → ReadsSome (world_of source disk out) (receive_query mend input workers limit) cause
        (shelf_in before.shelf.now (outside s before.disk.now before.out.now)) (outside s' now.disk.now now.out.now)
    read_some workers cause some =
        subst (λ (n : ℕ). ReadsSome (world_of source disk out) (receive_query n input workers limit) cause
        (shelf_in before.shelf.now (outside s before.disk.now before.out.now)) (outside s' now.disk.now now.out.now))
        most (received_some workers cause some)
