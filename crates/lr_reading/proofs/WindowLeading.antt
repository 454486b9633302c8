-- A consumer is led through what becomes of windows.
use Rattle.std.proofs.Common.{◌≡◌, ◌<◌, ◌≤◌, ◌+◌, ◌-◌, ℕ, IsSome, List, [], ◌∷◌, ◌++◌, length, length-append}
use Rattle.std.proofs.Common.{append_assoc}
use Rattle.std.proofs.Common.{take, drop, sym, ap, ◌∙◌, subst, arith, vec_len, vec_capacity, inr, ⊎_elim, ◌^◌, Bool}
use Rattle.std.proofs.Common.{Option, Some, Result, Ok, Err, OnOk, IfErr, refl}
use Rattle.std.specs.Prelude.{All}
use Rattle.std.proofs.lemmas.Bool.{cases_lt}
use Rattle.std.proofs.lemmas.List.{take-append-le, take-append-drop, length-take}
use Rattle.std.proofs.lemmas.List.Elements.{All-push}
use Rattle.lr_forms.specs.declared.forms.Decoding.{Decoding}
use Rattle.lr_conv.specs.Marker.{tail_of}
use Rattle.lr_io.specs.declared.source.Source.{Ghosts as SourceOf}
use Rattle.lr_lock.specs.Frames.{place_after_frame}
use Rattle.lr_lock.specs.FramesOf.{frames_of}
use Rattle.lr_lock.specs.declared.sizes.TheConstants.{WINDOW_END}
use Rattle.lr_lock.specs.Symbols.{symbols_of}
use Rattle.lr_lock.specs.Windows.{WindowView}
use Rattle.lr_lock.specs.declared.frame.Frame.{Frame}
use Rattle.lr_forms.specs.declared.forms.Input.TheVariants.{Symbols}
use Rattle.lr_rounds.specs.JobSources.{led, Gives, IsDoneNext, Keeps, EndsWell, IsDriveFault}
use Rattle.lr_rounds.specs.declared.job_source.NextJob.{NextJob}
use Rattle.lr_rounds.specs.declared.job_source.NextJob.TheVariants.{Job, NotYet, Finished}
use Rattle.lr_bits.specs.declared.outcome.Outcome.{Outcome}
use Rattle.lr_frame.specs.declared.work.FrameDone.{FrameDone}
use Rattle.lr_frame.specs.Hands.{done_of}
use Rattle.lr_gatecore.proofs.Lists.{at_length}
use Rattle.lr_forms.specs.declared.forms.Stop.{Stop}
use Rattle.lr_rounds.specs.declared.drive_fault.DriveFault.{DriveFault}
use Rattle.lr_rounds.specs.declared.drive_fault.DriveFault.TheVariants.{NoMemory, Stopped}
use Rattle.lr_reading.specs.Arrivals.{arrivals_of}
use Rattle.lr_reading.specs.Readers.{EndShort, HaveCome, MayWait}
use Rattle.lr_reading.specs.Inputs.{outcomes_of_bytes}
use Rattle.lr_reading.specs.Feeding.{symbols_from, taken_since, arrivals_given, EndsInFrame, MayAsk}
use Rattle.lr_reading.specs.Feeding.{FeedState, FedSoFar}
use Rattle.lr_reading.specs.Reading.{WhenLastAsked, at_source}
use Rattle.lr_reading.specs.Runs.{ComeInTime, TakesSome, lent}
use Rattle.lr_reading.specs.WindowSources.{decoding_of, IsFor, HasWindows}
use Rattle.lr_reading.specs.WindowSources.{first_arrivals, GivesMore, HasNextJob, stream_of}
use Rattle.lr_reading.specs.WindowSources.{LeavesFewer, StandsAt, progress, arrival_of_window, AreDecoded, IsOver}
use Rattle.lr_reading.specs.WindowSources.{leeway_in, left_to_feed, course_from, lent_in, MayHandOver, StopsAt, ComesTo}
use Rattle.lr_reading.specs.WindowSources.{WindowStream, window_terms}
use Rattle.lr_reading.specs.declared.arrival.Arrival.{Arrival}
use Rattle.lr_reading.specs.declared.consumer.Consumer.{Ghosts as ConsumerOf}
use Rattle.lr_reading.specs.declared.window_source.WindowSource.{WindowSource}
use Rattle.lr_reading.specs.declared.arrival.Position.{Position}
use Rattle.lr_reading.specs.declared.read_counts.ReadCounts.{ReadCounts}
use Rattle.lr_reading.proofs.Asking.{last_too}
use Rattle.lr_reading.proofs.Coming.{frames_counted, outcomes_counted}
use Rattle.lr_reading.proofs.WindowJobs.{as_many, oldest_decoded, handed_more}
use Rattle.lr_reading.proofs.WindowLed.{few_windows, frames_given, in_time_on, led_some, led_all}
use Rattle.lr_reading.proofs.Close.{close_later}
use Rattle.lr_reading.proofs.Refusing.{stops_at_once}
use Rattle.lr_reading.proofs.Waiting.{at_next}

abbrev pub arrival_at : Position → Outcome → Arrival
arrival_at position outcome = record { position = Some position; outcome = outcome }

-- what stands in a result is what becomes of the job's window
pub arrival_is : (j : WindowView) (position : Position) (done : FrameDone) → done ≡ done_of j
    → position.place ≡ done.window.position → position.positive ≡ done.window.positive
    → arrival_at position done.outcome ≡ arrival_of_window j
arrival_is j position done is place positive =
    ap (λ (k : ℕ). arrival_at (record { place = k; positive = position.positive }) done.outcome) place
    ∙ ap (λ (b : Bool). arrival_at (record { place = done.window.position; positive = b }) done.outcome) positive
    ∙ ap (λ (d : FrameDone). arrival_at (record { place = d.window.position; positive = d.window.positive }) d.outcome)
    is

-- there is no noise after a frame
no_noise : (decoding : Decoding) (given : List Frame) (bytes : List ℕ) → EndsInFrame decoding given bytes
    → HaveCome (Symbols decoding) WINDOW_END bytes (length (arrivals_of (Symbols decoding) bytes)) → ⊥
no_noise decoding given bytes ends noise =
    let Ends : Frame → Type 0 = λ frame. place_after_frame frame + WINDOW_END ≤ length bytes in
    let all : frames_of (tail_of decoding.line) (symbols_of bytes) ≡ ends.before ++ (ends.frame ∷ ends.others) =
    ends.come ∙ ap (λ (l : List Frame). l ++ ends.others) ends.last
    ∙ append_assoc ends.before (ends.frame ∷ []) ends.others in
    let count : ℕ = length (arrivals_of (Symbols decoding) bytes) in
    let this : Ends ends.frame = at_next Ends ends.before ends.others ends.frame count (omega (
      arith,
      frames_counted decoding bytes,
      ap (λ (l : List Frame). length l) all,
      length-append ends.before (ends.frame ∷ ends.others),
    )) (subst (λ (l : List Frame). All Ends (take count l)) all noise.1) in
    omega (arith, this, ends.near)

-- ---- the job source

module _ {S C Cause : Type 0} (source : SourceOf S) (consumer : ConsumerOf C Cause)
    {start before : WindowSource S C} {windows : List WindowView} {kept : ℕ}
    (at : StandsAt source consumer (led start windows kept) before) where
  abbrev decoding : Decoding
  decoding = decoding_of start.intake.now

  abbrev stream : WindowStream S
  stream = stream_of (symbols_from source decoding) start.intake.now.feed.most

  abbrev first : List Arrival
  first = first_arrivals decoding at.bytes at.given kept

  -- ---- it gives a window, or none

  module _ (now : WindowSource S C) (same_intake : now.intake.ghost_name ≡ before.intake.ghost_name)
      (same_source : now.source.ghost_name ≡ before.source.ghost_name)
      (same_consumer : now.consumer.ghost_name ≡ before.consumer.ghost_name)
      (consumer_is : now.consumer.now ≡ before.consumer.now) where
    -- the job source stands, where it gave more windows
    stands_more : (windows' : List WindowView) → HasWindows (length windows') kept now.intake.now
        → vec_capacity now.intake.now.spare ≡ vec_capacity before.intake.now.spare → kept ≤ length windows'
        → GivesMore stream (progress (taken_since start.source.now at.bytes at.given) windows' kept)
        (at_source before.intake.now before.source.now) (at_source now.intake.now now.source.now)
        → StandsAt source consumer (led start windows' kept) now
    stands_more windows' has room behind more = record {
      same_intake = same_intake ∙ at.same_intake;
      same_source = same_source ∙ at.same_source;
      same_consumer = same_consumer ∙ at.same_consumer;
      few = at.few;
      small = at.small;
      ready = at.ready;
      has_windows = has;
      same_room = room ∙ at.same_room;
      behind = behind;
      bytes = more.all;
      given = more.every;
      is_given = more.is_given;
      close = more.close kept (omega (arith, at.behind, frames_given source consumer at))
          (λ under_way. omega (arith, under_way, at.has_windows.all, frames_given source consumer at)) at.close;
      in_time = in_time;
      taken = λ c none. subst (consumer.took c (first_arrivals decoding more.all more.every kept)) (sym consumer_is)
          (subst (λ (l : List Arrival). consumer.took c l before.consumer.now) (sym same) (at.taken c none));
    }
      where
        same : first_arrivals decoding more.all more.every kept ≡ first
        same = ap (take kept) more.grown
            ∙ take-append-le kept (arrivals_given decoding at.bytes at.given) more.rest
            (omega (arith, at.behind, as_many at.is_given.jobs))

        -- of what had come as it was asked now all but a few were kept
        IsUnderWay : Type 0
        IsUnderWay = vec_len before.intake.now.spare < vec_capacity before.intake.now.spare

        -- where no window is under way what became of all was kept
        all_kept : (IsUnderWay → ⊥) → (count : ℕ) → count ≤ length windows → count ≤ kept
        all_kept none count within = ⊎_elim (λ (under_way : IsUnderWay). absurd (none under_way))
            (λ (idle : vec_capacity before.intake.now.spare ≤ vec_len before.intake.now.spare). omega (
              arith,
              idle,
              within,
              at.has_windows.all,
            )) (cases_lt (vec_len before.intake.now.spare) (vec_capacity before.intake.now.spare))

        -- and else of all but as many as may wait, since one window is spare
        few_wait : 0 < vec_len before.intake.now.spare → (given : List ℕ) (pieces : List (List ℕ)) (count few : ℕ)
            → (IsUnderWay → EndsInFrame decoding at.given given × (EndShort pieces → ⊥))
            → MayWait (Symbols decoding) (leeway_in start.intake.now) given pieces few → count + few ≤ length windows
            → count ≤ kept
        few_wait spare given pieces count few calm wait within = ⊎_elim
            (λ (many : vec_capacity start.intake.now.spare - 1 ≤ few). omega (
              arith,
              many,
              spare,
              within,
              at.has_windows.all,
              at.same_room,
            ))
            (λ rest. ⊎_elim
            (λ (short : EndShort pieces). all_kept (λ under_way. (calm under_way).1 short) count (omega (
              arith,
              within,
            )))
            (λ (noise : HaveCome (Symbols decoding) WINDOW_END given
            (length (outcomes_of_bytes (Symbols decoding) given))).
            all_kept (λ under_way. no_noise decoding at.given given (calm under_way).0
            (subst (λ (n : ℕ). HaveCome (Symbols decoding) WINDOW_END given n)
            (outcomes_counted (Symbols decoding) given)
            noise)) count (omega (
              arith,
              within,
            ))) rest)
            wait

        due : 0 < vec_len before.intake.now.spare → (given : List ℕ) (pieces : List (List ℕ))
            → MayAsk decoding IsUnderWay at.bytes at.given given pieces
            → ComeInTime (Symbols decoding) (leeway_in start.intake.now) 0 first given pieces
        due spare given pieces asks count few wait come =
            let arrivals : List Arrival = arrivals_given decoding at.bytes at.given in
            let le : count ≤ length first = omega (
              arith,
              few_wait spare given pieces count few asks.1 wait (omega (
                arith,
                asks.0.all (count + few) come,
                as_many at.is_given.jobs,
              )),
              length-take kept arrivals,
              as_many at.is_given.jobs,
              at.behind,
            ) in
            let these : take count (arrivals_of (Symbols decoding) given) ≡ take count first =
            ap (take count) (asks.0.split
            ∙ ap (λ (l : List Arrival). l ++ asks.0.rest) (sym (take-append-drop kept arrivals))
            ∙ append_assoc first (drop kept arrivals) asks.0.rest)
            ∙ take-append-le count first (drop kept arrivals ++ asks.0.rest) le in (
              drop count first,
              sym (take-append-drop count first) ∙ ap (λ (l : List Arrival). l ++ drop count first) (sym these),
              omega arith,
            )

        in_time : WhenLastAsked source (ComeInTime (Symbols decoding) (leeway_in start.intake.now) 0
            (first_arrivals decoding more.all more.every kept)) more.all start.source.now now.source.now
        in_time = subst (λ (l : List Arrival). WhenLastAsked source (ComeInTime (Symbols decoding)
            (leeway_in start.intake.now) 0 l) more.all start.source.now now.source.now) (sym same)
            (⊎_elim (λ none. subst (λ (l : List ℕ). WhenLastAsked source (ComeInTime (Symbols decoding)
            (leeway_in start.intake.now) 0 first) l start.source.now now.source.now) (sym none.0)
            (subst (λ (s : S). WhenLastAsked source (ComeInTime (Symbols decoding)
            (leeway_in start.intake.now) 0 first) at.bytes start.source.now s) (sym none.1) at.in_time))
            (λ last. inr (last_too source (ComeInTime (Symbols decoding) (leeway_in start.intake.now) 0 first)
            (due last.0) last.1)) more.looks)

    pub gives : (offer : NextJob WindowView)
        → HasNextJob stream offer
        (progress (taken_since start.source.now at.bytes at.given) windows kept)
        (at_source before.intake.now before.source.now) (at_source now.intake.now now.source.now)
        → LeavesFewer offer before.intake.now now.intake.now
        → Gives (window_terms source consumer) (led start windows kept) before now offer
    gives (Job window) more less = record {
      one_more = stands_more (windows ++ window ∷ []) (record {
        some = omega (arith, less.1, at.has_windows.some);
        all = omega (arith, less.0, less.1, at.has_windows.all, length-append windows (window ∷ []));
      }) less.1 (omega (arith, at.behind, length-append windows (window ∷ []))) more;
      few = omega (arith, few_windows source consumer at, at.small);
      fewer = less.2;
    }
    gives NotYet waits less = (
      record {
        same = stands_more windows (record {
          some = omega (arith, less.1, at.has_windows.some);
          all = omega (arith, less.0, less.1, at.has_windows.all);
        }) less.1 at.behind waits.0;
        no_more = less.2;
      },
      ⊎_elim (λ (none : vec_len before.intake.now.spare ≡ 0). omega (
        arith,
        none,
        at.has_windows.all,
        at.has_windows.some,
      )) (λ (under_way : vec_len before.intake.now.spare < vec_capacity before.intake.now.spare).
          omega (arith, under_way, at.has_windows.all)) waits.1,
    )
    gives Finished ends less = (
      record {
        same = stands_more windows (record {
          some = omega (arith, less.1, at.has_windows.some);
          all = omega (arith, less.0, less.1, at.has_windows.all);
        }) less.1 at.behind ends.0;
        no_more = less.2;
      },
      ends.1,
    )

  -- ---- what became of a window is handed over

  module _ (done : FrameDone) (next : IsDoneNext done_of windows kept done) where
    below : kept < length windows
    below = at_length windows kept next.0 next.1

    pub may_hand_over : MayHandOver consumer.took consumer.most before.consumer.now
    may_hand_over = record {
      first = at.ready.0;
      arrivals = first;
      taken = at.taken at.ready.0 at.ready.1;
      few = omega (
        arith,
        length-take kept (arrivals_given decoding at.bytes at.given),
        below,
        few_windows source consumer at,
        at.few,
      );
    }

    pub spare_room : vec_len before.intake.now.spare < vec_capacity before.intake.now.spare
    spare_room = omega (arith, at.has_windows.all, below)

    pub few_frames : before.intake.now.frames < 2 ^ 60
    few_frames = omega (arith, at.is_given.jobs.count, below, few_windows source consumer at, at.small)

    handed : first_arrivals decoding at.bytes at.given (kept + 1) ≡ first ++ arrival_of_window done.window ∷ []
    handed = handed_more at.is_given.jobs next.0 next.1
        ∙ ap (λ (d : FrameDone). first ++ arrival_of_window d.window ∷ []) (sym next.2)

    module _ (now : WindowSource S C) (same_intake : now.intake.ghost_name ≡ before.intake.ghost_name)
        (same_source : now.source.ghost_name ≡ before.source.ghost_name)
        (same_consumer : now.consumer.ghost_name ≡ before.consumer.ghost_name)
        (source_is : now.source.now ≡ before.source.now) where
      pub keeps : now.intake.now.spare.items ≡ before.intake.now.spare.items ++ done.window ∷ []
          → vec_capacity now.intake.now.spare ≡ vec_capacity before.intake.now.spare
          → now.intake.now.feed ≡ before.intake.now.feed → now.intake.now.ended ≡ before.intake.now.ended
          → now.intake.now.frames ≡ before.intake.now.frames + 1
          → ((c : C) (arrivals : List Arrival) → consumer.took c arrivals before.consumer.now
          → consumer.took c (arrivals ++ arrival_of_window done.window ∷ []) now.consumer.now)
          → Keeps (window_terms source consumer) (led start windows kept) before now
      keeps spare room feed ended frames takes = record {
        one_more = record {
          same_intake = same_intake ∙ at.same_intake;
          same_source = same_source ∙ at.same_source;
          same_consumer = same_consumer ∙ at.same_consumer;
          few = at.few;
          small = at.small;
          ready = at.ready;
          has_windows = record {
            some = omega (arith, room, at.has_windows.some);
            all = omega (
              arith,
              room,
              at.has_windows.all,
              ap (λ (l : List WindowView). length l) spare,
              length-append before.intake.now.spare.items (done.window ∷ []),
            );
          };
          same_room = room ∙ at.same_room;
          behind = omega (arith, below);
          bytes = at.bytes;
          given = at.given;
          is_given = record {
            feeds = subst (λ (s : S). FedSoFar stream.symbols (taken_since start.source.now at.bytes at.given)
                (at_source now.intake.now.feed s))
                (sym source_is) (subst (λ (f : FeedState). FedSoFar stream.symbols
                (taken_since start.source.now at.bytes at.given) (at_source f before.source.now))
                (sym feed) at.is_given.feeds);
            limit_is = ap (λ (f : FeedState). f.most) feed ∙ at.is_given.limit_is;
            jobs = record {
              jobs = at.is_given.jobs.jobs;
              job_lines = at.is_given.jobs.job_lines;
              spare_lines = subst (AreDecoded decoding) (sym spare) (All-push (IsFor decoding)
                  before.intake.now.spare.items done.window at.is_given.jobs.spare_lines
                  (subst (λ (d : FrameDone). IsFor decoding d.window) (sym next.2)
                  (oldest_decoded at.is_given.jobs next.0 next.1)));
              count = frames ∙ ap (λ (n : ℕ). n + 1) at.is_given.jobs.count;
            };
            over = λ stop e. subst (λ (f : FeedState). IsOver decoding at.bytes at.given f stop) (sym feed)
                (at.is_given.over stop (sym ended ∙ e));
            short = λ e. omega (
              arith,
              ap (λ (f : FeedState). length f.lock.kept) feed,
              at.is_given.short (sym ended ∙ e),
            );
            full = λ none. absurd (omega (
              arith,
              none,
              ap (λ (l : List WindowView). length l) spare,
              length-append before.intake.now.spare.items (done.window ∷ []),
            ));
          };
          close = close_later kept at.given (length at.bytes) at.close;
          in_time = subst (λ (s : S). WhenLastAsked source (ComeInTime (Symbols decoding)
              (leeway_in start.intake.now) 0 (first_arrivals decoding at.bytes at.given (kept + 1))) at.bytes
              start.source.now s) (sym source_is) (in_time_on source consumer at (kept + 1) 0 (omega arith)
              (omega (arith, below)));
          taken = λ c none. subst (λ (l : List Arrival). consumer.took c l now.consumer.now) (sym handed)
              (takes c first (at.taken c none));
        };
        no_more = omega (
          arith,
          ap (λ (f : FeedState). left_to_feed now.intake.now.ended f) feed
              ∙ ap (λ (o : Option Stop). left_to_feed o before.intake.now.feed) ended,
        );
        still_over = λ said. subst (λ (o : Option Stop). IsSome o) (sym ended) said;
      }

      pub stops : (cause : Cause)
          → ((c : C) (arrivals : List Arrival) → consumer.took c arrivals before.consumer.now
          → consumer.stopped c (arrivals ++ arrival_of_window done.window ∷ []) cause now.consumer.now)
          → StopsAt source consumer start cause now
      stops cause at_last = record {
        same_intake = same_intake ∙ at.same_intake;
        same_source = same_source ∙ at.same_source;
        same_consumer = same_consumer ∙ at.same_consumer;
        some = subst (λ (s : S). TakesSome (course_from source consumer.took start) consumer.stopped cause
            (lent_in start) (lent s now.consumer.now)) (sym source_is)
            (led_some source consumer at (kept + 1) (omega arith) (omega (arith, below)) cause now.consumer.now
            (λ c none. subst (λ (l : List Arrival). consumer.stopped c l cause now.consumer.now) (sym handed)
            (at_last c first (at.taken c none))));
      }

      pub keeps_on_ok : (came : Result (Unit {0}) Cause)
          → OnOk came (now.intake.now.spare.items ≡ before.intake.now.spare.items ++ done.window ∷ [])
          → OnOk came (vec_capacity now.intake.now.spare ≡ vec_capacity before.intake.now.spare)
          → OnOk came ((now.intake.now.feed ≡ before.intake.now.feed)
          × (now.intake.now.ended ≡ before.intake.now.ended)
          × (now.intake.now.frames ≡ before.intake.now.frames + 1))
          → ((c : C) (arrivals : List Arrival) → consumer.took c arrivals before.consumer.now
          → OnOk came (consumer.took c (arrivals ++ arrival_of_window done.window ∷ []) now.consumer.now))
          → OnOk came (Keeps (window_terms source consumer) (led start windows kept) before now)
      keeps_on_ok (Ok nothing) spare room same takes = keeps spare room same.0 same.1 same.2 takes
      keeps_on_ok (Err cause) spare room same takes = tt

      pub stops_on_err : (came : Result (Unit {0}) Cause)
          → ((c : C) (arrivals : List Arrival) → consumer.took c arrivals before.consumer.now
          → IfErr came (λ cause.
          consumer.stopped c (arrivals ++ arrival_of_window done.window ∷ []) cause now.consumer.now))
          → IfErr came (λ cause. StopsAt source consumer start cause now)
      stops_on_err (Ok nothing) at_last = tt
      stops_on_err (Err cause) at_last = stops cause at_last

-- ---- what it came to

module _ {S C Cause : Type 0} (source : SourceOf S) (consumer : ConsumerOf C Cause)
    {start now : WindowSource S C} where
  -- the input ended, and the consumer took all
  pub comes_to_end : EndsWell (window_terms source consumer) start now
      → (totals : ReadCounts) → now.intake.now.ended ≡ Some totals.stop → totals.symbols ≡ now.intake.now.feed.taken
      → totals.frames ≡ now.intake.now.frames → totals.left ≡ 0
      → ComesTo source consumer (Ok totals) start now
  comes_to_end ends totals ended symbols frames left = record {
    same_source = ends.all_kept.same_source;
    same_consumer = ends.all_kept.same_consumer;
    led = led_all source consumer ends.all_kept refl totals ended symbols frames left;
  }

  -- the consumer stopped
  pub comes_to_stop : (cause : Cause) → StopsAt source consumer start cause now
      → ComesTo source consumer (Err cause) start now
  comes_to_stop cause stops = record {
    same_source = stops.same_source;
    same_consumer = stops.same_consumer;
    led = stops.some;
  }

  -- it stopped, or there was no memory for threads
  pub comes_to_undriven : (why : DriveFault Cause) (cause : Cause) → why ≡ Stopped cause
      → IsDriveFault (window_terms source consumer) why start start now
      → ComesTo source consumer (Err cause) start now
  comes_to_undriven why cause is undriven = comes_to_stop cause
      (subst (λ (u : DriveFault Cause). IsDriveFault (window_terms source consumer) u start start now) is undriven)

  pub comes_to_no_memory : (why : DriveFault Cause) (cause : Cause) → why ≡ NoMemory
      → IsDriveFault (window_terms source consumer) why start start now
      → ((c : C) (arrivals : List Arrival) → consumer.took c arrivals now.consumer.now
      → consumer.stopped c arrivals cause now.consumer.now)
      → ComesTo source consumer (Err cause) start now
  comes_to_no_memory why cause is undriven stops =
      let same : now ≡ start =
      subst (λ (u : DriveFault Cause). IsDriveFault (window_terms source consumer) u start start now) is undriven in
      subst (λ (first : WindowSource S C). ComesTo source consumer (Err cause) first now) same (record {
        same_source = refl;
        same_consumer = refl;
        led = stops_at_once (course_from source consumer.took now) (omega arith) consumer.stopped cause (lent_in now)
            stops;
      })
