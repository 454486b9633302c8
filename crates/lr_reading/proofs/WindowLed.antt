-- How far a consumer was led through what becomes of windows.
use Rattle.std.proofs.Common.{◌-◌, ◌≡◌, ◌<◌, ◌≤◌, ◌+◌, ◌*◌, ℕ, Bool, true, false, Option, Some, None, List, [], ◌++◌}
use Rattle.std.proofs.Common.{length, length-append, length-drop, append-nil, append_assoc, take, drop, refl, sym, ap}
use Rattle.std.proofs.Common.{◌∙◌, subst, arith, vec_len, vec_capacity, ⊎_elim}
use Rattle.std.specs.Prelude.{All}
use Rattle.std.proofs.Math.Seq.{take-length}
use Rattle.std.proofs.lemmas.Bool.{cases_lt}
use Rattle.std.proofs.lemmas.List.{take-append-drop, length-take}
use Rattle.lr_bits.specs.Faults.{Rose}
use Rattle.lr_bits.specs.declared.sizes.TheConstants.{FRAME_SYMBOLS}
use Rattle.lr_conv.proofs.Tails.{tail_size}
use Rattle.lr_conv.specs.Marker.{tail_of}
use Rattle.lr_conv.specs.declared.line.LineCode.{LineCode}
use Rattle.lr_forms.specs.declared.forms.Decoding.{Decoding}
use Rattle.lr_io.specs.declared.source.Source.{Ghosts as SourceOf}
use Rattle.lr_lock.specs.Frames.{AreNext, place_after_frame}
use Rattle.lr_lock.proofs.Existing.{given_are_prefix}
use Rattle.lr_rounds.specs.JobSources.{led}
use Rattle.lr_reading.specs.Readers.{leeway_with}
use Rattle.lr_lock.specs.Symbols.{symbols_of}
use Rattle.lr_lock.specs.Windows.{WindowView}
use Rattle.lr_lock.specs.declared.frame.Frame.{Frame}
use Rattle.lr_forms.specs.declared.forms.Input.TheVariants.{Symbols}
use Rattle.lr_forms.specs.declared.forms.Stop.{Stop}
use Rattle.lr_forms.specs.declared.forms.Stop.TheVariants.{End, Limit, Fault}
use Rattle.lr_reading.specs.Arrivals.{arrivals_of}
use Rattle.lr_reading.specs.Feeding.{symbols_from, arrivals_given}
use Rattle.lr_reading.specs.Reading.{EndsFor, WhenLastAsked}
use Rattle.lr_reading.specs.Runs.{ComeInTime, TakesAll, TakesSome, lent}
use Rattle.lr_reading.specs.WindowSources.{decoding_of, IsOver, first_arrivals}
use Rattle.lr_reading.specs.WindowSources.{course_from, leeway_in, lent_in, StandsAt}
use Rattle.lr_reading.specs.declared.arrival.Arrival.{Arrival}
use Rattle.lr_reading.specs.declared.consumer.Consumer.{Ghosts as ConsumerOf}
use Rattle.lr_reading.specs.declared.read_counts.ReadCounts.{ReadCounts}
use Rattle.lr_reading.specs.declared.window_source.WindowSource.{WindowSource}
use Rattle.lr_reading.proofs.Coming.{arrivals_few, arrivals_first, arrivals_go_on, arrivals_all}
use Rattle.lr_reading.proofs.Asking.{when_too}
use Rattle.lr_reading.proofs.Close.{not_ended}
use Rattle.lr_reading.proofs.Fronts.{take_on}
use Rattle.lr_reading.proofs.WindowGiving.{few_given, given_is}
use Rattle.lr_reading.proofs.WindowJobs.{as_many}

-- nothing is left where neither a fault nor the limit ended the reading
nothing_left : {S : Type 0} (source : SourceOf S) (stop : Stop) (limit : ℕ) (bytes : List ℕ) (s s' : S)
    → EndsFor source stop limit bytes s s' → source.tells s → length bytes < limit
    → (Rose (source.faults s) (source.faults s') → ⊥) → source.left s' ≡ []
nothing_left source End limit bytes s s' why told few calm = why.1 told
nothing_left source Limit limit bytes s s' why told few calm = absurd (omega (arith, why.0, few))
nothing_left source Fault limit bytes s s' why told few calm = absurd (calm why.1)

module _ {S C Cause : Type 0} (source : SourceOf S) (consumer : ConsumerOf C Cause)
    {start before : WindowSource S C} {windows : List WindowView} {kept : ℕ}
    (at : StandsAt source consumer (led start windows kept) before) where
  abbrev decoding : Decoding
  decoding = decoding_of start.intake.now

  abbrev limit : ℕ
  limit = start.intake.now.feed.most

  abbrev first : List Arrival
  first = first_arrivals decoding at.bytes at.given kept

  -- as many frames were given as windows
  pub frames_given : length windows ≡ length at.given
  frames_given = given_is (symbols_from source decoding) limit at.is_given

  pub few_windows : FRAME_SYMBOLS * length windows ≤ limit
  few_windows = few_given (symbols_from source decoding) limit at.is_given

  given_next : AreNext (tail_of decoding.line) (symbols_of at.bytes) None at.given
  given_next = subst (λ (l : LineCode). AreNext (tail_of l) (symbols_of at.bytes) None at.given)
      at.is_given.feeds.line_is at.is_given.feeds.stands.frames

  few_bytes : length at.bytes ≤ limit
  few_bytes = omega (arith, at.is_given.feeds.few, at.is_given.feeds.long, at.is_given.limit_is)

  ends_for : before.intake.now.feed.lock.finished ≡ true
      → EndsFor source before.intake.now.feed.stop limit at.bytes start.source.now before.source.now
  ends_for finished = subst (λ (k : ℕ). EndsFor source before.intake.now.feed.stop k at.bytes start.source.now
      before.source.now) at.is_given.limit_is (at.is_given.feeds.ended finished)

  -- what comes of all that the source gives begins with these arrivals too
  first_of : source.tells start.source.now → length at.bytes < limit
      → (Rose (source.faults start.source.now) (source.faults before.source.now) → ⊥)
      → (b : Bool) → before.intake.now.feed.lock.finished ≡ b → (later : List Arrival)
      × (arrivals_of (Symbols decoding) (at.bytes ++ source.left before.source.now)
      ≡ arrivals_given decoding at.bytes at.given ++ later)
  first_of told few calm true finished =
      let none = nothing_left source before.intake.now.feed.stop limit at.bytes start.source.now before.source.now
      (ends_for finished) told few calm in
      let first = arrivals_first decoding at.bytes at.given given_next in (
        first.0,
        ap (arrivals_of (Symbols decoding)) (ap (λ (l : List ℕ). at.bytes ++ l) none ∙ append-nil at.bytes) ∙ first.1,
      )
  first_of told few calm false unfinished =
      arrivals_go_on decoding at.bytes (source.left before.source.now) at.given given_next
      (at.is_given.feeds.stands.sure unfinished)

  -- the first arrivals are the first of whatever begins with all
  cut : (n : ℕ) (whole : List Arrival) (first : (later : List Arrival)
      × (whole ≡ arrivals_given decoding at.bytes at.given ++ later))
      → (later : List Arrival) × (whole ≡ take n (arrivals_given decoding at.bytes at.given) ++ later)
  cut n whole first =
      let arrivals = arrivals_given decoding at.bytes at.given in (
        drop n arrivals ++ first.0,
        first.1 ∙ ap (λ (l : List Arrival). l ++ first.0) (sym (take-append-drop n arrivals))
            ∙ append_assoc (take n arrivals) (drop n arrivals) first.0,
      )

  -- after what comes of the frames given at most three more come of the bytes taken
  few_more : (ended : Option Stop) → before.intake.now.ended ≡ ended → (rest : List Arrival)
      × (arrivals_of (Symbols decoding) at.bytes ≡ arrivals_given decoding at.bytes at.given ++ rest)
      × (length rest ≤ 3)
  few_more None going =
      let more = arrivals_few decoding at.bytes at.given before.intake.now.feed.lock at.is_given.feeds.stands
      at.is_given.feeds.line_is in
      (more.0, more.1, omega (arith, more.2, at.is_given.short going))
  few_more (Some stop) ended = (
    [],
    arrivals_all decoding at.bytes at.given (at.is_given.over stop ended).every
        ∙ sym (append-nil (arrivals_given decoding at.bytes at.given)),
    omega arith,
  )

  -- what was first among the arrivals that were kept is so among more of them
  longer : (n after : ℕ) → kept + after ≤ n → n ≤ length windows → (given : List ℕ) (pieces : List (List ℕ))
      → ComeInTime (Symbols decoding) (leeway_in start.intake.now) 0 first given pieces
      → ComeInTime (Symbols decoding) (leeway_in start.intake.now) after (first_arrivals decoding at.bytes at.given n)
      given
      pieces
  longer n after past enough given pieces due count few wait come =
      let arrivals : List Arrival = arrivals_given decoding at.bytes at.given in
      let others : List Arrival = take (n - kept) (drop kept arrivals) in
      let then = due count few wait come in (
        then.0 ++ others,
        take_on arrivals kept n (omega (arith, past)) ∙ ap (λ (l : List Arrival). l ++ others) then.1
            ∙ append_assoc (take count (arrivals_of (Symbols decoding) given)) then.0 others,
        omega (
          arith,
          length-append then.0 others,
          length-take (n - kept) (drop kept arrivals),
          length-drop kept arrivals,
          as_many at.is_given.jobs,
          enough,
          past,
        ),
      )

  pub in_time_on : (n after : ℕ) → kept + after ≤ n → n ≤ length windows
      → WhenLastAsked source (ComeInTime (Symbols decoding) (leeway_in start.intake.now) after
      (first_arrivals decoding at.bytes at.given n)) at.bytes start.source.now before.source.now
  in_time_on n after past enough = when_too source
      (ComeInTime (Symbols decoding) (leeway_in start.intake.now) 0 first)
      (ComeInTime (Symbols decoding) (leeway_in start.intake.now) after
      (first_arrivals decoding at.bytes at.given n)) at.bytes start.source.now before.source.now
      (longer n after past enough) at.in_time

  -- the consumer stopped at the last one of these arrivals
  pub led_some : (n : ℕ) → kept < n → n ≤ length windows → (cause : Cause) (now : C)
      → ((c : C) → consumer.took c [] start.consumer.now
      → consumer.stopped c (first_arrivals decoding at.bytes at.given n) cause now)
      → TakesSome (course_from source consumer.took start) consumer.stopped cause (lent_in start)
      (lent before.source.now now)
  unfolding cut
  led_some n past enough cause now stops =
      let arrivals = arrivals_given decoding at.bytes at.given in
      let more = few_more before.intake.now.ended refl in
      let split = cut n (arrivals_of (Symbols decoding) at.bytes) (more.0, more.1) in
      let frames = given_are_prefix (tail_of decoding.line) (symbols_of at.bytes) at.given (tail_size decoding.line)
      given_next in
      record {
        bytes = at.bytes;
        read = record {
          tell = at.is_given.feeds.tell;
          moved = at.is_given.feeds.moved;
          few = few_bytes;
          asked = at.is_given.feeds.asked;
        };
        passed = first_arrivals decoding at.bytes at.given n;
        rest = drop n arrivals ++ more.0;
        split = split.1;
        near = omega (
          arith,
          length-append (drop n arrivals) more.0,
          length-drop n arrivals,
          as_many at.is_given.jobs,
          more.2,
          past,
          at.has_windows.all,
          at.has_windows.some,
          at.same_room,
        );
        close = λ count some come. ⊎_elim (λ (fewer : count < n). omega (
          arith,
          fewer,
          enough,
          length-take n arrivals,
          as_many at.is_given.jobs,
        )) (λ (more : n ≤ count). absurd (not_ended (vec_capacity start.intake.now.spare)
            (vec_len before.intake.now.spare) kept count at.given frames.0 at.bytes (omega (
              arith,
              at.has_windows.all,
              at.same_room,
              frames_given,
            )) at.close at.is_given.full (omega (arith, past, enough, frames_given)) (omega (arith, past, more))
            (subst (λ (l : List Frame). All (λ (frame : Frame). place_after_frame frame
            + (leeway_with (vec_capacity start.intake.now.spare)).ahead ≤ length at.bytes) (take count l)) frames.1
            come.1)
            (drop kept at.given) refl)) (cases_lt count n);
        in_time = in_time_on n 1 (omega (arith, past)) enough;
        stops = stops;
        begins = λ other symbols told few calm.
            cut n (arrivals_of (Symbols decoding) (at.bytes ++ source.left before.source.now))
            (first_of told few calm before.intake.now.feed.lock.finished refl);
      }

  -- the consumer took all
  pub led_all : kept ≡ length windows → (totals : ReadCounts) → before.intake.now.ended ≡ Some totals.stop
      → totals.symbols ≡ before.intake.now.feed.taken → totals.frames ≡ before.intake.now.frames → totals.left ≡ 0
      → TakesAll (course_from source consumer.took start) totals (lent_in start) (lent_in before)
  led_all all totals ended symbols frames left = record {
    bytes = at.bytes;
    ends = record {
      read = record {
        tell = at.is_given.feeds.tell;
        moved = at.is_given.feeds.moved;
        few = few_bytes;
        asked = at.is_given.feeds.asked;
      };
      reason = subst (λ (x : Stop). EndsFor source x limit at.bytes start.source.now before.source.now)
          over.stop_is
          (ends_for over.closed);
      symbols = symbols ∙ at.is_given.feeds.long;
      frames = frames ∙ at.is_given.jobs.count ∙ all ∙ sym (as_many at.is_given.jobs)
          ∙ ap (λ (l : List Arrival). length l) (sym come);
      left = left;
    };
    in_time = subst (λ (l : List Arrival). WhenLastAsked source (ComeInTime (Symbols decoding)
        (leeway_in start.intake.now) 0 l) at.bytes start.source.now before.source.now) (whole ∙ sym come)
        at.in_time;
    taken = λ c none. subst (λ (l : List Arrival). consumer.took c l before.consumer.now) (whole ∙ sym come)
        (at.taken c none);
  }
    where
      over : IsOver decoding at.bytes at.given before.intake.now.feed totals.stop
      over = at.is_given.over totals.stop ended

      come : arrivals_of (Symbols decoding) at.bytes ≡ arrivals_given decoding at.bytes at.given
      come = arrivals_all decoding at.bytes at.given over.every

      whole : first_arrivals decoding at.bytes at.given kept ≡ arrivals_given decoding at.bytes at.given
      whole = ap (λ (k : ℕ). take k (arrivals_given decoding at.bytes at.given)) (all ∙ sym (as_many at.is_given.jobs))
          ∙ take-length (arrivals_given decoding at.bytes at.given)
