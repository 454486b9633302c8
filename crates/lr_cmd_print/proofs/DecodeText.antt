-- `decode` goes on by one outcome, and what it puts in all.
use Rattle.std.proofs.Common.{◌≡◌, ℕ, ℤ, ◌+◌, ◌-◌, ◌≤◌, not, List, []}
use Rattle.std.proofs.Common.{◌∷◌, ◌++◌, length, take, ap, ◌∙◌, sym, refl}
use Rattle.std.proofs.Common.{subst, arith}
use Rattle.std.specs.Prelude.{count_by, cond}
use Rattle.std.proofs.lemmas.List.{map-append, take-map}
use lib.Seq.{take-nil}
use Rattle.std.proofs.lemmas.List.Sums.{count_by-le-length, sum_by-append, sum_by-cons}
use Rattle.lr_bits.specs.declared.outcome.Outcome.{Outcome}
use Rattle.lr_conv.specs.Marker.{tail_of}
use Rattle.lr_lock.specs.declared.frame.Frame.{Frame}
use Rattle.lr_lock.specs.FramesOf.{frames_of}
use Rattle.lr_lock.specs.Symbols.{symbols_of}
use Rattle.lr_io.specs.declared.source.Source.{Ghosts as SourceOf}
use Rattle.lr_io.specs.declared.sink.Sink.{Ghosts as SinkOf}
use Rattle.lr_bits.specs.Outcomes.{is_restored}
use Rattle.lr_catalog.specs.declared.summary.Summary.TheVariants.{Decode}
use Rattle.lr_catalog.specs.Summaries.{summary_line}
use Rattle.lr_causes.specs.declared.cause.Cause.{Cause}
use Rattle.lr_causes.specs.Puts.{Puts, PutStops}
use Rattle.lr_reading.specs.Arrivals.{arrival_in, arrival_of, arrivals_of, arrivals_of_units}
use Rattle.lr_reading.specs.Arrivals.{outcomes_of_arrivals}
use Rattle.lr_reading.specs.Inputs.{unit_bytes, outcome_of_unit, outcomes_of_bytes, bytes_left_over}
use Rattle.lr_reading.specs.Lines.{numbered_lines}
use Rattle.lr_reading.specs.Reading.{units_of}
use Rattle.lr_reading.specs.Readers.{leeway_for}
use Rattle.lr_reading.specs.Runs.{ReadsInput, TakesAll, TakesSome, course_of, lent}
use Rattle.lr_reading.specs.declared.arrival.Arrival.{Arrival}
use Rattle.lr_forms.specs.declared.forms.Input.{Input}
use Rattle.lr_forms.specs.declared.forms.Input.TheVariants.{Symbols, Units}
use Rattle.lr_reading.specs.declared.read_counts.ReadCounts.{ReadCounts}
use Rattle.lr_reading.proofs.Coming.{no_arrivals, outcomes_are, outcomes_counted}
use Rattle.lr_reading.proofs.Numbered.{numbered_lines-none, numbered_lines-append}
use Rattle.lr_reading.proofs.Numbered.{numbered_lines-push, numbered_lines-map}
use Rattle.lr_layers.proofs.Pushing.{both_kinds}
use Rattle.lr_cmd_print.specs.declared.outcome_lines.OutcomeLines.{OutcomeLines}
use Rattle.lr_cmd_print.specs.Decode.{lines_of_units, lines_of_windows, decode_text, decode_first, decode_last}
use Rattle.lr_cmd_print.specs.Decode.{decode_count, sums_of, decode_printed}
use Rattle.lr_cmd_print.specs.DecodeTaken.{OutcomesTook, OutcomesStopped}
use Rattle.lr_cmd_print.specs.OutcomeLines.{outcome_text, text_of_outcomes}
use Rattle.lr_causes.specs.Outside.{pipe, pipe_of}
use Rattle.lr_cmd_print.specs.Printing.{Prints}
use Rattle.lr_cmd_print.specs.Progress.{LinesComeFirst, LinesStop}
use Rattle.lr_causes.proofs.Joining.{puts_both, puts_none}
use Rattle.lr_cmd_print.proofs.Lines.{come_first, due_put, lines_stop, lines_stopped}

abbrev line_of : ℕ → Arrival → List ℕ
line_of place arrival = outcome_text place arrival.position arrival.outcome

-- the line of the next outcome
text_more : (arrivals : List Arrival) (arrival : Arrival) (place : ℕ) → place ≡ length arrivals
    → text_of_outcomes (arrivals ++ arrival ∷ [])
    ≡ text_of_outcomes arrivals ++ outcome_text place arrival.position arrival.outcome
text_more arrivals arrival place is =
    numbered_lines-push line_of 0 arrivals arrival
    ∙ ap (λ (k : ℕ). text_of_outcomes arrivals ++ outcome_text k arrival.position arrival.outcome)
    (omega (arith, is))

-- the text of all that comes is that of the bytes
text_of_all : (input : Input) (bytes : List ℕ) → text_of_outcomes (arrivals_of input bytes) ≡ decode_text input bytes
unfolding arrivals_of arrivals_of_units lines_of_units lines_of_windows
text_of_all (Symbols decoding) bytes =
    numbered_lines-map line_of (arrival_in decoding (symbols_of bytes)) 0
    (frames_of (tail_of decoding.line) (symbols_of bytes))
text_of_all (Units form) bytes =
    numbered_lines-map line_of (λ (unit : List ℕ). arrival_of (outcome_of_unit form unit)) 0
    (units_of (unit_bytes form) bytes)

-- the lines of the first ones come first
text_first : (passed rest : List Arrival)
    → (later : List ℕ) × (text_of_outcomes (passed ++ rest) ≡ text_of_outcomes passed ++ later)
text_first passed rest =
    (numbered_lines line_of (0 + length passed) rest, numbered_lines-append line_of 0 passed rest)

text_grows : (arrivals first rest : List Arrival) → arrivals ≡ first ++ rest
    → (later : List ℕ) × (text_of_outcomes arrivals ≡ text_of_outcomes first ++ later)
text_grows arrivals first rest is =
    let front = text_first first rest in (front.0, ap (λ (l : List Arrival). text_of_outcomes l) is ∙ front.1)

-- those of the first arrivals are the first ones
pub text_of_first : (input : Input) (given : List ℕ) (count : ℕ)
    → text_of_outcomes (take count (arrivals_of input given)) ≡ decode_first input given count
unfolding arrivals_of arrivals_of_units lines_of_units lines_of_windows
text_of_first (Symbols decoding) given count =
    let symbols : List ℤ = symbols_of given in
    let frames : List Frame = frames_of (tail_of decoding.line) symbols in
    ap (λ (l : List Arrival). text_of_outcomes l) (take-map (arrival_in decoding symbols) count frames)
    ∙ numbered_lines-map line_of (arrival_in decoding symbols) 0 (take count frames)
text_of_first (Units form) given count =
    let units : List (List ℕ) = units_of (unit_bytes form) given in
    let arrives : List ℕ → Arrival = λ (unit : List ℕ). arrival_of (outcome_of_unit form unit) in
    ap (λ (l : List Arrival). text_of_outcomes l) (take-map arrives count units)
    ∙ numbered_lines-map line_of arrives 0 (take count units)

-- of no bytes there are none
pub none_first : (input : Input) (count : ℕ) → decode_first input [] count ≡ []
none_first input count = sym (text_of_first input [] count)
    ∙ ap (λ (l : List Arrival). text_of_outcomes (take count l)) (no_arrivals input)
    ∙ ap (λ (l : List Arrival). text_of_outcomes l) (take-nil count) ∙ numbered_lines-none line_of 0

-- ---- how many are restored

count_push : (outcomes : List Outcome) (outcome : Outcome) → count_by is_restored (outcomes ++ outcome ∷ [])
    ≡ count_by is_restored outcomes + cond (is_restored outcome) 1 0
count_push outcomes outcome =
    let one : Outcome → ℕ = λ x. cond (is_restored x) 1 0 in
    let none : count_by is_restored [] ≡ 0 = refl in
    omega (arith, sum_by-append one outcomes (outcome ∷ []), sum_by-cons one outcome [], none)

pub restored_more : (arrivals : List Arrival) (arrival : Arrival) (restored more : ℕ)
    → restored ≡ count_by is_restored (outcomes_of_arrivals arrivals)
    → more ≡ restored + cond (is_restored arrival.outcome) 1 0
    → more ≡ count_by is_restored (outcomes_of_arrivals (arrivals ++ arrival ∷ []))
restored_more arrivals arrival restored more before is =
    is ∙ ap (λ (k : ℕ). k + cond (is_restored arrival.outcome) 1 0) before
    ∙ sym (count_push (outcomes_of_arrivals arrivals) arrival.outcome)
    ∙ ap (λ (l : List Outcome). count_by is_restored l)
    (sym (map-append (λ (a : Arrival). a.outcome) arrivals (arrival ∷ [])))

pub few_restored : {O : Type 0} (out : SinkOf O) {before now : OutcomeLines O} {arrivals : List Arrival}
    → OutcomesTook out before arrivals now → now.restored ≤ length arrivals
few_restored out {before} {now} {arrivals} took = omega (
  arith,
  took.restored,
  count_by-le-length is_restored (outcomes_of_arrivals arrivals),
  length-outcomes arrivals,
)
  where
    length-outcomes : (arrivals : List Arrival) → length (outcomes_of_arrivals arrivals) ≡ length arrivals
    length-outcomes [] = refl
    length-outcomes (a ∷ arrivals) = omega (arith, length-outcomes arrivals)

module _ {S : Type 0} (source : SourceOf S) (input : Input) (limit : ℕ) (totals : ReadCounts) (restored : ℕ)
    (bytes : List ℕ) (s s' : S) (ends : ReadsInput source input limit bytes totals s s')
    (restored_is : restored ≡ count_by is_restored (outcomes_of_bytes input bytes)) where
  frames_are : length (outcomes_of_bytes input bytes) ≡ totals.frames
  frames_are = outcomes_counted input bytes ∙ sym ends.frames

  pub no_more_restored : restored ≤ totals.frames
  no_more_restored = omega (
    arith,
    restored_is,
    frames_are,
    count_by-le-length is_restored (outcomes_of_bytes input bytes),
  )

  abbrev told : (symbols frames restored lost left : ℕ) → List ℕ
  told symbols frames restored' lost left = summary_line (Decode (record {
    symbols = symbols;
    frames = frames;
    restored = restored';
    lost = lost;
    left = left;
  })) totals.stop

  -- the last line tells what was counted
  pub decode_last_is : decode_last input bytes totals.stop
      ≡ summary_line (Decode (sums_of totals restored)) totals.stop
  unfolding decode_count
  decode_last_is =
      let outcomes = outcomes_of_bytes input bytes in
      let lost : count_by (λ o. not (is_restored o)) (outcomes_of_bytes input bytes) ≡ totals.frames - restored =
      omega (arith, both_kinds (outcomes_of_bytes input bytes), frames_are, restored_is) in
      ap (λ k. told k (length outcomes) (count_by is_restored outcomes)
      (count_by (λ o. not (is_restored o)) outcomes) (bytes_left_over input bytes)) (sym ends.symbols)
      ∙ ap (λ k. told totals.symbols k (count_by is_restored outcomes)
      (count_by (λ o. not (is_restored o)) outcomes) (bytes_left_over input bytes)) frames_are
      ∙ ap (λ k. told totals.symbols totals.frames k
      (count_by (λ o. not (is_restored o)) outcomes) (bytes_left_over input bytes)) (sym restored_is)
      ∙ ap (λ k. told totals.symbols totals.frames restored k (bytes_left_over input bytes)) lost
      ∙ ap (λ k. told totals.symbols totals.frames restored (totals.frames - restored) k) (sym ends.left)

-- ---- the lines

module _ {O : Type 0} (out : SinkOf O) where
  -- it begins
  pub outcomes_begun : (lines : OutcomeLines O) → lines.outcomes ≡ 0 → lines.restored ≡ 0
      → OutcomesTook out lines [] lines
  outcomes_begun lines none none_restored = record {
    same_out = refl;
    count = none;
    restored = none_restored;
    put = subst (λ (l : List ℕ). Puts out l lines.out.now lines.out.now) (sym (numbered_lines-none line_of 0))
        (puts_none out lines.out.now);
  }

  pub outcomes_ready : (lines : OutcomeLines O) → lines.outcomes ≡ 0 → lines.restored ≡ 0
      → (first : OutcomeLines O) × OutcomesTook out first [] lines
  outcomes_ready lines none none_restored = (lines, outcomes_begun lines none none_restored)

  module _ {before now : OutcomeLines O} {arrivals : List Arrival} (took : OutcomesTook out before arrivals now)
      (arrival : Arrival) (o' : O) where
    -- one line more was put
    pub text_put : Puts out (outcome_text now.outcomes arrival.position arrival.outcome) now.out.now o'
        → Puts out (text_of_outcomes (arrivals ++ arrival ∷ [])) before.out.now o'
    text_put put = subst (λ (l : List ℕ). Puts out l before.out.now o')
        (sym (text_more arrivals arrival now.outcomes took.count)) (puts_both out _ _ _ _ _ took.put put)

    -- it wasn't
    pub text_stopped : (cause : Cause)
        → PutStops out (outcome_text now.outcomes arrival.position arrival.outcome) cause now.out.now o'
        → LinesStop out (text_of_outcomes (arrivals ++ arrival ∷ [])) cause before.out.now o'
    text_stopped cause stops = subst (λ (l : List ℕ). LinesStop out l cause before.out.now o')
        (sym (text_more arrivals arrival now.outcomes took.count))
        (lines_stop out (text_of_outcomes arrivals) (outcome_text now.outcomes arrival.position arrival.outcome)
        before.out.now now.out.now o' took.put cause stops)

  module _ {S : Type 0} (source : SourceOf S) (input : Input) (limit : ℕ) {s s' : S} {before now : OutcomeLines O}
      (none : before.outcomes ≡ 0) (none_restored : before.restored ≡ 0) where
    -- all outcomes were taken
    pub outcomes_put : (workers : ℕ) {totals : ReadCounts}
        → TakesAll (course_of source (OutcomesTook out) input limit (leeway_for input workers)) totals (lent s before)
        (lent s' now)
        → (now.out.ghost_name ≡ before.out.ghost_name) × ((bytes : List ℕ)
        × ReadsInput source input limit bytes totals s s'
        × (now.restored ≡ count_by is_restored (outcomes_of_bytes input bytes))
        × Puts out (decode_text input bytes) before.out.now now.out.now
        × LinesComeFirst source (decode_printed input workers limit) bytes s s')
    outcomes_put workers all =
        let took = all.taken before (outcomes_begun before none none_restored) in (
          took.same_out,
          (
            all.bytes,
            all.ends,
            took.restored ∙ ap (λ (l : List Outcome). count_by is_restored l) (sym (outcomes_are input all.bytes)),
            subst (λ (l : List ℕ). Puts out l before.out.now now.out.now) (text_of_all input all.bytes) took.put,
            come_first source (decode_printed input workers limit) (λ l. text_of_outcomes l) (text_of_first input)
                all.bytes s s' (arrivals_of input all.bytes) (text_grows (arrivals_of input all.bytes)) refl
                (text_of_all input all.bytes) all.in_time,
          ),
        )

    -- they were not
    pub outcomes_stopped : (workers : ℕ) (cause : Cause)
        → TakesSome (course_of source (OutcomesTook out) input limit (leeway_for input workers)) (OutcomesStopped out)
        cause (lent s before) (lent s' now)
        → (now.out.ghost_name ≡ before.out.ghost_name)
        × Prints (pipe_of source out) (decode_printed input workers limit) cause
        (pipe s before.out.now) (pipe s' now.out.now)
    outcomes_stopped workers cause some =
        let stopped = some.stops before (outcomes_begun before none none_restored) in
        let first = text_first some.passed some.rest in (
          stopped.same_out,
          lines_stopped source out (decode_printed input workers limit) some.bytes
              (text_of_outcomes some.passed) first.0 s s' before.out.now now.out.now some.read
              (sym (text_of_all input some.bytes) ∙ ap text_of_outcomes some.split ∙ first.1)
              (due_put source (decode_printed input workers limit) (λ l. text_of_outcomes l) (text_of_first input)
              some.bytes s s' stopped.others.worked (text_grows stopped.others.worked) out before.out.now now.out.now
              some.passed stopped.others.late some.rest stopped.others.split stopped.others.one stopped.others.got
              some.split some.near some.close some.in_time)
              cause stopped.stops,
        )
