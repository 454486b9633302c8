-- `frames` goes on by one frame, and what it puts in all.
use Rattle.std.proofs.Common.{◌≡◌, ℕ, ◌/◌, ◌%◌, List, [], ◌∷◌, ◌++◌, length, ap, ◌∙◌, sym, refl}
use Rattle.std.proofs.Common.{subst, arith, ◌+◌, take}
use Rattle.std.specs.List.{range_with_len}
use Rattle.std.proofs.lemmas.List.{length-map, take-map}
use lib.Seq.{take-nil}
use Rattle.std.proofs.lemmas.List.FromFn.{length-range_with_len}
use Rattle.lr_bits.specs.declared.sizes.TheConstants.{FRAME_BYTES}
use Rattle.lr_io.specs.declared.sink.Sink.{Ghosts as SinkOf}
use Rattle.lr_io.specs.declared.source.Source.{Ghosts as SourceOf}
use Rattle.lr_catalog.specs.declared.summary.Summary.TheVariants.{Frames as FramesLine}
use Rattle.lr_catalog.specs.Summaries.{summary_line}
use Rattle.lr_causes.specs.declared.cause.Cause.{Cause}
use Rattle.lr_causes.specs.Puts.{Puts, PutStops}
use Rattle.lr_reading.specs.Arrivals.{arrivals_of, arrivals_of_units, arrival_of}
use Rattle.lr_reading.specs.Inputs.{outcome_of_unit}
use Rattle.lr_reading.specs.Lines.{numbered_lines}
use Rattle.lr_reading.specs.Reading.{unit_of, units_of}
use Rattle.lr_reading.specs.Readers.{leeway_for}
use Rattle.lr_reading.specs.Runs.{ReadsInput, TakesAll, TakesSome, course_of, lent}
use Rattle.lr_reading.specs.declared.arrival.Arrival.{Arrival}
use Rattle.lr_forms.specs.declared.forms.Input.TheVariants.{Units}
use Rattle.lr_forms.specs.declared.forms.UnitForm.TheVariants.{Frames}
use Rattle.lr_reading.specs.declared.read_counts.ReadCounts.{ReadCounts}
use Rattle.lr_reading.proofs.Coming.{arrivals_of_units-counted, no_arrivals}
use Rattle.lr_reading.proofs.Numbered.{numbered_lines-none, numbered_lines-append}
use Rattle.lr_reading.proofs.Numbered.{numbered_lines-push, numbered_lines-map}
use Rattle.lr_cmd_print.specs.declared.frame_lines.FrameLines.{FrameLines}
use Rattle.lr_cmd_print.specs.FrameLines.{frame_text, text_of_frames}
use Rattle.lr_cmd_print.specs.Frames.{lines_of_frames, frames_text, frames_last, frames_printed}
use Rattle.lr_cmd_print.specs.FramesTaken.{FramesTook, FramesStopped}
use Rattle.lr_causes.specs.Outside.{pipe, pipe_of}
use Rattle.lr_cmd_print.specs.Printing.{Prints}
use Rattle.lr_cmd_print.specs.Progress.{LinesComeFirst, LinesStop}
use Rattle.lr_causes.proofs.Joining.{puts_both, puts_none}
use Rattle.lr_cmd_print.proofs.Lines.{come_first, due_put, lines_stop, lines_stopped}

abbrev line_of : ℕ → Arrival → List ℕ
line_of place arrival = frame_text place arrival.outcome

-- the line of the next frame
text_more : (arrivals : List Arrival) (arrival : Arrival) (place : ℕ) → place ≡ length arrivals
    → text_of_frames (arrivals ++ arrival ∷ []) ≡ text_of_frames arrivals ++ frame_text place arrival.outcome
text_more arrivals arrival place is =
    numbered_lines-push line_of 0 arrivals arrival
    ∙ ap (λ (k : ℕ). text_of_frames arrivals ++ frame_text k arrival.outcome) (omega (arith, is))

-- the text of all that comes is that of the frames
text_of_all : (bytes : List ℕ) → text_of_frames (arrivals_of (Units Frames) bytes) ≡ frames_text bytes
unfolding arrivals_of arrivals_of_units lines_of_frames
text_of_all bytes = numbered_lines-map line_of (λ (unit : List ℕ). arrival_of (outcome_of_unit Frames unit)) 0
    (units_of FRAME_BYTES bytes)

-- the lines of the first ones come first
text_first : (passed rest : List Arrival)
    → (later : List ℕ) × (text_of_frames (passed ++ rest) ≡ text_of_frames passed ++ later)
text_first passed rest =
    (numbered_lines line_of (0 + length passed) rest, numbered_lines-append line_of 0 passed rest)

-- there is one for each unit
pub frames_counted : (bytes : List ℕ) → length (arrivals_of (Units Frames) bytes) ≡ length bytes / FRAME_BYTES
unfolding arrivals_of units_of
frames_counted bytes =
    arrivals_of_units-counted Frames (units_of FRAME_BYTES bytes)
    ∙ length-map (range_with_len 0 (length bytes / FRAME_BYTES)) (unit_of FRAME_BYTES bytes)
    ∙ length-range_with_len 0 (length bytes / FRAME_BYTES)

-- the last line says how many there are, and how long the rest is
pub frames_last_is : {S : Type 0} (source : SourceOf S) (limit : ℕ) (totals : ReadCounts) (bytes : List ℕ) (s s' : S)
    → ReadsInput source (Units Frames) limit bytes totals s s'
    → frames_last bytes totals.stop ≡ summary_line (FramesLine totals.frames totals.left) totals.stop
frames_last_is source limit totals bytes s s' ends =
    ap (λ k. summary_line (FramesLine k (length bytes % FRAME_BYTES)) totals.stop)
    (sym (ends.frames ∙ frames_counted bytes))
    ∙ ap (λ k. summary_line (FramesLine totals.frames k) totals.stop) (sym ends.left)

text_grows : (arrivals first rest : List Arrival) → arrivals ≡ first ++ rest
    → (later : List ℕ) × (text_of_frames arrivals ≡ text_of_frames first ++ later)
text_grows arrivals first rest is =
    let front = text_first first rest in (front.0, ap (λ (l : List Arrival). text_of_frames l) is ∙ front.1)

-- those of the first arrivals are the first ones
text_of_first : (given : List ℕ) (count : ℕ) → text_of_frames (take count (arrivals_of (Units Frames) given))
    ≡ lines_of_frames (take count (units_of FRAME_BYTES given))
unfolding arrivals_of arrivals_of_units lines_of_frames
text_of_first given count =
    let arrives : List ℕ → Arrival = λ (unit : List ℕ). arrival_of (outcome_of_unit Frames unit) in
    let units : List (List ℕ) = units_of FRAME_BYTES given in
    ap (λ (l : List Arrival). text_of_frames l) (take-map arrives count units)
    ∙ numbered_lines-map line_of arrives 0 (take count units)

-- of no bytes there are none
pub none_first : (count : ℕ) → lines_of_frames (take count (units_of FRAME_BYTES [])) ≡ []
none_first count = sym (text_of_first [] count)
    ∙ ap (λ (l : List Arrival). text_of_frames (take count l)) (no_arrivals (Units Frames))
    ∙ ap (λ (l : List Arrival). text_of_frames l) (take-nil count) ∙ numbered_lines-none line_of 0

module _ {O : Type 0} (out : SinkOf O) where
  -- it begins
  pub frames_begun : (lines : FrameLines O) → lines.frames ≡ 0 → FramesTook out lines [] lines
  frames_begun lines none = record {
    same_out = refl;
    count = none;
    put = subst (λ (l : List ℕ). Puts out l lines.out.now lines.out.now) (sym (numbered_lines-none line_of 0))
        (puts_none out lines.out.now);
  }

  module _ {before now : FrameLines O} {arrivals : List Arrival} (took : FramesTook out before arrivals now)
      (arrival : Arrival) (o' : O) where
    -- one line more was put
    pub text_put : Puts out (frame_text now.frames arrival.outcome) now.out.now o'
        → Puts out (text_of_frames (arrivals ++ arrival ∷ [])) before.out.now o'
    text_put put = subst (λ (l : List ℕ). Puts out l before.out.now o')
        (sym (text_more arrivals arrival now.frames took.count)) (puts_both out _ _ _ _ _ took.put put)

    -- it wasn't
    pub text_stopped : (cause : Cause) → PutStops out (frame_text now.frames arrival.outcome) cause now.out.now o'
        → LinesStop out (text_of_frames (arrivals ++ arrival ∷ [])) cause before.out.now o'
    text_stopped cause stops = subst (λ (l : List ℕ). LinesStop out l cause before.out.now o')
        (sym (text_more arrivals arrival now.frames took.count))
        (lines_stop out (text_of_frames arrivals) (frame_text now.frames arrival.outcome) before.out.now now.out.now
        o' took.put cause stops)

  module _ {S : Type 0} (source : SourceOf S) (limit : ℕ) {s s' : S} {before now : FrameLines O}
      (none : before.frames ≡ 0) where
    -- all frames were taken
    pub frames_put : {totals : ReadCounts}
        → TakesAll (course_of source (FramesTook out) (Units Frames) limit (leeway_for (Units Frames) 1)) totals
        (lent s before) (lent s' now)
        → (now.out.ghost_name ≡ before.out.ghost_name) × ((bytes : List ℕ)
        × ReadsInput source (Units Frames) limit bytes totals s s'
        × Puts out (frames_text bytes) before.out.now now.out.now
        × LinesComeFirst source (frames_printed limit) bytes s s')
    frames_put all =
        let took = all.taken before (frames_begun before none) in (
          took.same_out,
          (
            all.bytes,
            all.ends,
            subst (λ (l : List ℕ). Puts out l before.out.now now.out.now)
                (text_of_all all.bytes) took.put,
            come_first source (frames_printed limit) (λ l. text_of_frames l) text_of_first all.bytes s s'
                (arrivals_of (Units Frames) all.bytes) (text_grows (arrivals_of (Units Frames) all.bytes)) refl
                (text_of_all all.bytes) all.in_time,
          ),
        )

    -- they were not
    pub frames_stopped : (cause : Cause)
        → TakesSome (course_of source (FramesTook out) (Units Frames) limit (leeway_for (Units Frames) 1))
        (FramesStopped out) cause (lent s before) (lent s' now)
        → (now.out.ghost_name ≡ before.out.ghost_name)
        × Prints (pipe_of source out) (frames_printed limit) cause (pipe s before.out.now)
        (pipe s' now.out.now)
    frames_stopped cause some =
        let stopped = some.stops before (frames_begun before none) in
        let first = text_first some.passed some.rest in (
          stopped.same_out,
          lines_stopped source out (frames_printed limit) some.bytes (text_of_frames some.passed) first.0 s s'
              before.out.now now.out.now
              some.read (sym (text_of_all some.bytes) ∙ ap text_of_frames some.split ∙ first.1)
              (due_put source (frames_printed limit) (λ l. text_of_frames l) text_of_first some.bytes s s'
              stopped.others.worked (text_grows stopped.others.worked) out before.out.now now.out.now some.passed
              stopped.others.late some.rest stopped.others.split stopped.others.one stopped.others.got some.split
              some.near some.close some.in_time)
              cause stopped.stops,
        )
