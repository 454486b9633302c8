-- Calls on a source in memory that is cut at stated places.
use Rattle.std.proofs.Common.{◌≡◌, ◌<◌, ◌≤◌, ◌+◌, ◌-◌, ℕ, ℤ, List, []}
use Rattle.std.proofs.Common.{◌∷◌, ◌++◌, length, map, take, drop, sym, ap, ◌∙◌}
use Rattle.std.proofs.Common.{subst, arith, inl, ⊎_elim, length-append, Result, Ok, Err}
use Rattle.std.specs.Prelude.{All, Contains}
use Rattle.std.specs.List.{concat}
use Rattle.std.proofs.lemmas.Bool.{cases_lt}
use Rattle.std.proofs.lemmas.List.{take-append-drop, take-append-le, take-map}
use Rattle.std.proofs.lemmas.List.Elements.{All-contains}
use Rattle.lr_bits.specs.declared.outcome.Outcome.{Outcome}
use Rattle.lr_bits.specs.declared.refusals.Failed.{Failed}
use Rattle.lr_bits.specs.declared.sizes.TheConstants.{FRAME_SYMBOLS}
use Rattle.lr_conv.proofs.Tails.{tail_size}
use Rattle.lr_conv.specs.Marker.{tail_of}
use Rattle.lr_forms.specs.declared.forms.Decoding.{Decoding}
use Rattle.lr_disk.specs.Pending.{NothingPending}
use Rattle.lr_disk.specs.declared.disk.Disk.{Ghosts as DiskOf}
use Rattle.lr_forms.specs.declared.forms.Input.TheVariants.{Symbols}
use Rattle.lr_frame.proofs.Given.{outcomes_stay}
use Rattle.lr_frame.specs.Outcomes.{redecoded_outcomes}
use Rattle.lr_io.specs.MemSource.{MayAnswer, MovesOnce, bytes_moved, cut_places, failing_places, faults_of, left_of}
use Rattle.lr_io.specs.declared.sink.Sink.{Ghosts as SinkOf}
use Rattle.lr_io.specs.declared.source.MemSource.{MemSource}
use Rattle.lr_io.specs.declared.source.Source.{Ghosts as SourceOf}
use Rattle.lr_cmd_receive.specs.Noted.{noted_of_outcomes}
use Rattle.lr_lock.proofs.Bytes.{length-symbols_of, symbols_of-append}
use Rattle.lr_lock.proofs.Existing.{prefix_stays}
use Rattle.lr_lock.specs.Frames.{place_after_frame}
use Rattle.lr_lock.specs.FramesOf.{frames_of}
use Rattle.lr_lock.specs.Symbols.{symbols_of}
use Rattle.lr_lock.specs.declared.frame.Frame.{Frame}
use Rattle.lr_lock.specs.declared.sizes.TheConstants.{WINDOW_END}
use Rattle.lr_reading.proofs.Fronts.{All-first}
use Rattle.lr_reading.specs.Arrivals.{decoded_in}
use Rattle.lr_reading.specs.Inputs.{outcomes_of_bytes}
use Rattle.lr_reading.specs.Readers.{HaveCome}
use Rattle.lr_reading.specs.Reading.{HaveGiven}
use Rattle.lr_shelf.proofs.InitialPrefixes.{begun_way}
use Rattle.lr_shelf.specs.InitialShelves.{initial_shelf}
use Rattle.lr_shelf_format.specs.Way.{IsWay, Way}
use Rattle.lr_causes.specs.Outside.{outside, world_of}
use Rattle.lr_causes.specs.declared.cause.Cause.{Cause}
use Rattle.lr_cmd_receive.specs.Receive.{ReceiveRun, receive_query}
use Rattle.lr_cmd_receive.specs.Shelving.{shelved_lines}

-- a source in memory, as clauses see it
abbrev pub mem_source : SourceOf MemSource
mem_source = record { faults = faults_of; tells = λ _. Unit {0}; left = left_of; asked = MayAnswer }

-- calls that each gave some bytes leave the cuts, and move as many bytes as they gave
along : (pieces : List (List ℕ)) (s t : MemSource) → HaveGiven mem_source pieces s t
    → (cut_places t ≡ cut_places s) × (bytes_moved t ≡ bytes_moved s + length (concat pieces))
along [] s t none = (ap cut_places none, omega (arith, ap bytes_moved none))
along (piece ∷ pieces) s t given =
    let next : MemSource = given.2.0 in
    let first : MovesOnce (length piece) s next = given.2.1 in
    let rest = along pieces next t given.2.3 in
    (rest.0 ∙ first.same.cuts, omega (arith, rest.1, first.moved, length-append piece (concat pieces)))

-- a call that ends after a cut began there or later
begins_after : (place : ℕ) (last now : MemSource) (answer : Result ℕ Failed) → MayAnswer last answer now
    → Contains (cut_places last) place → place < bytes_moved now → place ≤ bytes_moved last
begins_after place last now (Ok count) moves cut past =
    let Stops : ℕ → Type 0 = λ (p : ℕ). bytes_moved last < p → bytes_moved now ≤ p in
    let stops : Stops place = All-contains Stops (cut_places last) place
    (All-first Stops (cut_places last) (failing_places last) moves.stops) cut in
    ⊎_elim (λ (before : bytes_moved last < place). absurd (omega (arith, stops before, past)))
    (λ (there : place ≤ bytes_moved last). there) (cases_lt (bytes_moved last) place)
begins_after place last now (Err failed) fails cut past = omega (arith, fails.stays, past)

-- ---- what has come stays

module _ (decoding : Decoding) (bytes more : List ℕ) (count : ℕ)
    (come : HaveCome (Symbols decoding) (WINDOW_END - FRAME_SYMBOLS) bytes count) where
  some : List ℤ
  some = symbols_of bytes

  HasCome : List ℕ → Frame → Type 0
  HasCome all frame = place_after_frame frame + (WINDOW_END - FRAME_SYMBOLS) ≤ length all

  longer : (rest : List Frame)
      × (frames_of (tail_of decoding.line) (symbols_of (bytes ++ more))
      ≡ frames_of (tail_of decoding.line) (symbols_of bytes) ++ rest)
  longer =
      let stays = prefix_stays (tail_of decoding.line) (symbols_of bytes) (symbols_of more) (tail_size decoding.line) in
      (stays.0, ap (λ (l : List ℤ). frames_of (tail_of decoding.line) l) (symbols_of-append bytes more) ∙ stays.1)

  same_frames : take count (frames_of (tail_of decoding.line) (symbols_of (bytes ++ more)))
      ≡ take count (frames_of (tail_of decoding.line) (symbols_of bytes))
  same_frames = ap (take count) longer.1
      ∙ take-append-le count (frames_of (tail_of decoding.line) (symbols_of bytes)) longer.0 come.0

  come_on : HaveCome (Symbols decoding) (WINDOW_END - FRAME_SYMBOLS) (bytes ++ more) count
  come_on = (
    omega (
      arith,
      come.0,
      ap (λ (l : List Frame). length l) longer.1,
      length-append (frames_of (tail_of decoding.line) (symbols_of bytes)) longer.0,
    ),
    subst (λ (l : List Frame). All
        (λ (frame : Frame). place_after_frame frame + (WINDOW_END - FRAME_SYMBOLS) ≤ length (bytes ++ more)) l)
        (sym same_frames)
        (λ k frame within. omega (arith, come.1 k frame within, length-append bytes more)),
  )

  same_outcomes : take count (outcomes_of_bytes (Symbols decoding) (bytes ++ more))
      ≡ take count (outcomes_of_bytes (Symbols decoding) bytes)
  unfolding outcomes_of_bytes redecoded_outcomes
  same_outcomes =
      let frames : List Frame = take count (frames_of (tail_of decoding.line) (symbols_of bytes)) in
      take-map (decoded_in decoding (symbols_of (bytes ++ more))) count
      (frames_of (tail_of decoding.line) (symbols_of (bytes ++ more)))
      ∙ ap (map (decoded_in decoding (symbols_of (bytes ++ more)))) same_frames
      ∙ ap (λ (l : List ℤ). map (decoded_in decoding l) frames) (symbols_of-append bytes more)
      ∙ outcomes_stay decoding.line decoding.passes (symbols_of bytes) (symbols_of more) frames
      (λ k frame within. omega (arith, come.1 k frame within, length-symbols_of bytes))
      ∙ sym (take-map (decoded_in decoding (symbols_of bytes)) count
      (frames_of (tail_of decoding.line) (symbols_of bytes)))

-- ---- a file's line, from where the source was cut

module _ {D O : Type 0} (disk : DiskOf D) (out : SinkOf O) (decoding : Decoding) (mend most : ℕ) (s s' : MemSource)
    (d d' : D) (o o' : O) (cause : Cause)
    (run : ReceiveRun (world_of mem_source disk out) (receive_query mend (Symbols decoding) 1 most) cause
    (outside s d o)
    (outside s' d' o')) (fresh : bytes_moved s ≡ 0) (place count : ℕ) (way : Way)
    (cut : Contains (cut_places s) place) (past : place < bytes_moved s')
    (come : HaveCome (Symbols decoding) (WINDOW_END - FRAME_SYMBOLS) (take place (left_of s)) count)
    (told : disk.tells d) (is_way : IsWay (disk.contents d) way) (only : NothingPending disk d)
    (tells : out.tells o) where
  abbrev first : List ℕ
  first = take place (left_of s)

  pub lines_there : (text : List ℕ) × (out.contents o' ≡ out.contents o
      ++ (shelved_lines (length way.entries)
      (noted_of_outcomes mend (take count (outcomes_of_bytes (Symbols decoding) first))) ++ text))
  lines_there =
      let keeps = run.onto.keeps_up (initial_shelf way (disk.contents d)) told (begun_way way (disk.contents d) is_way)
      (λ none. only) in
      ⊎_elim (λ none. absurd (omega (arith, past, fresh, ap bytes_moved none.1)))
      (λ last.
      let going = along last.before.0 s last.last last.before.2 in
      let long : place ≤ length last.given = omega (
        arith,
        begins_after place last.last s' last.asked.0 last.asked.1
            (subst (λ (l : List ℕ). Contains l place) (sym going.0) cut) past,
        going.1,
        fresh,
        ap (λ (l : List ℕ). length l) last.before.1,
      ) in
      let these : take place last.given ≡ first = sym (ap (take place) (last.moved tt)
      ∙ take-append-le place last.given (left_of last.last) long) in
      let split : last.given ≡ first ++ drop place last.given =
      sym (take-append-drop place last.given) ∙ ap (λ (l : List ℕ). l ++ drop place last.given) these in
      let more : List ℕ = drop place last.given in
      let known = last.so count 0 (inl (omega arith))
      (subst (λ (n : ℕ). HaveCome (Symbols decoding) (WINDOW_END - FRAME_SYMBOLS) last.given n) (omega arith)
      (subst (λ (l : List ℕ). HaveCome (Symbols decoding) (WINDOW_END - FRAME_SYMBOLS) l count) (sym split)
      (come_on decoding first more count come))) in
      let text = known.told tells in (
        text.0,
        text.1 ∙ ap (λ (l : List Outcome). out.contents o
            ++ (shelved_lines (length way.entries) (noted_of_outcomes mend l) ++ text.0))
            (ap (λ (l : List ℕ). take count (outcomes_of_bytes (Symbols decoding) l)) split
            ∙ same_outcomes decoding first more count come),
      )) keeps.in_time
