-- A stream is led to its files, window by window.
use Rattle.std.proofs.Common.{◌≡◌, ◌⊎◌, inl, inr, Some, None, ◌<◌, ◌≤◌, ◌+◌, ◌-◌, ℕ, ℤ, Bool, true, false, ◌^◌}
use Rattle.std.proofs.Common.{List, [], ◌∷◌, ◌++◌, length, map, take, drop, refl, sym, ap, ◌∙◌, subst, arith}
use Rattle.std.proofs.Common.{length-append, length-drop}
use Rattle.std.specs.Prelude.{cond}
use Rattle.std.proofs.lemmas.List.{length-map, length-take-le, map_push, take_all}
use Rattle.std.proofs.lemmas.Bool.{cases_lt}
use Rattle.std.proofs.Math.Seq.{take-add}
use Rattle.lr_bits.specs.declared.outcome.Outcome.{Outcome}
use Rattle.lr_bits.specs.declared.placed.Placed.{Placed}
use Rattle.lr_conv.specs.Marker.{tail_of}
use Rattle.lr_conv.specs.declared.line.LineCode.{LineCode}
use Rattle.lr_conv.specs.declared.passes.Passes.{Passes}
use Rattle.lr_conv.specs.declared.passes.Passes.TheVariants.{One}
use Rattle.lr_frame.proofs.Given.{all_outcomes, outcomes_stay}
use Rattle.lr_frame.proofs.Passing.{one_pass_of_all}
use Rattle.lr_frame.specs.Outcomes.{outcomes_of_symbols, redecoded_in, redecoded_outcome}
use Rattle.lr_bits.specs.declared.sizes.TheConstants.{FRAME_SYMBOLS}
use Rattle.lr_layers.proofs.Pushing.{both_kinds}
use Rattle.lr_layers.specs.Layers.{numbers_of, CountsView}
use Rattle.lr_layers.specs.Origins.{marked_of_outcomes, placed_of_outcomes, placed_packets}
use Rattle.lr_layers.specs.Standing.{AddsFiles, KeptLayers, LayersStandFor}
use Rattle.lr_lock.proofs.Bytes.{length-symbols_of, symbols_of-append}
use Rattle.lr_lock.specs.Frames.{AreFrames}
use Rattle.lr_lock.specs.Standing.{LockState, LockStandsFor}
use Rattle.lr_lock.specs.Steps.{GivesWindow, HasEnded, WantsMore}
use Rattle.lr_lock.specs.Symbols.{symbols_of}
use Rattle.lr_lock.specs.Windows.{WindowView, window_view}
use Rattle.lr_lock.specs.declared.frame.Frame.{Frame}
use Rattle.lr_downlinks.specs.Decoding.{FeedsMore, DecodesOn, IsDecodedSoFar, IsFed, ShowsWindow}
use Rattle.lr_downlinks.specs.Decoding.{outcomes_given, decode_steps_left, coded_stream, given_frames}
use Rattle.lr_downlinks.specs.Streams.{files_of_stream}
use Rattle.lr_downlinks.specs.declared.sizes.TheConstants.{MOST_STREAM_SYMBOLS}

-- what is fed is a part of the rest
pub feeds_rest : (stream : List ℕ) (taken : ℕ) (lock new : LockState) (size : ℕ)
    → FeedsMore lock new (take (length stream - taken) (drop taken stream)) size
    → FeedsMore lock new (drop taken stream) size
feeds_rest stream taken lock new size more =
    subst (λ (l : List ℕ). FeedsMore lock new l size)
    (take_all (length stream - taken) (drop taken stream) (omega (arith, length-drop taken stream))) more

module _ (line : LineCode) (stream : List ℕ) where
  -- ---- feeding

  module _ (fed : ℕ) (given : List Frame) (now : ℕ) (lock : LockState) (on : DecodesOn (coded_stream line stream)
      (given_frames fed given) now lock)
      (later : LockState) (line_stays : later.line ≡ lock.line) (finished : later.finished ≡ lock.finished) where
    -- it wants more
    pub wanted : WantsMore (record { before = lock; later = later }) (symbols_of (take now stream)) given
        → length later.kept ≤ length lock.kept
        → DecodesOn (coded_stream line stream) (given_frames fed given) now later
    wanted wants passes = record {
      is_fed = record {
        inside = on.is_fed.inside;
        line_is = line_stays ∙ on.is_fed.line_is;
        stands = wants.stands;
        passed = omega (arith, on.is_fed.passed, passes);
        ended = λ e. on.is_fed.ended (sym finished ∙ e);
      };
      same = on.same;
    }

    pub window_shown : (seen : WindowView)
        → GivesWindow (record { before = lock; later = later }) seen (symbols_of (take now stream)) given
        → length later.kept + FRAME_SYMBOLS ≤ length lock.kept → seen.passes ≡ One
        → ShowsWindow (coded_stream line stream) (given_frames fed given) later seen (Some now)
    window_shown seen gives shorter one = (
      gives.frame,
      record {
        inside = on.is_fed.inside;
        line_is = line_stays ∙ on.is_fed.line_is;
        stands = gives.stands;
        passed = omega (arith, on.is_fed.passed, shorter, length-append given (gives.frame ∷ []));
        ended = λ e. on.is_fed.ended (sym finished ∙ e);
      },
      gives.window
          ∙ ap (λ (l : LineCode). window_view l seen.passes (symbols_of (take now stream)) gives.frame)
          on.is_fed.line_is
          ∙ ap (λ (p : Passes). window_view line p (symbols_of (take now stream)) gives.frame) one,
      on.same,
    )

    pub all_shown : (seen : WindowView)
        → HasEnded (record { before = lock; later = later }) (symbols_of (take now stream)) given
        → ShowsWindow (coded_stream line stream) (given_frames fed given) later seen None
    all_shown seen ended =
        let whole : now ≡ length stream = on.is_fed.ended ended.closed in
        let all : AreFrames (tail_of line) (symbols_of (take now stream)) given =
        subst (λ (l : LineCode). AreFrames (tail_of l) (symbols_of (take now stream)) given) on.is_fed.line_is
        ended.all in (
          subst (λ (l : List ℕ). AreFrames (tail_of line) (symbols_of l) given)
              (ap (λ (n : ℕ). take n stream) whole ∙ take_all (length stream) stream (omega arith)) all,
          ap (λ (n : ℕ). outcomes_given (coded_stream line stream) (given_frames n given)) (sym whole) ∙ on.same,
        )

  -- what the finish counts
  abbrev tick : Bool → ℕ
  tick b = cond b 0 1

  -- with each feeding there is less to do
  pub fed_fewer : (now : ℕ) (lock later new : LockState) (size : ℕ) → now ≤ length stream
      → FeedsMore later new (drop now stream) size → later.finished ≡ false → lock.finished ≡ false
      → length later.kept ≤ length lock.kept
      → decode_steps_left stream (now + size) new < decode_steps_left stream now lock
  fed_fewer now lock later new size inside more unfinished unfinished' passes = by_size (cases_lt 0 size) where
    before : tick lock.finished ≡ 1
    before = ap tick unfinished'

    by_size : (0 < size) ⊎ (size ≤ 0) → decode_steps_left stream (now + size) new < decode_steps_left stream now lock
    by_size (inl some) =
        omega (
          arith,
          before,
          ap (λ (l : LockState). tick l.finished) (more.fed some),
          ap tick unfinished,
          ap (λ (l : LockState). length l.kept) (more.fed some),
          length-append later.kept (symbols_of (take size (drop now stream))),
          length-symbols_of (take size (drop now stream)),
          length-take-le size (drop now stream) more.inside,
          length-drop now stream,
          more.inside,
          passes,
          some,
          inside,
        )
    by_size (inr none) =
        omega (
          arith,
          before,
          ap (λ (l : LockState). tick l.finished) (more.finished (omega (arith, none))),
          ap (λ (l : LockState). length l.kept) (more.finished (omega (arith, none))),
          passes,
          none,
        )

  -- symbols are fed, or the lock is finished
  pub fed_on : (fed : ℕ) (given : List Frame) (now : ℕ) (lock : LockState)
      → DecodesOn (coded_stream line stream) (given_frames fed given) now lock
      → lock.finished ≡ false → (new : LockState) (size : ℕ) → FeedsMore lock new (drop now stream) size
      → DecodesOn (coded_stream line stream) (given_frames fed given) (now + size) new
  unfolding outcomes_given
  fed_on fed given now lock on unfinished new size more =
      by_size (cases_lt 0 size)
    where
      is : IsFed (coded_stream line stream) (given_frames now given) lock
      is = on.is_fed

      grown : take (now + size) stream ≡ take now stream ++ take size (drop now stream)
      grown = take-add now size stream

      some : 0 < size → DecodesOn (coded_stream line stream) (given_frames fed given) (now + size) new
      some more_than = record {
        is_fed = record {
          inside = omega (arith, more.inside, length-drop now stream, is.inside);
          line_is = ap (λ (l : LockState). l.line) (more.fed more_than) ∙ is.line_is;
          stands =
              subst (λ (l : List ℤ). LockStandsFor new l given)
              (sym (ap symbols_of grown ∙ symbols_of-append (take now stream) (take size (drop now stream))))
              (more.stands more_than (symbols_of (take now stream)) given is.stands);
          passed = omega (
            arith,
            is.passed,
            ap (λ (l : LockState). length l.kept) (more.fed more_than),
            length-append lock.kept (symbols_of (take size (drop now stream))),
            length-symbols_of (take size (drop now stream)),
            length-take-le size (drop now stream) more.inside,
          );
          ended = λ e. absurd (still_open e);
        };
        same =
            ap (λ (l : List ℕ). map (redecoded_in line One (symbols_of l)) given) grown
            ∙ ap (λ (l : List ℤ). map (redecoded_in line One l) given)
            (symbols_of-append (take now stream) (take size (drop now stream)))
            ∙ outcomes_stay line One (symbols_of (take now stream)) (symbols_of (take size (drop now stream))) given
            (is.stands.sure unfinished)
            ∙ on.same;
      }
        where
          still_open : new.finished ≡ true → ⊥
          still_open e =
              let open_is : new.finished ≡ false = ap (λ (l : LockState). l.finished) (more.fed more_than)
              ∙ unfinished in
              cc (e, open_is)

      none : size ≡ 0 → DecodesOn (coded_stream line stream) (given_frames fed given) (now + size) new
      none zero_is =
          let nothing : length stream ≤ now =
          omega (arith, length-drop now stream, ap (λ (l : List ℕ). length l) (more.ended zero_is)) in
          subst (λ (n : ℕ). DecodesOn (coded_stream line stream) (given_frames fed given) n new) (omega
          (arith, zero_is)) (record {
            is_fed = record {
              inside = is.inside;
              line_is = ap (λ (l : LockState). l.line) (more.finished zero_is) ∙ is.line_is;
              stands = more.closes zero_is (symbols_of (take now stream)) given is.stands;
              passed = omega (arith, is.passed, ap (λ (l : LockState). length l.kept) (more.finished zero_is));
              ended = λ e. omega (arith, nothing, is.inside);
            };
            same = on.same;
          })

      by_size : (0 < size) ⊎ (size ≤ 0) → DecodesOn (coded_stream line stream) (given_frames fed given) (now + size) new
      by_size (inl more_than) = some more_than
      by_size (inr none_is) = none (omega (arith, none_is))

  pub begun : (given : List Frame) (fed : ℕ) (lock : LockState)
      → IsFed (coded_stream line stream) (given_frames fed given) lock
      → DecodesOn (coded_stream line stream) (given_frames fed given) fed lock
  begun given fed lock is = record { is_fed = is; same = refl }

  -- ---- files

  -- nothing was fed yet
  pub decoded_none : (lock : LockState) (layers : KeptLayers) → LockStandsFor lock [] [] → lock.line ≡ line
      → lock.finished ≡ false → LayersStandFor layers [] → IsDecodedSoFar (coded_stream line stream) 0 lock layers []
  unfolding outcomes_given marked_of_outcomes placed_packets
  decoded_none lock layers stands line_is unfinished layers_stand = record {
    given = [];
    is_fed = record {
      inside = omega arith;
      line_is = line_is;
      stands = stands;
      passed = omega (arith, ap (λ (l : List ℤ). length l) stands.rest, length-drop {A = ℤ} lock.place []);
      ended = λ e. absurd (cc (e, unfinished));
    };
    layers_stand = layers_stand;
    files_are = refl;
  }

  -- how many outcomes the layers have
  pub outcomes_few : (fed : ℕ) (lock : LockState) (layers : KeptLayers) (files : List Placed)
      → IsDecodedSoFar (coded_stream line stream) fed lock layers files → length stream ≤ MOST_STREAM_SYMBOLS
      → layers.numbers.restored + layers.numbers.lost < 2 ^ 48
  unfolding outcomes_given
  outcomes_few fed lock layers files is few =
      let outcomes = map (redecoded_in line One (symbols_of (take fed stream))) is.given in
      let numbers : layers.numbers ≡ numbers_of outcomes = is.layers_stand.numbers in
      omega (
        arith,
        ap (λ (n : CountsView). n.restored) numbers,
        ap (λ (n : CountsView). n.lost) numbers,
        both_kinds outcomes,
        length-map is.given (redecoded_in line One (symbols_of (take fed stream))),
        is.is_fed.passed,
        is.is_fed.inside,
        few,
      )

  -- one window more
  pub decoded_more : (fed : ℕ) (lock : LockState) (layers : KeptLayers) (files : List Placed)
      → (is : IsDecodedSoFar (coded_stream line stream) fed lock layers files)
      → (now : ℕ) (later : LockState) (seen : WindowView)
      → ShowsWindow (coded_stream line stream) (given_frames fed is.given) later seen (Some now)
      → (outcome : Outcome) → outcome ≡ redecoded_outcome seen.line seen.passes seen.symbols → (layers' : KeptLayers)
      (files' : List Placed)
      → ((outcomes : List Outcome) → LayersStandFor layers outcomes
      → LayersStandFor layers' (outcomes ++ outcome ∷ []) × AddsFiles outcomes outcome files files')
      → IsDecodedSoFar (coded_stream line stream) now later layers' files'
  unfolding outcomes_given
  decoded_more fed lock layers files is now later seen shows outcome outcome_is layers' files' pushed =
      let frame = shows.0 in
      let symbols = symbols_of (take now stream) in
      let before : map (redecoded_in line One symbols) is.given ≡ outcomes_given (coded_stream line stream)
      (given_frames fed is.given) = shows.3 in
      let here : outcome ≡ redecoded_in line One symbols frame =
      outcome_is ∙ ap (λ (w : WindowView). redecoded_outcome w.line w.passes w.symbols) shows.2 in
      let all : map (redecoded_in line One symbols) (is.given ++ frame ∷ [])
      ≡ outcomes_given (coded_stream line stream) (given_frames fed is.given) ++ outcome ∷ [] =
      map_push (redecoded_in line One symbols) is.given frame
      ∙ ap (λ (l : List Outcome). l ++ redecoded_in line One symbols frame ∷ []) before
      ∙ ap (λ (o : Outcome). outcomes_given (coded_stream line stream) (given_frames fed is.given) ++ o ∷ [])
      (sym here) in
      let step = pushed (outcomes_given (coded_stream line stream) (given_frames fed is.given)) is.layers_stand in
      record {
        given = is.given ++ frame ∷ [];
        is_fed = shows.1;
        layers_stand = subst (λ (l : List Outcome). LayersStandFor layers' l) (sym all) step.0;
        files_are =
            step.1.added ∙ ap (λ (l : List Placed). l ++ step.1.more) is.files_are ∙ sym step.1.files
            ∙ ap placed_of_outcomes (sym all);
      }

  -- all windows are done
  pub decoded_all : (fed : ℕ) (lock : LockState) (layers : KeptLayers) (files : List Placed)
      → (is : IsDecodedSoFar (coded_stream line stream) fed lock layers files)
      → (later : LockState) (seen : WindowView)
      → ShowsWindow (coded_stream line stream) (given_frames fed is.given) later seen None
      → files ≡ files_of_stream line stream
  unfolding outcomes_given files_of_stream
  decoded_all fed lock layers files is later seen shows =
      let whole : take (length stream) stream ≡ stream = take_all (length stream) stream (omega arith) in
      let all : outcomes_of_symbols line (symbols_of stream)
      ≡ map (redecoded_in line One (symbols_of stream)) is.given =
      sym (one_pass_of_all line (symbols_of stream)) ∙ all_outcomes line One (symbols_of stream) is.given shows.0 in
      is.files_are
      ∙ ap placed_of_outcomes
      (sym shows.1 ∙ ap (λ (l : List ℕ). map (redecoded_in line One (symbols_of l)) is.given) whole ∙ sym all)
