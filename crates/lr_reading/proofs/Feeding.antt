-- Symbols are taken to windows.
use Rattle.std.proofs.Common.{◌≡◌, ◌≤◌, ◌+◌, ◌*◌, ℕ, ℤ, true, false, List, [], ◌∷◌, ◌++◌, length}
use Rattle.std.proofs.Common.{map, refl, sym, ap, ◌∙◌, subst, arith, length-append, length-drop}
use Rattle.std.proofs.Common.{append_assoc, append-nil, None, Some, inl, inr, ⊎_elim}
use Rattle.std.specs.Prelude.{is_none}
use Rattle.lr_forms.specs.declared.forms.Decoding.{Decoding}
use Rattle.lr_bits.specs.Faults.{Rose}
use Rattle.lr_bits.specs.declared.outcome.Outcome.{Outcome}
use Rattle.lr_bits.specs.declared.sizes.TheConstants.{FRAME_SYMBOLS}
use Rattle.lr_bits.proofs.Telling.{tells_both}
use Rattle.lr_io.specs.declared.source.Source.{Ghosts as SourceOf}
use Rattle.lr_lock.specs.declared.frame.Frame.{Frame}
use Rattle.lr_lock.specs.Frames.{AreFrames, last_of}
use Rattle.lr_lock.specs.Standing.{LockState, LockStandsFor}
use Rattle.lr_lock.specs.Steps.{GivesWindow, WantsMore, HasEnded}
use Rattle.lr_lock.specs.Symbols.{symbols_of}
use Rattle.lr_lock.specs.Thresholds.{lock_symbols}
use Rattle.lr_conv.specs.Marker.{tail_of}
use Rattle.lr_conv.specs.declared.line.LineCode.{LineCode}
use Rattle.lr_conv.specs.declared.passes.Passes.{Passes}
use Rattle.lr_lock.specs.Windows.{WindowView, window_view}
use Rattle.lr_lock.proofs.Bytes.{symbols_of-append, length-symbols_of}
use Rattle.lr_lock.proofs.Stepping.{next_whole}
use Rattle.lr_frame.proofs.Given.{outcomes_stay}
use Rattle.lr_reading.specs.declared.arrival.Arrival.{Arrival}
use Rattle.lr_reading.specs.Arrivals.{decoded_in, arrival_in}
use Rattle.lr_forms.specs.declared.forms.Stop.{Stop}
use Rattle.lr_forms.specs.declared.forms.Stop.TheVariants.{End, Limit, Fault}
use Rattle.lr_reading.specs.Readers.{EndShort}
use Rattle.lr_reading.specs.Reading.{CameInPieces, EndsFor, AtSource, StopsAsking, at_source}
use Rattle.lr_reading.proofs.Asking.{came_last, last_one, last_too, none_failed, short_last}
use Rattle.lr_reading.proofs.Close.{ends_after, ends_weaker}
use Rattle.lr_reading.proofs.Waiting.{next_ahead}
use Rattle.lr_reading.specs.Feeding.{FeedState, SymbolSource, arrivals_given, FeedsPiece, FeedsNone}
use Rattle.lr_reading.specs.Feeding.{FeedsNoneFor, FedSoFar, FeedsOn, HaveGivenAll, MayAsk, StaysNear}
use Rattle.lr_reading.specs.Feeding.{LooksFirst, GivesFrame, EndsFrames, Taken}

-- a lock that is finished stands for what it stood for
pub finished_stands : {lock : LockState} {fed : List ℤ} {given : List Frame} → LockStandsFor lock fed given
    → LockStandsFor (record lock { finished = true }) fed given
finished_stands stands = record {
  within = stands.within;
  rest = stands.rest;
  frames = stands.frames;
  stands = stands.stands;
  sure = λ e. absurd cc;
}

abbrev pub with_outcome : Frame → Outcome → Arrival
with_outcome frame outcome = record {
  position = Some (record { place = frame.place; positive = frame.positive });
  outcome = outcome;
}

-- what comes of frames is the same where their outcomes are
pub same_arrivals : (decoding : Decoding) (symbols others : List ℤ) (frames : List Frame)
    → map (decoded_in decoding symbols) frames ≡ map (decoded_in decoding others) frames
    → map (arrival_in decoding symbols) frames ≡ map (arrival_in decoding others) frames
same_arrivals decoding symbols others [] is = refl
same_arrivals decoding symbols others (frame ∷ frames) is =
    let first : decoded_in decoding symbols frame ≡ decoded_in decoding others frame = cc (is) in
    let rest : map (decoded_in decoding symbols) frames ≡ map (decoded_in decoding others) frames = cc (is) in
    ap (λ (o : Outcome). with_outcome frame o ∷ map (arrival_in decoding symbols) frames) first
    ∙ ap (λ (l : List Arrival). arrival_in decoding others frame ∷ l)
    (same_arrivals decoding symbols others frames rest)

-- what comes of frames whose symbols were all fed stays
pub arrivals_given-stay : (decoding : Decoding) (lock : LockState) (bytes piece : List ℕ) (given : List Frame)
    → LockStandsFor lock (symbols_of bytes) given → lock.finished ≡ false
    → arrivals_given decoding (bytes ++ piece) given
    ≡ arrivals_given decoding bytes given
unfolding arrivals_given
arrivals_given-stay decoding lock bytes piece given stands unfinished =
    ap (λ (l : List ℤ). map (arrival_in decoding l) given) (symbols_of-append bytes piece)
    ∙ same_arrivals decoding (symbols_of bytes ++ symbols_of piece) (symbols_of bytes) given
    (outcomes_stay decoding.line decoding.passes (symbols_of bytes) (symbols_of piece) given (stands.sure unfinished))

module _ {S : Type 0} (symbols : SymbolSource S) where
  abbrev source : SourceOf S
  source = symbols.source

  abbrev decoding : Decoding
  decoding = symbols.decoding

  -- what was taken before the lock is fed once more, which isn't finished
  module _ (IsUnderWay : Type 0) {so_far : Taken S} {before : AtSource FeedState S}
      (so : FedSoFar symbols so_far before) (unfinished : before.state.lock.finished ≡ false)
      (one : MayAsk decoding IsUnderWay so_far.bytes so_far.given so_far.bytes (so.going_on unfinished).0.0) where
    abbrev bytes : List ℕ
    bytes = so_far.bytes

    abbrev came : CameInPieces source bytes so_far.first before.source
    came = (so.going_on unfinished).0

    -- a piece is fed
    pub piece_fed : {now : AtSource FeedState S} → (IsUnderWay → is_none before.state.lock.held ≡ false)
        → FeedsPiece source before now → FeedsOn symbols IsUnderWay (at_source so_far before.source) now
    piece_fed {now} calm fed = record {
      all = bytes ++ fed.piece;
      so_far = record {
        stands = stands_now;
        line_is = ap (λ (l : LockState). l.line) fed.lock_is ∙ so.line_is;
        long = omega (arith, fed.taken, so.long, length-append bytes fed.piece);
        few = fed.few;
        passed = omega (
          arith,
          so.passed,
          fed.taken,
          ap (λ (l : LockState). length l.kept) fed.lock_is,
          length-append before.state.lock.kept (symbols_of fed.piece),
          length-symbols_of fed.piece,
        );
        tell = tells_both so.tell fed.tell;
        moved = λ told. so.moved told ∙ ap (λ (l : List ℕ). bytes ++ l) (fed.moved (so.tell.told told))
            ∙ sym (append_assoc bytes fed.piece (source.left now.source));
        asked = inr (last_one source (λ given pieces. Unit {0}) bytes fed.piece (bytes ++ fed.piece) so_far.first
            before.source now.source so.moved came fed.asked refl tt);
        going_on = λ e.
            let all = came_last source bytes fed.piece so_far.first before.source now.source came fed.asked fed.some
            fed.within fed.kept in
            (all.0, λ short. fed.short (short_last came.0 fed.piece (subst EndShort all.1 short)));
        ended = λ e. absurd (open_still e);
      };
      looks = inr (last_one source (MayAsk decoding IsUnderWay bytes so_far.given) bytes fed.piece (bytes ++ fed.piece)
          so_far.first before.source now.source so.moved came fed.asked refl one);
      near = λ under_way. inr (ends_weaker (length now.state.lock.kept) lock_symbols so_far.given
          (bytes ++ fed.piece) fed.fits (ends_after (bytes ++ fed.piece) so_far.given now.state.lock
          now.state.lock.held refl (ap (λ (l : LockState). is_none l.held) fed.lock_is ∙ calm under_way) stands_now));
      same = arrivals_given-stay decoding before.state.lock bytes fed.piece so_far.given so.stands unfinished;
    }
      where
        stands_now : LockStandsFor now.state.lock (symbols_of (bytes ++ fed.piece)) so_far.given
        stands_now = subst (λ (l : List ℤ). LockStandsFor now.state.lock l so_far.given)
            (sym (symbols_of-append bytes fed.piece)) (fed.stands (symbols_of bytes) so_far.given so.stands)

        open_still : now.state.lock.finished ≡ true → ⊥
        open_still e = let is : now.state.lock.finished ≡ false = ap (λ (l : LockState). l.finished) fed.lock_is
            ∙ unfinished in cc

    still : source.faults before.source ≡ source.faults so_far.first
    still = none_failed source bytes so_far.first before.source came

    reason : (stop : Stop) (s' : S) → FeedsNoneFor source stop before.state before.source s'
        → EndsFor source stop before.state.most bytes so_far.first s'
    reason End s' why = (omega (arith, why.0, so.long), λ told. why.1 (so.tell.told told), why.2 ∙ still)
    reason Limit s' why = (omega (arith, why.0, so.long), why.1 ∙ still)
    reason Fault s' why = (omega (arith, why.0, so.long), subst (λ k. Rose k (source.faults s')) still why.1)

    -- the lock is finished
    pub none_fed : {now : AtSource FeedState S} (stop : Stop) → FeedsNone source stop before now
        → FeedsOn symbols IsUnderWay (at_source so_far before.source)
        (at_source (record (now.state) { lock = record (now.state.lock) { finished = true }; stop = stop }) now.source)
    none_fed {now} stop fed = record {
      all = bytes;
      so_far = record {
        stands = finished_stands (subst (λ (n : FeedState). LockStandsFor n.lock (symbols_of bytes) so_far.given)
            (sym fed.same) so.stands);
        line_is = ap (λ (n : FeedState). n.lock.line) fed.same ∙ so.line_is;
        long = ap (λ (n : FeedState). n.taken) fed.same ∙ so.long;
        few = omega (arith, so.few, ap (λ (n : FeedState). n.taken) fed.same, ap (λ (n : FeedState). n.most) fed.same);
        passed = omega (
          arith,
          so.passed,
          ap (λ (n : FeedState). n.taken) fed.same,
          ap (λ (n : FeedState). length n.lock.kept) fed.same,
        );
        tell = tells_both so.tell fed.tell;
        moved = λ told. so.moved told ∙ ap (λ (l : List ℕ). bytes ++ l) (sym (fed.moved (so.tell.told told)));
        asked = asked;
        going_on = λ e. absurd cc;
        ended = λ e. subst (λ (n : FeedState). EndsFor source stop n.most bytes so_far.first now.source)
            (sym fed.same) (reason stop now.source fed.why);
      };
      looks = looks;
      near = λ under_way. inl refl;
      same = refl;
    }
      where
        asked : StopsAsking source bytes so_far.first now.source
        asked = ⊎_elim (λ same. subst (λ (x : S). StopsAsking source bytes so_far.first x) (sym same) so.asked)
            (λ once. inr (last_one source (λ given pieces. Unit {0}) bytes [] bytes so_far.first before.source
            now.source
            so.moved came once (sym (append-nil bytes)) tt)) fed.asked

        looks : LooksFirst symbols IsUnderWay (at_source so_far before.source) bytes now.source
        looks = ⊎_elim (λ same. inl (refl, same)) (λ once. inr (last_one source
            (MayAsk decoding IsUnderWay bytes so_far.given) bytes [] bytes so_far.first before.source now.source
            so.moved
            came once (sym (append-nil bytes)) one)) fed.asked

  -- the lock steps
  pub stepped : {so_far : Taken S} {given' : List Frame} {now : AtSource FeedState S} (later : LockState)
      → FedSoFar symbols so_far now → LockStandsFor later (symbols_of so_far.bytes) given'
      → later.line ≡ now.state.lock.line → later.finished ≡ now.state.lock.finished
      → FRAME_SYMBOLS * length given' + length later.kept
      ≤ FRAME_SYMBOLS * length so_far.given + length now.state.lock.kept
      → FedSoFar symbols (record so_far { given = given' })
      (at_source (record (now.state) { lock = later }) now.source)
  stepped later so stands line_stays finished passed = record {
    stands = stands;
    line_is = line_stays ∙ so.line_is;
    long = so.long;
    few = so.few;
    passed = omega (arith, passed, so.passed);
    tell = so.tell;
    moved = so.moved;
    asked = so.asked;
    going_on = λ e. so.going_on (sym finished ∙ e);
    ended = λ e. so.ended (sym finished ∙ e);
  }

  module _ {before : AtSource (Taken S) S} {now : AtSource FeedState S} (IsUnderWay : Type 0)
      (on : FeedsOn symbols IsUnderWay before now) (later : LockState) (seen : WindowView)
      (line_stays : later.line ≡ now.state.lock.line) (finished : later.finished ≡ now.state.lock.finished) where
    abbrev given : List Frame
    given = before.state.given

    abbrev lock : LockState
    lock = now.state.lock

    abbrev stepped_on : AtSource FeedState S
    stepped_on = at_source (record (now.state) { lock = later }) now.source

    pub window_given : GivesWindow (record { before = lock; later = later }) seen (symbols_of on.all) given
        → length later.kept + FRAME_SYMBOLS ≤ length lock.kept → length lock.kept ≤ lock_symbols
        → seen.passes ≡ symbols.decoding.passes → GivesFrame symbols IsUnderWay before seen stepped_on
    window_given gives shorter fits passes = record {
      all = on.all;
      frame = gives.frame;
      so_far = stepped later on.so_far gives.stands line_stays finished
          (omega (arith, shorter, length-append given (gives.frame ∷ [])));
      looks = on.looks;
      near = on.near;
      whole = omega (
        arith,
        next_whole (tail_of lock.line) (symbols_of on.all) (last_of None given) gives.frame gives.next,
        length-symbols_of on.all,
      );
      ahead = omega (
        arith,
        next_ahead (tail_of lock.line) (symbols_of on.all) (last_of None given) lock.held lock.place gives.frame
            on.so_far.stands.stands gives.next,
        ap (λ (l : List ℤ). length l) on.so_far.stands.rest,
        length-drop lock.place (symbols_of on.all),
        length-symbols_of on.all,
        fits,
      );
      window_is = gives.window
          ∙ ap (λ (l : LineCode). window_view l seen.passes (symbols_of on.all) gives.frame) on.so_far.line_is
          ∙ ap (λ (p : Passes). window_view symbols.decoding.line p (symbols_of on.all) gives.frame) passes;
      same = on.same;
    }

    pub more_wanted : WantsMore (record { before = lock; later = later }) (symbols_of on.all) given
        → length later.kept ≤ length lock.kept
        → FeedsOn symbols IsUnderWay before stepped_on
    more_wanted wants passes = record {
      all = on.all;
      so_far = stepped later on.so_far wants.stands line_stays finished (omega (arith, passes));
      looks = on.looks;
      near = on.near;
      same = on.same;
    }

    pub all_given : HasEnded (record { before = lock; later = later }) (symbols_of on.all) given
        → length later.kept ≤ length lock.kept
        → EndsFrames symbols IsUnderWay now.state.stop before stepped_on
    all_given ended passes = record {
      all = on.all;
      so_far = stepped later on.so_far ended.stands line_stays finished (omega (arith, passes));
      looks = on.looks;
      near = on.near;
      closed = finished ∙ ended.closed;
      stop_is = refl;
      every = subst (λ (l : LineCode). AreFrames (tail_of l) (symbols_of on.all) given) on.so_far.line_is ended.all;
      same = on.same;
    }

  -- after one feeding comes another
  pub joined : (IsUnderWay : Type 0) {before : AtSource (Taken S) S} {all : List ℕ} {t : S}
      {now : AtSource FeedState S}
      → FeedsOn symbols IsUnderWay (at_source (record (before.state) { bytes = all }) t) now
      → LooksFirst symbols IsUnderWay before all t
      → (IsUnderWay → StaysNear before.state.bytes before.state.given all)
      → arrivals_given decoding all before.state.given ≡ arrivals_given decoding before.state.bytes before.state.given
      → FeedsOn symbols IsUnderWay before now
  joined IsUnderWay {before} {all} {t} {now} on first near same = record {
    all = on.all;
    so_far = on.so_far;
    looks = ⊎_elim (λ none. subst (λ (l : List ℕ). LooksFirst symbols IsUnderWay before l now.source) (sym none.0)
        (subst (λ (x : S). LooksFirst symbols IsUnderWay before all x) (sym none.1) first))
        (λ last. inr (last_too source (MayAsk decoding IsUnderWay before.state.bytes before.state.given) may last))
        on.looks;
    near = λ under_way. ⊎_elim (λ stays. subst (λ (l : List ℕ). StaysNear before.state.bytes before.state.given l)
        (sym stays) (near under_way)) (λ ends. inr ends) (on.near under_way);
    same = on.same ∙ same;
  }
    where
      may : (some : List ℕ) (pieces : List (List ℕ)) → MayAsk decoding IsUnderWay all before.state.given some pieces
          → MayAsk decoding IsUnderWay before.state.bytes before.state.given some pieces
      may some pieces asks = (subst (λ (l : List Arrival). HaveGivenAll decoding l some) same asks.0, asks.1)
