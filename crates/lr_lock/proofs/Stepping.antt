-- What the lock stands for, from step to step.
use Rattle.std.proofs.Common.{◌≡◌, ℕ, ◌+◌, ◌<◌, ◌≤◌, inl, inr, Bool, true, false, ℤ, pos, None, Some, Option, List, []}
use Rattle.std.proofs.Common.{◌∷◌, ◌++◌, map, length, drop, get_or, refl, sym, ◌∙◌, ap, subst, arith, length-append}
use Rattle.std.proofs.Common.{length-drop}
use Rattle.std.proofs.lemmas.List.{drop-drop, drop-append-le, get_or-drop}
use Rattle.std.proofs.lemmas.List.Elements.{All-push, All-weaker}
use Rattle.std.specs.List.{range_with_len}
use Rattle.lr_bits.specs.declared.sizes.TheConstants.{FRAME_SYMBOLS, WINDOW_SYMBOLS}
use Rattle.lr_conv.specs.Marker.{tail_of}
use Rattle.lr_conv.specs.declared.line.LineCode.{LineCode}
use Rattle.lr_conv.specs.declared.marker.TheConstants.{MARKER_SYMBOLS, TAIL_SYMBOLS}
use Rattle.lr_conv.proofs.Tails.{tail_size}
use Rattle.lr_lock.specs.Frames.{place_after_frame, HasFewer, IsFoundFrom, IsNext, AreNext, last_of}
use Rattle.lr_lock.specs.Windows.{WindowView, window_of, window_value, turned_value}
use Rattle.lr_lock.specs.Machine.{IsAt}
use Rattle.lr_lock.specs.Search.{Searching, FindsFrame, IsFrameFound, IsWaiting}
use Rattle.lr_lock.specs.declared.search.Found.{Found}
use Rattle.lr_lock.specs.Standing.{LockState, LockStandsFor}
use Rattle.lr_lock.specs.Steps.{GivesWindow, WantsMore, HasEnded}
use Rattle.lr_lock.specs.declared.frame.Frame.{Frame}
use Rattle.lr_lock.specs.declared.sizes.TheConstants.{WINDOW_END}
use Rattle.lr_lock.specs.Thresholds.{acquiring_hits, holding_hits}
use Rattle.lr_lock.proofs.Following.{fewer-append, searches-append, next-append, not_fewer}

-- the symbols of the frame's window are there
abbrev Covers : List ℤ → Frame → Type 0
Covers symbols frame = frame.place + WINDOW_END ≤ length symbols

-- more symbols

module _ (tail : List Bool) (symbols more : List ℤ) (t : length tail ≡ TAIL_SYMBOLS) where
  pub next_all-append : (last : Option Frame) (frames : List Frame) →
      AreNext tail symbols last frames → AreNext tail (symbols ++ more) last frames
  next_all-append last [] h = tt
  next_all-append last (frame ∷ frames) h =
      (next-append tail symbols more t last frame h.0, next_all-append (Some frame) frames h.1)

  at-append : (last held : Option Frame) (place : ℕ) →
      IsAt tail symbols last held place → IsAt tail (symbols ++ more) last held place
  at-append last (Some held) place at = at
  at-append last None place at = record {
    start = at.start;
    begins = searches-append tail symbols more t last at.start at.begins;
    from = at.from;
    whole = λ p a b. omega (arith, length-append symbols more, at.whole p a b);
    passed = λ p a b. fewer-append tail symbols more t p acquiring_hits (omega (arith, at.whole p a b))
        (at.passed p a b);
  }

pub stands_after_feed : (lock : LockState) (piece fed : List ℤ) (given : List Frame) → LockStandsFor lock fed given →
    LockStandsFor (record lock { kept = lock.kept ++ piece }) (fed ++ piece) given
stands_after_feed lock piece fed given h = record {
  within = omega (arith, length-append fed piece, h.within);
  rest = ap (λ (s : List ℤ). s ++ piece) h.rest ∙ sym (drop-append-le lock.place fed piece h.within);
  frames = next_all-append (tail_of lock.line) fed piece (tail_size lock.line) None given h.frames;
  stands = at-append (tail_of lock.line) fed piece (tail_size lock.line) (last_of None given) lock.held lock.place
      h.stands;
  sure = λ unfinished. All-weaker (Covers fed) (Covers (fed ++ piece))
      (λ frame k. omega (arith, length-append fed piece)) given (h.sure unfinished);
}

pub stands_after_finish : (lock : LockState) (fed : List ℤ) (given : List Frame) → LockStandsFor lock fed given →
    LockStandsFor (record lock { finished = true }) fed given
stands_after_finish lock fed given h = record {
  within = h.within;
  rest = h.rest;
  frames = h.frames;
  stands = h.stands;
  sure = λ unfinished. cc;
}

-- one more frame

last_of-more : (last : Option Frame) (frames : List Frame) (frame : Frame) →
    last_of last (frames ++ frame ∷ []) ≡ Some frame
last_of-more last [] frame = refl
last_of-more last (one ∷ frames) frame = last_of-more (Some one) frames frame

next_all_more : (tail : List Bool) (symbols : List ℤ) (last : Option Frame) (frames : List Frame) (frame : Frame) →
    AreNext tail symbols last frames → IsNext tail symbols (last_of last frames) frame →
    AreNext tail symbols last (frames ++ frame ∷ [])
next_all_more tail symbols last [] frame h next = (next, tt)
next_all_more tail symbols last (one ∷ frames) frame h next =
    (h.0, next_all_more tail symbols (Some one) frames frame h.1 next)

map_same : (f g : ℕ → ℤ) (xs : List ℕ) → ((k : ℕ) → f k ≡ g k) → map f xs ≡ map g xs
map_same f g [] same = refl
map_same f g (x ∷ xs) same = ap (λ y. y ∷ map f xs) (same x) ∙ ap (λ ys. g x ∷ ys) (map_same f g xs same)

pub window_of-drop : (fed : List ℤ) (place : ℕ) (positive : Bool) →
    window_of (drop place fed) 0 positive ≡ window_of fed place positive
unfolding window_of
window_of-drop fed place positive =
    map_same (window_value (drop place fed) 0 positive) (window_value fed place positive)
    (range_with_len 0 WINDOW_SYMBOLS)
    (λ k. ap (turned_value positive) (get_or-drop place fed (0 + MARKER_SYMBOLS + k) (pos 0)
    ∙ ap (λ n. get_or fed n (pos 0)) (omega arith)))

-- the search of a lock after these frames
abbrev pub search_of : LockState → List Frame → ℕ → Searching
search_of lock given needed = record { last = last_of None given; place = lock.place; needed = needed }

-- what a lock that stands for the symbols fed has of a search of those that it keeps
pub looked : (lock : LockState) (tail : List Bool) (kept fed : List ℤ) (given : List Frame) (needed : ℕ)
    (found : Found) → LockStandsFor lock fed given → tail ≡ tail_of lock.line → kept ≡ lock.kept →
    ((f : List ℤ) (last : Option Frame) → lock.place ≤ length f → kept ≡ drop lock.place f →
    IsAt tail f last lock.held lock.place →
    FindsFrame tail f (record { last = last; place = lock.place; needed = needed }) found) →
    FindsFrame (tail_of lock.line) fed (search_of lock given needed) found
looked lock tail kept fed given needed found h same e looks =
    subst (λ (t : List Bool). FindsFrame t fed (search_of lock given needed) found) same
    (looks fed (last_of None given) h.within (e ∙ h.rest)
    (subst (λ (t : List Bool). IsAt t fed (last_of None given) lock.held lock.place) (sym same) h.stands))

-- no more frame

-- the place after a frame, if there is one
abbrev pub reach : Option Frame → ℕ
reach None = 0
reach (Some frame) = place_after_frame frame

module _ (tail : List Bool) (fed : List ℤ) where
  pub next_whole : (last : Option Frame) (frame : Frame) → IsNext tail fed last frame →
      place_after_frame frame ≤ length fed
  next_whole None frame (inl h) = absurd h
  next_whole (Some last) frame (inl (inl h)) = h.whole
  next_whole (Some last) frame (inl (inr h)) = h.whole
  next_whole None frame (inr h) = h.2.whole
  next_whole (Some last) frame (inr h) = h.2.whole

  -- what a search looks for lies ahead of it
  found_ahead : (start begin place : ℕ) (frame : Frame) → start ≡ begin →
      IsFoundFrom tail fed start frame → ((p : ℕ) → begin ≤ p → p < place → HasFewer tail fed p acquiring_hits) →
      place ≤ frame.place
  found_ahead start begin place frame e found passed =
      let below : frame.place < place → ⊥ =
      λ (h : frame.place < place). absurd (omega (
        arith,
        found.locked,
        passed frame.place (omega (arith, found.from)) h frame.positive,
      )) in
      omega arith

  next_ahead : (last held : Option Frame) (place : ℕ) (frame : Frame) →
      IsAt tail fed last held place → IsNext tail fed last frame → place ≤ frame.place
  next_ahead None None place frame at (inl h) = absurd h
  next_ahead None None place frame at (inr h) =
      found_ahead h.0 at.start place frame (h.1 ∙ sym at.begins) h.2 at.passed
  next_ahead (Some last) None place frame at (inl (inl h)) =
      absurd (not_fewer tail fed frame.place
      (place_after_frame last) frame.positive holding_hits h.place h.seen at.begins.0.unseen)
  next_ahead (Some last) None place frame at (inl (inr h)) = absurd (omega (arith, h.few, at.begins.0.many))
  next_ahead (Some last) None place frame at (inr h) =
      found_ahead h.0 at.start place frame (h.1.1 ∙ sym at.begins.1) h.2 at.passed
  next_ahead None (Some held) place frame at next = cc
  next_ahead (Some last) (Some held) place frame at (inl (inl h)) =
      omega (arith, h.place, at.1, ap (λ o. reach o) at.0)
  next_ahead (Some last) (Some held) place frame at (inl (inr h)) =
      omega (arith, h.place, at.1, ap (λ o. reach o) at.0)
  next_ahead (Some last) (Some held) place frame at (inr h) =
      omega (arith, h.2.from, h.1.1, at.1, ap (λ o. reach o) at.0)

-- one step

module _ (before later : LockState) (fed : List ℤ) (given : List Frame) (passed needed : ℕ)
    (h : LockStandsFor before fed given) (line : later.line ≡ before.line)
    (same : later.finished ≡ before.finished) where
  pub given_window : (frame : Frame) (seen : WindowView) →
      IsFrameFound (tail_of before.line) fed (search_of before given needed) passed frame → FRAME_SYMBOLS ≤ needed →
      (before.finished ≡ false → needed ≡ WINDOW_END) → later.place ≡ before.place + passed + FRAME_SYMBOLS →
      later.kept ≡ drop (passed + FRAME_SYMBOLS) before.kept → later.held ≡ Some frame →
      seen ≡ record {
        position = frame.place;
        positive = frame.positive;
        line = before.line;
        passes = seen.passes;
        symbols = window_of (drop passed before.kept) 0 frame.positive;
      } → GivesWindow (record { before = before; later = later }) seen fed given
  given_window frame seen sees big sure place kept held window =
      let at : before.place + passed ≡ frame.place = sym sees.place in
      let rest : drop passed before.kept ≡ drop frame.place fed =
      ap (drop passed) h.rest ∙ drop-drop passed before.place fed ∙ ap (λ n. drop n fed) at in
      let values : window_of (drop passed before.kept) 0 frame.positive ≡ window_of fed frame.place frame.positive =
      ap (λ s. window_of s 0 frame.positive) rest ∙ window_of-drop fed frame.place frame.positive in
      let made : List ℤ → WindowView = λ (s : List ℤ).
      record {
        position = frame.place;
        positive = frame.positive;
        line = before.line;
        passes = seen.passes;
        symbols = s;
      } in
      let last : last_of None (given ++ frame ∷ []) ≡ Some frame = last_of-more None given frame in
      let frames : AreNext (tail_of before.line) fed None (given ++ frame ∷ []) =
      next_all_more (tail_of before.line) fed None given frame h.frames sees.next in
      record {
        frame = frame;
        next = sees.next;
        sure = λ unfinished. omega (arith, sure unfinished, sees.within, at);
        window = window ∙ ap made values;
        stands = record {
          within = omega (arith, place, sees.within, big);
          rest = kept ∙ ap (drop (passed + FRAME_SYMBOLS)) h.rest ∙ drop-drop (passed + FRAME_SYMBOLS) before.place fed
              ∙ ap (λ n. drop n fed) (omega (arith, place));
          frames = subst (λ (k : LineCode). AreNext (tail_of k) fed None (given ++ frame ∷ [])) (sym line) frames;
          stands = subst (λ (o : Option Frame). IsAt (tail_of later.line) fed
              (last_of None (given ++ frame ∷ [])) o later.place) (sym held) (last, omega (arith, place, at));
          sure = λ unfinished.
              let open_before : before.finished ≡ false = sym same ∙ unfinished in
              All-push (Covers fed) given frame (h.sure open_before)
              (omega (arith, sure open_before, sees.within, at));
        };
      }

  module _ (waits : IsWaiting (tail_of before.line) fed (search_of before given needed) passed later.held)
      (place : later.place ≡ before.place + passed) (kept : later.kept ≡ drop passed before.kept) where
    stands_on : LockStandsFor later fed given
    stands_on =
        let at : IsAt (tail_of before.line) fed (last_of None given) later.held later.place =
        subst (λ (p : ℕ). IsAt (tail_of before.line) fed (last_of None given) later.held p)
        (sym place) waits.stands in
        record {
          within = omega (arith, place, waits.within);
          rest = kept ∙ ap (drop passed) h.rest ∙ drop-drop passed before.place fed ∙ ap (λ n. drop n fed) (sym place);
          frames = subst (λ (k : LineCode). AreNext (tail_of k) fed None given) (sym line) h.frames;
          stands = subst (λ (k : LineCode). IsAt (tail_of k) fed (last_of None given) later.held later.place)
              (sym line) at;
          sure = λ unfinished. h.sure (sym same ∙ unfinished);
        }

    next_beyond : (frame : Frame) → IsNext (tail_of before.line) fed (last_of None given) frame →
        before.place + passed ≤ frame.place
    next_beyond frame next = next_ahead (tail_of before.line) fed (last_of None given) later.held
        (before.place + passed) frame waits.stands next

    pub wanted_more : before.finished ≡ false → needed ≡ WINDOW_END →
        WantsMore (record { before = before; later = later }) fed given
    wanted_more unfinished e = record {
      unfinished = unfinished;
      none = λ frame next. omega (arith, next_beyond frame next, waits.short);
      stands = stands_on;
      room = omega (arith, ap length stands_on.rest, length-drop later.place fed, place, waits.short, e);
    }

    pub had_ended : before.finished ≡ true → needed ≡ FRAME_SYMBOLS →
        HasEnded (record { before = before; later = later }) fed given
    had_ended closed e = record {
      closed = closed;
      all = record {
        next = h.frames;
        all = λ frame next. omega (
          arith,
          next_beyond frame next,
          next_whole (tail_of before.line) fed (last_of None given) frame next,
          waits.short,
        );
      };
      stands = stands_on;
    }

pub dropped : (items : List ℤ) (first next both : ℕ) → first + next ≡ both →
    drop both items ≡ drop next (drop first items)
dropped items first next both e = ap (λ n. drop n items) (sym e) ∙ sym (drop-drop next first items)
