-- Frames whose windows are under way stay close to one another, and to the last byte that was taken.
use Rattle.std.proofs.Common.{◌≡◌, ◌⊎◌, ◌+◌, ◌-◌, ◌*◌, ◌<◌, ◌≤◌, ℕ, suc, false, inl, inr, ⊎_elim}
use Rattle.std.proofs.Common.{Option, Some, None, List, [], ◌∷◌, ◌++◌, length, take, drop, refl}
use Rattle.std.proofs.Common.{sym, ap, ◌∙◌, subst, arith, append_assoc, length-drop}
use Rattle.std.specs.Prelude.{All, is_none}
use Rattle.std.proofs.lemmas.Bool.{cases_lt}
use Rattle.std.proofs.lemmas.List.{drop_all, drop-append-le, drop-drop, drop-take, take-append-drop}
use Rattle.std.proofs.lemmas.List.Elements.{All-drop, All-head}
use Rattle.lr_bits.specs.declared.sizes.TheConstants.{FRAME_SYMBOLS}
use Rattle.lr_conv.specs.Marker.{tail_of}
use Rattle.lr_lock.specs.Frames.{last_of, place_after_frame}
use Rattle.lr_lock.specs.Machine.{IsAt}
use Rattle.lr_lock.specs.Standing.{LockState, LockStandsFor}
use Rattle.lr_lock.specs.Symbols.{symbols_of}
use Rattle.lr_lock.specs.Thresholds.{lock_symbols}
use Rattle.lr_lock.specs.declared.frame.Frame.{Frame}
use Rattle.lr_lock.proofs.Bytes.{length-symbols_of}
use Rattle.lr_reading.specs.Feeding.{most_kept, EndsWithin, StaysNear}
use Rattle.lr_reading.specs.Readers.{leeway_with}
use Rattle.lr_reading.specs.WindowSources.{AreClose}

-- ---- the last frame

-- where the lock doesn't search, it stands right after the last frame
last_given : (last : Option Frame) (given : List Frame) (frame : Frame) → last_of last given ≡ Some frame
    → ((before : List Frame) × (given ≡ before ++ frame ∷ [])) ⊎ ((given ≡ []) × (last ≡ Some frame))
last_given last [] frame is = inr (refl, is)
last_given last (first ∷ given) frame is = inl (⊎_elim
    (λ (more : (before : List Frame) × (given ≡ before ++ frame ∷ [])).
    (first ∷ more.0, ap (λ (l : List Frame). first ∷ l) more.1))
    (λ (none : (given ≡ []) × (Some first ≡ Some frame)). let same : first ≡ frame = cc (none.1) in
    ([], ap (λ (l : List Frame). first ∷ l) none.0 ∙ ap (λ (f : Frame). f ∷ []) same))
    (last_given (Some first) given frame is))

-- so no more was taken after it than is kept
pub ends_after : (bytes : List ℕ) (given : List Frame) (lock : LockState) (held : Option Frame)
    → lock.held ≡ held → is_none held ≡ false → LockStandsFor lock (symbols_of bytes) given
    → EndsWithin (length lock.kept) given bytes
ends_after bytes given lock None is some stands = absurd cc
ends_after bytes given lock (Some frame) is some stands =
    let at : (last_of None given ≡ Some frame) × (lock.place ≡ place_after_frame frame) =
    subst (λ (h : Option Frame). IsAt (tail_of lock.line) (symbols_of bytes) (last_of None given) h lock.place) is
    stands.stands in
    let last : (before : List Frame) × (given ≡ before ++ frame ∷ []) = ⊎_elim (λ more. more)
    (λ (none : (given ≡ []) × (None ≡ Some frame)). absurd (let clash = none.1 in cc))
    (last_given None given frame at.0) in
    record {
      before = last.0;
      frame = frame;
      last = last.1;
      near = omega (
        arith,
        at.1,
        ap (λ (l : List _). length l) stands.rest,
        length-drop lock.place (symbols_of bytes),
        length-symbols_of bytes,
      );
    }

pub ends_weaker : (few most : ℕ) (given : List Frame) (bytes : List ℕ) → few ≤ most → EndsWithin few given bytes
    → EndsWithin most given bytes
ends_weaker few most given bytes le ends = record {
  before = ends.before;
  frame = ends.frame;
  last = ends.last;
  near = omega (arith, le, ends.near);
}

last_of-push : (last : Option Frame) (frames : List Frame) (frame : Frame) → last_of last (frames ++ frame ∷ [])
    ≡ Some frame
last_of-push last [] frame = refl
last_of-push last (first ∷ frames) frame = last_of-push (Some first) frames frame

-- the last one of some is the last one of all
near_last : (most first : ℕ) (given : List Frame) (bytes : List ℕ) → EndsWithin most given bytes
    → (before : List Frame) (frame : Frame) → drop first given ≡ before ++ frame ∷ []
    → length bytes ≤ place_after_frame frame + most
near_last most first given bytes ends before frame is =
    let whole : given ≡ (take first given ++ before) ++ frame ∷ [] =
    sym (take-append-drop first given) ∙ ap (λ (l : List Frame). take first given ++ l) is
    ∙ sym (append_assoc (take first given) before (frame ∷ [])) in
    let both : Some ends.frame ≡ Some frame =
    sym (last_of-push None ends.before ends.frame) ∙ ap (λ (l : List Frame). last_of None l) (sym ends.last ∙ whole)
    ∙ last_of-push None (take first given ++ before) frame in
    let same : ends.frame ≡ frame = cc (both) in
    omega (arith, ends.near, ap (λ (f : Frame). place_after_frame f) same)

-- ---- frames that are close

-- up to another place, near the last frame
close_to : (frames : List Frame) (place other : ℕ) → AreClose frames place
    → ((before : List Frame) (frame : Frame) → frames ≡ before ++ frame ∷ []
    → other ≤ place_after_frame frame + lock_symbols)
    → AreClose frames other
close_to [] place other close near = tt
close_to (frame ∷ []) place other close near = (near [] frame refl, tt)
close_to (frame ∷ next ∷ frames) place other close near = (
  close.0,
  close_to (next ∷ frames) place other close.1
      (λ before last is. near (frame ∷ before) last (ap (λ (l : List Frame). frame ∷ l) is)),
)

close_push : (frames : List Frame) (next : Frame) (place : ℕ) → AreClose frames place
    → place_after_frame next ≤ place → place ≤ place_after_frame next + lock_symbols
    → AreClose (frames ++ next ∷ []) place
close_push [] next place close whole near = (near, tt)
close_push (frame ∷ []) next place close whole near = (omega (arith, close.0, whole), (near, tt))
close_push (frame ∷ more ∷ frames) next place close whole near =
    (close.0, close_push (more ∷ frames) next place close.1 whole near)

close_rest : (frames : List Frame) (place : ℕ) → AreClose frames place → AreClose (drop 1 frames) place
close_rest [] place close = tt
close_rest (frame ∷ frames) place close = close.1

pub close_later : (first : ℕ) (given : List Frame) (place : ℕ) → AreClose (drop first given) place
    → AreClose (drop (first + 1) given) place
close_later first given place close = subst (λ (l : List Frame). AreClose l place) (drop-drop 1 first given)
    (close_rest (drop first given) place close)

-- so the place is not far from the first one
all_near : (frame : Frame) (frames : List Frame) (place : ℕ) → AreClose (frame ∷ frames) place
    → place ≤ place_after_frame frame + lock_symbols * (1 + length frames)
all_near frame [] place close = omega (arith, close.0)
all_near frame (next ∷ frames) place close = omega (arith, close.0, all_near next frames place close.1)

-- ---- as bytes are taken

-- where no frame is given
pub stays_close : (IsUnderWay : Type 0) (first : ℕ) (given : List Frame) (bytes all : List ℕ)
    → (first < length given → IsUnderWay) → (IsUnderWay → StaysNear bytes given all)
    → AreClose (drop first given) (length bytes) → AreClose (drop first given) (length all)
stays_close IsUnderWay first given bytes all under near close = ⊎_elim
    (λ (some : first < length given). ⊎_elim
    (λ (same : all ≡ bytes). subst (λ (l : List ℕ). AreClose (drop first given) (length l)) (sym same) close)
    (λ (ends : EndsWithin lock_symbols given all). close_to (drop first given) (length bytes) (length all) close
    (near_last lock_symbols first given all ends)) (near (under some)))
    (λ (none : length given ≤ first). subst (λ (l : List Frame). AreClose l (length all))
    (sym (drop_all first given none)) tt)
    (cases_lt first (length given))

-- where one is
pub gains_close : (IsUnderWay : Type 0) (first : ℕ) (given : List Frame) (bytes all : List ℕ) → first ≤ length given
    → (first < length given → IsUnderWay) → (IsUnderWay → StaysNear bytes given all)
    → (frame : Frame) → place_after_frame frame ≤ length all → length all ≤ place_after_frame frame + most_kept
    → AreClose (drop first given) (length bytes) → AreClose (drop first (given ++ frame ∷ [])) (length all)
gains_close IsUnderWay first given bytes all within under near frame whole ahead close =
    subst (λ (l : List Frame). AreClose l (length all)) (sym (drop-append-le first given (frame ∷ []) within))
    (close_push (drop first given) frame (length all)
    (stays_close IsUnderWay first given bytes all under near close) whole (omega (arith, ahead)))

-- ---- how far ahead of the oldest one the bytes are taken

is_near : (windows spare kept : ℕ) (given : List Frame) (bytes : List ℕ) → spare + length given ≡ windows + kept
    → AreClose (drop kept given) (length bytes) → (spare ≡ 0 → EndsWithin most_kept given bytes)
    → (frame : Frame) (frames : List Frame) → drop kept given ≡ frame ∷ frames
    → length bytes < place_after_frame frame + (leeway_with windows).ahead
is_near windows spare kept given bytes all close full frame frames is =
    let count : 1 + length frames ≡ length given - kept =
    omega (arith, ap (λ (l : List Frame). length l) is, length-drop kept given) in
    ⊎_elim
    (λ (none : spare < 1).
    let ends : EndsWithin most_kept given bytes = full (omega (arith, none)) in
    let further : AreClose (drop kept given) (length bytes + FRAME_SYMBOLS) =
    close_to (drop kept given) (length bytes) (length bytes + FRAME_SYMBOLS) close
    (λ before last e. omega (arith, near_last most_kept kept given bytes ends before last e)) in
    omega (
      arith,
      none,
      all,
      count,
      all_near frame frames (length bytes + FRAME_SYMBOLS)
          (subst (λ (l : List Frame). AreClose l (length bytes + FRAME_SYMBOLS)) is further),
    ))
    (λ (some : 1 ≤ spare). omega (
      arith,
      some,
      all,
      count,
      all_near frame frames (length bytes)
          (subst (λ (l : List Frame). AreClose l (length bytes)) is close),
    ))
    (cases_lt spare 1)

-- what holds of the first ones of all frames holds of the oldest one, where it is among them
of_oldest : (P : Frame → Type 0) (kept count : ℕ) (given rest : List Frame) (frame : Frame) (frames : List Frame)
    → kept < count → kept ≤ length given → drop kept given ≡ frame ∷ frames → All P (take count (given ++ rest))
    → P frame
of_oldest P kept count given rest frame frames before within is all =
    let more : ℕ = count - kept - 1 in
    let sum : count ≡ kept + suc more = omega (arith, before) in
    let there : All P (drop kept (take (kept + suc more) (given ++ rest))) =
    All-drop P kept (take (kept + suc more) (given ++ rest))
    (subst (λ (n : ℕ). All P (take n (given ++ rest))) sum all) in
    let front : drop kept (take (kept + suc more) (given ++ rest)) ≡ take (suc more) ((frame ∷ frames) ++ rest) =
    drop-take kept (suc more) (given ++ rest)
    ∙ ap (take (suc more)) (drop-append-le kept given rest within ∙ ap (λ (l : List Frame). l ++ rest) is) in
    let here : All P (frame ∷ take more (frames ++ rest)) = subst (All P) front there in
    All-head P frame (take more (frames ++ rest)) here

-- the oldest one has not ended so long ago
pub not_ended : (windows spare kept count : ℕ) (given rest : List Frame) (bytes : List ℕ)
    → spare + length given ≡ windows + kept → AreClose (drop kept given) (length bytes)
    → (spare ≡ 0 → EndsWithin most_kept given bytes) → kept < length given → kept < count
    → All (λ (frame : Frame). place_after_frame frame + (leeway_with windows).ahead ≤ length bytes)
    (take count (given ++ rest)) → (frames : List Frame) → drop kept given ≡ frames → ⊥
not_ended windows spare kept count given rest bytes all close full some before ended [] is =
    omega (arith, some, length-drop kept given, ap (λ (l : List Frame). length l) is)
not_ended windows spare kept count given rest bytes all close full some before ended (frame ∷ frames) is =
    let so = of_oldest
    (λ (f : Frame). place_after_frame f + (leeway_with windows).ahead ≤ length bytes) kept count given
    rest frame frames before (omega (arith, some)) is ended in
    omega (arith, so, is_near windows spare kept given bytes all close full frame frames is)
