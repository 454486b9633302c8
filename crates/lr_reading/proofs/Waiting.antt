-- After the frames given no more frames come of the symbols fed than stand whole in the lock.
use Rattle.std.proofs.Common.{◌≡◌, ℕ, zero, suc, ◌-◌, ◌*◌, ◌<◌, ◌≤◌, inl, inr, Bool, ℤ, None, Some, Option}
use Rattle.std.proofs.Common.{List, [], ◌∷◌, ◌++◌, length, take, refl, sym, ◌∙◌, ap, subst, arith}
use Rattle.std.proofs.Common.{length-drop}
use Rattle.std.specs.Prelude.{All}
use Rattle.std.proofs.lemmas.List.Elements.{All-head, All-tail}
use Rattle.lr_bits.specs.declared.sizes.TheConstants.{FRAME_SYMBOLS}
use Rattle.lr_conv.specs.Marker.{tail_of}
use Rattle.lr_conv.proofs.Tails.{tail_size}
use Rattle.lr_lock.specs.Frames.{place_after_frame, HasFewer, IsFoundFrom, IsNext, AreNext, AreFrames, last_of}
use Rattle.lr_lock.specs.FramesOf.{frames_of}
use Rattle.lr_lock.specs.Machine.{IsAt}
use Rattle.lr_lock.specs.Standing.{LockState, LockStandsFor}
use Rattle.lr_lock.specs.Thresholds.{acquiring_hits, holding_hits}
use Rattle.lr_lock.specs.declared.frame.Frame.{Frame}
use Rattle.lr_lock.proofs.Existing.{frames_of-are, given_are_prefix}
use Rattle.lr_lock.proofs.Following.{not_fewer}
use Rattle.lr_lock.proofs.Stepping.{next_whole, reach}

-- the frames after the first ones
frames_behind : (tail : List Bool) (symbols : List ℤ) (last : Option Frame) (given more : List Frame)
    → AreNext tail symbols last (given ++ more) → AreNext tail symbols (last_of last given) more
frames_behind tail symbols last [] more next = next
frames_behind tail symbols last (frame ∷ given) more next = frames_behind tail symbols (Some frame) given more next.1

-- what a search finds lies ahead of it
found_ahead : (tail : List Bool) (symbols : List ℤ) (start begin place : ℕ) (frame : Frame) → start ≡ begin
    → IsFoundFrom tail symbols start frame
    → ((p : ℕ) → begin ≤ p → p < place → HasFewer tail symbols p acquiring_hits) → place ≤ frame.place
found_ahead tail symbols start begin place frame e found passed =
    let below : frame.place < place → ⊥ =
    λ (h : frame.place < place). absurd (omega (
      arith,
      found.locked,
      passed frame.place (omega (arith, found.from)) h frame.positive,
    )) in
    omega arith

-- and so does the next frame
pub next_ahead : (tail : List Bool) (symbols : List ℤ) (last held : Option Frame) (place : ℕ) (frame : Frame)
    → IsAt tail symbols last held place → IsNext tail symbols last frame → place ≤ frame.place
next_ahead tail symbols None None place frame at (inl h) = absurd h
next_ahead tail symbols None None place frame at (inr h) =
    found_ahead tail symbols h.0 at.start place frame (h.1 ∙ sym at.begins) h.2 at.passed
next_ahead tail symbols (Some last) None place frame at (inl (inl h)) =
    absurd (not_fewer tail symbols frame.place (place_after_frame last) frame.positive holding_hits h.place
    h.seen at.begins.0.unseen)
next_ahead tail symbols (Some last) None place frame at (inl (inr h)) = absurd (omega (arith, h.few, at.begins.0.many))
next_ahead tail symbols (Some last) None place frame at (inr h) =
    found_ahead tail symbols h.0 at.start place frame (h.1.1 ∙ sym at.begins.1) h.2 at.passed
next_ahead tail symbols None (Some held) place frame at next = cc
next_ahead tail symbols (Some last) (Some held) place frame at (inl (inl h)) =
    omega (arith, h.place, at.1, ap (λ o. reach o) at.0)
next_ahead tail symbols (Some last) (Some held) place frame at (inl (inr h)) =
    omega (arith, h.place, at.1, ap (λ o. reach o) at.0)
next_ahead tail symbols (Some last) (Some held) place frame at (inr h) =
    omega (arith, h.2.from, h.1.1, at.1, ap (λ o. reach o) at.0)

-- frames stand whole, one after another, between where the lock is and the end
fit_behind : (tail : List Bool) (symbols : List ℤ) (last held : Option Frame) (place : ℕ) (more : List Frame)
    → IsAt tail symbols last held place → AreNext tail symbols last more
    → FRAME_SYMBOLS * length more ≤ length symbols - place
fit_behind tail symbols last held place [] at next = omega arith
fit_behind tail symbols last held place (frame ∷ more) at next =
    let behind : FRAME_SYMBOLS * length more ≤ length symbols - place_after_frame frame =
    fit_behind tail symbols (Some frame) (Some frame) (place_after_frame frame) more (refl, refl) next.1 in
    omega (
      arith,
      behind,
      next_ahead tail symbols last held place frame at next.0,
      next_whole tail symbols last frame next.0,
    )

-- the next frame begins no earlier than what the lock keeps
pub next_begins : (lock : LockState) (symbols : List ℤ) (given more : List Frame) (frame : Frame)
    → LockStandsFor lock symbols given → frames_of (tail_of lock.line) symbols ≡ given ++ frame ∷ more
    → lock.place ≤ frame.place
next_begins lock symbols given more frame stands split =
    let tail = tail_of lock.line in
    let all : AreFrames tail symbols (frames_of tail symbols) = frames_of-are tail symbols in
    let next : AreNext tail symbols None (given ++ frame ∷ more) =
    subst (λ (l : List Frame). AreNext tail symbols None l) split all.next in
    next_ahead tail symbols (last_of None given) lock.held lock.place frame stands.stands
    (frames_behind tail symbols None given (frame ∷ more) next).0

-- what holds of the first ones of all frames holds of the one after those given, where it is among them
pub at_next : (P : Frame → Type 0) (given more : List Frame) (frame : Frame) (count : ℕ) → length given < count
    → All P (take count (given ++ frame ∷ more)) → P frame
at_next P [] more frame zero lt all = absurd (omega (arith, lt))
at_next P [] more frame (suc count) lt all = All-head P frame (take count more) all
at_next P (first ∷ given) more frame zero lt all = absurd (omega (arith, lt))
at_next P (first ∷ given) more frame (suc count) lt all = at_next P given more frame count (omega (arith, lt))
    (All-tail P first (take count (given ++ frame ∷ more)) all)

pub few_in_lock : (lock : LockState) (symbols : List ℤ) (given : List Frame) → LockStandsFor lock symbols given
    → (rest : List Frame) × (frames_of (tail_of lock.line) symbols ≡ given ++ rest)
    × (FRAME_SYMBOLS * length rest ≤ length lock.kept)
few_in_lock lock symbols given stands =
    let tail = tail_of lock.line in
    let front : (rest : List Frame) × (frames_of tail symbols ≡ given ++ rest) =
    given_are_prefix tail symbols given (tail_size lock.line) stands.frames in
    let all : AreFrames tail symbols (frames_of tail symbols) = frames_of-are tail symbols in
    let next : AreNext tail symbols None (given ++ front.0) =
    subst (λ (l : List Frame). AreNext tail symbols None l) front.1 all.next in
    let fit = fit_behind tail symbols (last_of None given) lock.held lock.place front.0 stands.stands
    (frames_behind tail symbols None given front.0 next) in (
      front.0,
      front.1,
      omega (arith, fit, ap length stands.rest, length-drop lock.place symbols),
    )
