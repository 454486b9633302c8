-- Bytes that are taken piece by piece.
use Rattle.std.proofs.Common.{◌≡◌, ◌≤◌, ℕ, List, [], ◌++◌, length, refl, sym, ap, ◌∙◌, inl, inr, Result, Ok, Err, IfErr}
use Rattle.std.proofs.Common.{append_assoc, append-nil, ◌<◌, subst}
use Rattle.lr_bits.specs.declared.refusals.Failed.{Failed}
use Rattle.lr_bits.specs.declared.sizes.TheConstants.{FRAME_SYMBOLS}
use Rattle.lr_bits.specs.Telling.{KeepsTelling}
use Rattle.lr_bits.proofs.Telling.{tells_still}
use Rattle.lr_io.specs.declared.source.Source.{Ghosts as SourceOf}
use Rattle.lr_cmd_downlinks.specs.Taking.{most_taken, TakingWantsMemory}
use Rattle.lr_reading.specs.Reading.{CameInPieces, HasGiven, IsRead, StopsAsking}
use Rattle.lr_reading.proofs.Asking.{came_none, came_on, came_once, gave, last_one}

module _ {S : Type 0} (source : SourceOf S) where
  -- these bytes were taken, and the source hasn't failed
  pub record HasTaken (bytes : List ℕ) (s s' : S) : Type 0 where
    pub tell : KeepsTelling (source.tells s) (source.tells s')
    pub moved : source.tells s → source.left s ≡ bytes ++ source.left s'
    pub count : source.faults s' ≡ source.faults s
    pub asked : StopsAsking source bytes s s'
    pub came : CameInPieces source bytes s s'

  pub took_none : (s : S) → HasTaken [] s s
  took_none s = record {
    tell = tells_still;
    moved = λ t. refl;
    count = refl;
    asked = inl (refl, refl);
    came = came_none source s;
  }

  pub is_read : (bytes : List ℕ) (s s' : S) → HasTaken bytes s s' → length bytes ≤ most_taken
      → IsRead source most_taken bytes s s'
  is_read bytes s s' so few =
      record { tell = so.tell; moved = so.moved; few = few; asked = so.asked }

  module _ (bytes piece : List ℕ) (s s1 s2 : S) (so : HasTaken bytes s s1) (told : source.tells s1 → source.tells s2)
      (untold : source.tells s2 → source.tells s1) (answer : Result ℕ Failed) (asked : source.asked s1 answer s2)
      (given : HasGiven answer piece) where
    -- a piece more
    pub took_more : (source.tells s1 → source.left s1 ≡ piece ++ source.left s2)
        → source.faults s2 ≡ source.faults s1 → 0 < length piece → length piece ≤ FRAME_SYMBOLS
        → HasTaken (bytes ++ piece) s s2
    took_more moved same some short = record {
      tell = record { told = λ t. told (so.tell.told t); untold = λ t. so.tell.untold (untold t) };
      moved = λ t. so.moved t ∙ ap (λ (l : List ℕ). bytes ++ l) (moved (so.tell.told t))
          ∙ sym (append_assoc bytes piece (source.left s2));
      count = same ∙ so.count;
      asked = inr (last_one source (λ given pieces. Unit {0}) bytes piece (bytes ++ piece) s s1 s2 so.moved so.came
          (gave source s1 s2 answer piece asked given) refl tt);
      came = came_on source bytes piece s s1 s2 so.came
          (came_once source piece s1 s2 (gave source s1 s2 answer piece asked given) some short same);
    }

    -- the source ended, or failed: nothing was taken
    pub took_last : piece ≡ [] → (source.tells s1 → source.left s2 ≡ source.left s1) → length bytes ≤ most_taken
        → IsRead source most_taken bytes s s2
    took_last empty same few = record {
      tell = record { told = λ t. told (so.tell.told t); untold = λ t. so.tell.untold (untold t) };
      moved = λ t. so.moved t ∙ ap (λ (l : List ℕ). bytes ++ l) (sym (same (so.tell.told t)));
      few = few;
      asked = inr (last_one source (λ given pieces. Unit {0}) bytes [] bytes s s1 s2 so.moved so.came
          (gave source s1 s2 answer [] asked (subst (HasGiven answer) empty given)) (sym (append-nil bytes)) tt);
    }

    -- memory was refused for it
    pub wants_more : (source.tells s1 → source.left s1 ≡ piece ++ source.left s2)
        → source.faults s2 ≡ source.faults s1 → 0 < length piece → length piece ≤ FRAME_SYMBOLS
        → length (bytes ++ piece) ≤ most_taken → TakingWantsMemory source s s2
    wants_more moved same some short few =
        let more = took_more moved same some short in
        record { bytes = bytes ++ piece; read = is_read (bytes ++ piece) s s2 more few; count = more.count }

pub always_refused : {T E A : Type 0} (r : Result T E) → A → IfErr r (λ _. A)
always_refused (Ok v) a = tt
always_refused (Err e) a = a
