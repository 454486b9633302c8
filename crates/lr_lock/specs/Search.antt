-- What a search of the symbols kept tells. No clause of a public call cites this.
use Rattle.std.specs.Prelude.{◌≡◌, ℕ, ◌+◌, ◌<◌, ◌≤◌, Bool, ℤ, List, length, Option, MatchOption}
use Rattle.lr_lock.specs.Frames.{IsNext}
use Rattle.lr_lock.specs.Machine.{IsAt}
use Rattle.lr_lock.specs.declared.frame.Frame.{Frame}
use Rattle.lr_lock.specs.declared.search.Found.{Found}

-- A search for the frame after `last`, among the symbols from `place` on. It looks no further than to the last place
-- with `needed` symbols from it on
pub record Searching : Type 0 where
  pub last : Option Frame
  pub place : ℕ
  pub needed : ℕ

module _ (tail : List Bool) (symbols : List ℤ) (search : Searching) where
  -- the next frame stands after the symbols passed, and there are `needed` symbols from it on
  pub record IsFrameFound (passed : ℕ) (frame : Frame) : Type 0 where
    pub next : IsNext tail symbols search.last frame
    pub place : frame.place ≡ search.place + passed
    pub within : search.place + passed + search.needed ≤ length symbols

  -- no frame stands that far from the end
  pub record IsWaiting (passed : ℕ) (held : Option Frame) : Type 0 where
    pub stands : IsAt tail symbols search.last held (search.place + passed)
    pub within : search.place + passed ≤ length symbols
    pub short : length symbols < search.place + passed + search.needed

  abbrev pub FindsFrame : Found → Type 0
  FindsFrame found = MatchOption found.frame (IsWaiting found.passed found.held) (IsFrameFound found.passed)
