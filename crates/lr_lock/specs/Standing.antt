-- What the lock keeps of the symbols fed and the frames given.
use Rattle.std.specs.Prelude.{◌≡◌, ℕ, ◌+◌, ◌≤◌, Bool, false, ℤ, List, length, drop, None, Option}
use Rattle.std.specs.List.{All}
use Rattle.lr_conv.specs.Marker.{tail_of}
use Rattle.lr_conv.specs.declared.line.LineCode.{LineCode}
use Rattle.lr_lock.specs.Frames.{AreNext, last_of}
use Rattle.lr_lock.specs.Machine.{IsAt}
use Rattle.lr_lock.specs.declared.frame.Frame.{Frame}
use Rattle.lr_lock.specs.declared.sizes.TheConstants.{WINDOW_END}

-- `line` is the line code. `kept` are the symbols from `place` on. `held` is the last frame where the lock stands right
-- after it, and None where it searches
pub record LockState : Type 0 where
  pub line : LineCode
  pub place : ℕ
  pub kept : List ℤ
  pub held : Option Frame
  pub finished : Bool

-- The lock stands for these symbols fed and these frames given. While it is unfinished, the symbols of each given
-- window are among those fed.
pub record LockStandsFor (lock : LockState) (fed : List ℤ) (given : List Frame) : Type 0 where
  pub within : lock.place ≤ length fed
  pub rest : lock.kept ≡ drop lock.place fed
  pub frames : AreNext (tail_of lock.line) fed None given
  pub stands : IsAt (tail_of lock.line) fed (last_of None given) lock.held lock.place
  pub sure : lock.finished ≡ false → All (λ frame. frame.place + WINDOW_END ≤ length fed) given
