-- What fills windows, before it has filled any. No clause of a public call cites this.
use Rattle.std.specs.Prelude.{◌≡◌, ◌<◌, ◌≤◌, ◌^◌, ℕ, None, vec_len, vec_capacity}
use Rattle.lr_reading.specs.Feeding.{IsFreshFeed}
use Rattle.lr_reading.specs.WindowSources.{AreDecoded, decoding_of}
use Rattle.lr_reading.specs.declared.intake.Intake.{Intake}

-- nothing was taken, and at most this many bytes will be; all windows are spare
pub record IsFreshIntake (most : ℕ) (intake : Intake) : Type 0 where
  pub fresh : IsFreshFeed most intake.feed
  pub few : most ≤ 2 ^ 61
  pub going : intake.ended ≡ None
  pub none : intake.frames ≡ 0
  pub lines : AreDecoded (decoding_of intake) intake.spare.items
  pub some : 0 < vec_capacity intake.spare
  pub all : vec_len intake.spare ≡ vec_capacity intake.spare
