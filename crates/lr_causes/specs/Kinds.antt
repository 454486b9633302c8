-- Causes without the values that their lines tell.
use Rattle.std.specs.Prelude.{◌≡◌}
use Rattle.lr_causes.specs.declared.cause.Party.{Party}
use Rattle.lr_causes.specs.declared.cause.Refusal.TheVariants.{NotAShelf, NoSuchFile, Capacity}
use Rattle.lr_causes.specs.declared.cause.Refusal.TheVariants.{NotEmpty, BadChecksum, Discarded}
use Rattle.lr_causes.specs.declared.cause.Refusal.TheVariants.{CannotExport, BadBundle, CannotSend}
use Rattle.lr_causes.specs.declared.cause.Refusal.TheVariants.{CannotRepack}
use Rattle.lr_causes.specs.declared.cause.Cause.{Cause}
use Rattle.lr_causes.specs.declared.cause.Cause.TheVariants.{Done, DoneWith, Usage, Failed, NoMemory, Refused}
use Rattle.lr_causes.specs.Causes.{status_of}

-- a cause without the values that its line tells
pub data Kind : Type 0 where
  IsDone : Kind
  IsUsage : Kind
  HasFailed : Party → Kind
  IsNoMemory : Kind
  IsNotAShelf : Kind
  IsNoSuchFile : Kind
  IsCapacity : Kind
  IsNotEmpty : Kind
  IsBadChecksum : Kind
  IsDiscarded : Kind
  IsNoExport : Kind
  IsNoBundle : Kind
  IsNotSent : Kind
  IsNoRepack : Kind

abbrev pub kind_of : Cause → Kind
kind_of Done = IsDone
kind_of (DoneWith note) = IsDone
kind_of Usage = IsUsage
kind_of (Failed party) = HasFailed party
kind_of NoMemory = IsNoMemory
kind_of (Refused (NotAShelf at)) = IsNotAShelf
kind_of (Refused (NoSuchFile count)) = IsNoSuchFile
kind_of (Refused (Capacity needed capacity)) = IsCapacity
kind_of (Refused (NotEmpty size)) = IsNotEmpty
kind_of (Refused BadChecksum) = IsBadChecksum
kind_of (Refused Discarded) = IsDiscarded
kind_of (Refused (CannotExport fault)) = IsNoExport
kind_of (Refused (BadBundle flaw)) = IsNoBundle
kind_of (Refused CannotSend) = IsNotSent
kind_of (Refused (CannotRepack fault)) = IsNoRepack

-- equal statuses mean equal kinds
abbrev pub HasOneKind : Type 0
HasOneKind = (one other : Cause) → status_of one ≡ status_of other → kind_of one ≡ kind_of other
