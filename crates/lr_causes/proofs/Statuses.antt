-- Equal statuses mean equal kinds.
use Rattle.std.proofs.Common.{◌≡◌, ◌==◌, ℕ, refl, ap, ◌∙◌, sym}
use Rattle.std.specs.Prelude.{if◌then◌else◌}
use Rattle.lr_causes.specs.declared.cause.Party.TheVariants.{Source, Disk, Output}
use Rattle.lr_causes.specs.declared.cause.Refusal.TheVariants.{NotAShelf, NoSuchFile, Capacity}
use Rattle.lr_causes.specs.declared.cause.Refusal.TheVariants.{NotEmpty, BadChecksum, Discarded}
use Rattle.lr_causes.specs.declared.cause.Refusal.TheVariants.{CannotExport, BadBundle, CannotSend}
use Rattle.lr_causes.specs.declared.cause.Refusal.TheVariants.{CannotRepack}
use Rattle.lr_causes.specs.declared.cause.Cause.{Cause}
use Rattle.lr_causes.specs.declared.cause.Cause.TheVariants.{Done, DoneWith, Usage, Failed, NoMemory, Refused}
use Rattle.lr_causes.specs.Causes.{status_of}
use Rattle.lr_causes.specs.Kinds.{Kind, IsDone, IsUsage, HasFailed, IsNoMemory, IsNotAShelf}
use Rattle.lr_causes.specs.Kinds.{IsNoSuchFile, IsCapacity, IsNotEmpty, IsBadChecksum, IsDiscarded}
use Rattle.lr_causes.specs.Kinds.{IsNoExport, IsNoBundle, IsNotSent, IsNoRepack, kind_of}
use Rattle.lr_causes.specs.Kinds.{HasOneKind}

-- the kind of a status
abbrev kind_of_status : ℕ → Kind
kind_of_status n =
    if n == 0 then IsDone else if n == 2 then IsUsage else if n == 3 then HasFailed Source else if n == 4 then
    HasFailed Disk
    else if n == 5 then HasFailed Output else if n == 6 then IsNotAShelf else if n == 7 then IsNoSuchFile
    else if n == 8 then IsNoExport else if n == 9 then IsNoMemory else if n == 10 then IsCapacity
    else if n == 11 then IsNotEmpty else if n == 12 then IsBadChecksum else if n == 13 then IsDiscarded
    else if n == 14 then IsNoBundle else if n == 15 then IsNotSent else IsNoRepack

kind_is : (cause : Cause) → kind_of_status (status_of cause) ≡ kind_of cause
kind_is Done = refl
kind_is (DoneWith note) = refl
kind_is Usage = refl
kind_is (Failed Source) = refl
kind_is (Failed Disk) = refl
kind_is (Failed Output) = refl
kind_is NoMemory = refl
kind_is (Refused (NotAShelf at)) = refl
kind_is (Refused (NoSuchFile count)) = refl
kind_is (Refused (Capacity needed capacity)) = refl
kind_is (Refused (NotEmpty size)) = refl
kind_is (Refused BadChecksum) = refl
kind_is (Refused Discarded) = refl
kind_is (Refused (CannotExport fault)) = refl
kind_is (Refused (BadBundle flaw)) = refl
kind_is (Refused CannotSend) = refl
kind_is (Refused (CannotRepack fault)) = refl

pub one_kind : HasOneKind
one_kind one other same = sym (kind_is one) ∙ ap kind_of_status same ∙ kind_is other
