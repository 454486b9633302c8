-- What `assemble` keeps of the segments so far. No clause of a public call cites this.
use Rattle.std.specs.Prelude.{◌≡◌, ◌+◌, ℕ, Bool, true, false, Option, Some, None, Result, Err, List, [], ◌∷◌, ◌++◌}
use Rattle.std.specs.Prelude.{length}
use Rattle.lr_segment.specs.Canvas.{Canvas, HasSizeOf, Member, CanvasStandsFor}
use Rattle.lr_cmd_shelf.specs.declared.gathering.Gathering.{Gathering}
use Rattle.lr_causes.specs.declared.cause.Cause.{Cause}
use Rattle.lr_causes.specs.declared.cause.Cause.TheVariants.{NoMemory, Refused}
use Rattle.lr_causes.specs.declared.cause.Refusal.{Refusal}

-- nothing, as long as there is no member; then the canvas of the members, of the first one's size and depth
abbrev pub IsCanvasOf : List Member → Option Canvas → Type 0
IsCanvasOf [] None = Unit {0}
IsCanvasOf (first ∷ members) (Some canvas) =
    HasSizeOf first.segment first.picture.bits canvas × CanvasStandsFor canvas (first ∷ members)
IsCanvasOf _ canvas = ⊥

pub record GathersMembers (members : List Member) (skipped : ℕ) (gathering : Gathering) : Type 0 where
  pub canvas : IsCanvasOf members gathering.assembly
  pub members_are : gathering.added ≡ length members
  pub skipped_are : gathering.skipped ≡ skipped

-- the members, and one more if there is one
abbrev pub with_member : List Member → Option Member → List Member
with_member members None = members
with_member members (Some m) = members ++ m ∷ []

-- how many were skipped, and one more if it is
abbrev pub with_skipped : ℕ → Bool → ℕ
with_skipped skipped true = skipped + 1
with_skipped skipped false = skipped

-- why a call stops that puts nothing: for what becomes of the entry, or since memory is refused
abbrev pub IsStop : Result (List ℕ) Refusal → Cause → Type 0
IsStop fate NoMemory = Unit {0}
IsStop fate (Refused refusal) = fate ≡ Err refusal
IsStop fate _ = ⊥
