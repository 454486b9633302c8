-- The images under way: which strips they gave, and which of these wait. No clause of a public call cites this.
use Rattle.std.specs.Prelude.{◌≡◌, ◌<◌, ◌≤◌, ◌+◌, ◌-◌, ◌⊎◌, ℕ, true, false, cond, Option, Some}
use Rattle.std.specs.Prelude.{None, List, [], ◌∷◌}
use Rattle.std.specs.Prelude.{◌++◌, length, take, drop}
use Rattle.lr_bits.specs.File.{File}
use Rattle.lr_render.specs.Plans.{IsStripAt, PlanView, planned_strips}
use Rattle.lr_render.specs.declared.strip.StripSource.{StripSource}
use Rattle.lr_cmd_render.specs.declared.queue.UnderWay.{UnderWay}

-- ---- an image

-- of its strips the first ones were given, and some of these kept; the others of these wait
pub record IsImageUnderWay (image : UnderWay) : Type 0 where
  pub waits : image.waiting + image.plan.kept ≡ image.plan.given
  pub within : image.plan.given ≤ length (planned_strips image.plan)
  pub all : image.all_given ≡ true → image.plan.given ≡ length (planned_strips image.plan)
  pub few : image.plan.given ≤ 65535

-- an image of which nothing was given
abbrev pub image_of : PlanView → UnderWay
image_of plan = record { plan = plan; waiting = 0; all_given = false }

-- its strips that wait
abbrev pub waiting_in : UnderWay → List StripSource
waiting_in image = drop image.plan.kept (take image.plan.given (planned_strips image.plan))

-- how many more it gives at most
abbrev pub strips_left_in : UnderWay → ℕ
strips_left_in image = cond image.all_given 0 (65535 - image.plan.given)

-- it gave this strip
pub record QueueGivesOne (old new : UnderWay) (strip : StripSource) : Type 0 where
  pub at : IsStripAt old.plan old.plan.given strip
  pub going : old.all_given ≡ false
  pub is : new ≡ record old {
    plan = record old.plan { given = old.plan.given + 1 };
    waiting = old.waiting + 1;
  }
  pub few : old.plan.given + 1 ≤ 65535

-- it had given all
pub record QueueGivesNone (old new : UnderWay) : Type 0 where
  pub all : old.plan.given ≡ length (planned_strips old.plan)
  pub is : new ≡ record old { all_given = true }

abbrev pub QueueGivesNext : UnderWay → UnderWay → Option StripSource → Type 0
QueueGivesNext old new (Some strip) = QueueGivesOne old new strip
QueueGivesNext old new None = QueueGivesNone old new

-- what came of the oldest of its strips that wait was kept
abbrev pub KeepsOne : UnderWay → UnderWay → Type 0
KeepsOne old new =
    new ≡ record old { plan = record old.plan { kept = old.plan.kept + 1 }; waiting = old.waiting - 1 }

-- ---- all of them, in order

abbrev pub EachUnderWay : List UnderWay → Type 0
EachUnderWay [] = Unit {0}
EachUnderWay (image ∷ images) = IsImageUnderWay image × EachUnderWay images

abbrev pub AllGiven : List UnderWay → Type 0
AllGiven [] = Unit {0}
AllGiven (image ∷ images) = (image.all_given ≡ true) × AllGiven images

-- only the last one has strips to give
abbrev pub OnlyLastGives : List UnderWay → Type 0
OnlyLastGives [] = Unit {0}
OnlyLastGives (image ∷ []) = Unit {0}
OnlyLastGives (image ∷ next ∷ images) = (image.all_given ≡ true) × OnlyLastGives (next ∷ images)

-- the first one isn't complete
abbrev pub FirstWaits : List UnderWay → Type 0
FirstWaits [] = Unit {0}
FirstWaits (image ∷ images) = image.all_given ≡ true → 0 < image.waiting

abbrev pub all_waiting : List UnderWay → List StripSource
all_waiting [] = []
all_waiting (image ∷ images) = waiting_in image ++ all_waiting images

abbrev pub all_left : List UnderWay → ℕ
all_left [] = 0
all_left (image ∷ images) = strips_left_in image + all_left images

abbrev pub files_under_way : List UnderWay → List File
files_under_way [] = []
files_under_way (image ∷ images) = image.plan.file ∷ files_under_way images

-- the last one gave this, and the others are as they were
pub record LastIs (old new : List UnderWay) (Becomes : UnderWay → UnderWay → Type 0) : Type 0 where
  pub front : List UnderWay
  pub last : UnderWay
  pub next : UnderWay
  pub old_is : old ≡ front ++ last ∷ []
  pub new_is : new ≡ front ++ next ∷ []
  pub becomes : Becomes last next

abbrev pub LastGives : List UnderWay → List UnderWay → Option StripSource → Type 0
LastGives old new (Some strip) = LastIs old new (λ last next. QueueGivesOne last next strip)
LastGives old new None = ((old ≡ []) × (new ≡ [])) ⊎ LastIs old new QueueGivesNone

-- this is the oldest strip of the first image
abbrev pub MayKeepFirst : StripSource → List UnderWay → Type 0
MayKeepFirst strip [] = ⊥
MayKeepFirst strip (image ∷ images) =
    IsImageUnderWay image × (0 < image.waiting) × IsStripAt image.plan image.plan.kept strip

-- the first one kept it
pub record FirstKeeps (old new : List UnderWay) : Type 0 where
  pub first : UnderWay
  pub next : UnderWay
  pub rest : List UnderWay
  pub old_is : old ≡ first ∷ rest
  pub new_is : new ≡ next ∷ rest
  pub keeps : KeepsOne first next

-- the first one was complete, and this is its plan
pub record TakesFirst (old new : List UnderWay) (plan : PlanView) : Type 0 where
  pub first : UnderWay
  pub old_is : old ≡ first ∷ new
  pub plan_is : plan ≡ first.plan
  pub all : first.all_given ≡ true
  pub none : first.waiting ≡ 0
