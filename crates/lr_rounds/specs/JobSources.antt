-- What a job source says of the jobs that it gives, and of what it keeps.
use Rattle.std.specs.Prelude.{◌≡◌, ◌<◌, ◌≤◌, ◌+◌, ℕ, Bool, List, [], ◌∷◌, ◌++◌, length}
use mathlib.Core.Option.{some}
use lib.ListN.{get_elem?}
use Rattle.lr_gatecore.specs.declared.sizes.TheConstants.{MOST_JOBS}
use Rattle.lr_rounds.specs.declared.job_source.NextJob.{NextJob}
use Rattle.lr_rounds.specs.declared.job_source.NextJob.TheVariants.{Job, NotYet, Finished}
use Rattle.lr_rounds.specs.declared.drive_fault.DriveFault.{DriveFault}
use Rattle.lr_rounds.specs.declared.drive_fault.DriveFault.TheVariants.{NoMemory, Stopped}

-- what was led from a start on: these jobs were given, in order, and what came of the first N of them was kept
pub record Led (L J : Type 0) : Type 0 where
  pub start : L
  pub jobs : List J
  pub kept : ℕ

-- the terms on which a job source gives and keeps
pub record SourceTerms (L J Cause : Type 0) : Type 1 where
  -- it became this one by what was led
  pub stands : Led L J → L → Type 0
  -- the first one stopped for this cause, and was then the second one
  pub stopped : L → Cause → L → Type 0
  -- it gives no more jobs
  pub is_over : L → Type 0
  -- how many more jobs it gives at most
  pub left : L → ℕ
  -- whether it wants a job put as soon as one is kept
  pub at_once : L → Bool

abbrev pub led : {L J : Type 0} → L → List J → ℕ → Led L J
led start jobs kept = record { start = start; jobs = jobs; kept = kept }

-- what came of the first jobs was kept, and this came of the next one
abbrev pub IsDoneNext : {J D : Type 0} → (J → D) → List J → ℕ → D → Type 0
IsDoneNext {J} {D} gives jobs kept done = (job : J) × (get_elem? jobs kept ≡ some job) × (done ≡ gives job)

module _ {L J Cause : Type 0} (terms : SourceTerms L J Cause) where
  -- it may be asked: it stands somewhere
  abbrev pub MayGive : L → Type 0
  MayGive now = (so_far : Led L J) × terms.stands so_far now

  -- this may be kept: it came of the next job
  abbrev pub MayKeep : {D : Type 0} → (J → D) → D → L → Type 0
  MayKeep gives done now =
      (so_far : Led L J) × terms.stands so_far now × IsDoneNext gives so_far.jobs so_far.kept done

  -- nothing was given or kept yet
  abbrev pub HasGivenNothing : L → L → Type 0
  HasGivenNothing start now = terms.stands (led start [] 0) now

  -- all that came of its jobs was kept, and there are no more
  pub record EndsWell (start now : L) : Type 0 where
    pub jobs : List J
    pub all_kept : terms.stands (led start jobs (length jobs)) now
    pub over : terms.is_over now

  -- this job was given, after fewer others than a ring may have, and fewer are to come
  pub record GivesJob (so_far : Led L J) (before now : L) (job : J) : Type 0 where
    pub one_more : terms.stands (record so_far { jobs = so_far.jobs ++ job ∷ [] }) now
    pub few : length so_far.jobs < MOST_JOBS
    pub fewer : terms.left now < terms.left before

  -- no job was given
  pub record GivesNone (so_far : Led L J) (before now : L) : Type 0 where
    pub same : terms.stands so_far now
    pub no_more : terms.left now ≤ terms.left before

  -- a job; or none until more is kept of those that were given; or none from now on
  abbrev pub Gives : Led L J → L → L → NextJob J → Type 0
  Gives so_far before now (Job job) = GivesJob so_far before now job
  Gives so_far before now NotYet = GivesNone so_far before now × (so_far.kept < length so_far.jobs)
  Gives so_far before now Finished = GivesNone so_far before now × terms.is_over now

  -- What came of the next job was kept. No more jobs are to come than before, and none if the job source was over
  pub record Keeps (so_far : Led L J) (before now : L) : Type 0 where
    pub one_more : terms.stands (record so_far { kept = so_far.kept + 1 }) now
    pub no_more : terms.left now ≤ terms.left before
    pub still_over : terms.is_over before → terms.is_over now

  -- Nothing was given or kept; or the job source stopped
  abbrev pub IsDriveFault : DriveFault Cause → L → L → L → Type 0
  IsDriveFault NoMemory start before now = now ≡ before
  IsDriveFault (Stopped cause) start before now = terms.stopped start cause now
