-- How jobs are led through a ring, round by round. No clause of a public call cites this.
use Rattle.std.specs.Prelude.{◌≡◌, ◌<◌, ◌≤◌, ◌+◌, ◌-◌, ◌*◌, ◌⊎◌, ℕ, true, false, cond, Result, IfOk, IfErr}
use denote.Ref.{MutBor}
use Rattle.lr_gate.specs.Left.{unfinished_count}
use Rattle.lr_gate.specs.Seats.{cells_of, workers_of, IsConductorOf, view_of, jobs_put}
use Rattle.lr_gate.specs.Seats.{OldestWaits, TakesNothing}
use Rattle.lr_gate.specs.Steps.{after_put}
use Rattle.lr_gate.specs.declared.gate.Conductor.{Conductor}
use Rattle.lr_gate.specs.declared.gate.Gate.{Gate}
use Rattle.lr_gate.specs.declared.view.View.{View}
use Rattle.lr_rounds.specs.JobSources.{SourceTerms, led, HasGivenNothing, EndsWell}
use Rattle.lr_rounds.specs.declared.round.Round.{Round}
use Rattle.lr_rounds.specs.declared.round.Round.TheVariants.{Worked, Waits, Ended}
use Rattle.lr_rounds.specs.declared.round.Traffic.{Traffic}

-- between two calls of a round: the conductor, what is in the ring, and the job source
pub record RoundState (L W J D : Type 0) : Type 0 where
  pub conductor : Conductor W J D
  pub traffic : Traffic
  pub source : L

abbrev pub round_state : {L W J D : Type 0} → Conductor W J D → Traffic → L → RoundState L W J D
round_state conductor traffic source = record { conductor = conductor; traffic = traffic; source = source }

-- ---- how long it takes

-- what decreases with each round: three for each job that is to come, one for each that isn't finished, one for each
-- that wasn't taken, and one until the job source says that it is over
abbrev pub rounds_left : {L W J D Cause : Type 0} → SourceTerms L J Cause → RoundState L W J D → ℕ
rounds_left terms at =
    3 * terms.left at.source + cond at.traffic.over 0 1 + unfinished_count (view_of at.conductor)
    + (jobs_put (view_of at.conductor) - (view_of at.conductor).taken)

-- ---- calls that put no job and take none

-- the jobs are the same, and as many of them were taken
pub record SameJobs {J : Type 0} (v w : View J) : Type 0 where
  pub jobs : w.jobs ≡ v.jobs
  pub taken : w.taken ≡ v.taken
  pub stopped : w.stopped ≡ v.stopped

module _ {J : Type 0} where
  -- a job was put, or none
  abbrev pub PutsOneOrNone : View J → View J → Type 0
  PutsOneOrNone v w = (w ≡ v) ⊎ ((job : J) × (w ≡ after_put v job))

  -- what came of the oldest job was taken
  pub record TakesOne (v w : View J) : Type 0 where
    pub jobs : w.jobs ≡ v.jobs
    pub taken : w.taken ≡ v.taken + 1

  -- No job was put before what is done was taken: the ring of n cells was looked into, and its oldest job wasn't done
  abbrev pub LooksBeforePutting : ℕ → View J → View J → Type 0
  LooksBeforePutting n v w = (looked : View J) × TakesNothing n v looked × PutsOneOrNone looked w

  -- A round put no job; or it looked first; or it put one as it took what came of one, for a job source that wants that
  abbrev pub PutsAfterLooking : ℕ → (WantsAtOnce : Type 0) → View J → View J → Type 0
  PutsAfterLooking n WantsAtOnce v w =
      (w.jobs ≡ v.jobs) ⊎ (LooksBeforePutting n v w ⊎ (WantsAtOnce × (w.taken ≡ v.taken + 1)))

-- nothing was kept, since the oldest job isn't done
pub record KeepsNone {L W J D : Type 0} (gate : Gate W J D) (old new : RoundState L W J D) : Type 0 where
  pub same : SameJobs (view_of old.conductor) (view_of new.conductor)
  pub finished : (view_of new.conductor).finished ≡ (view_of old.conductor).finished
  pub same_traffic : new.traffic ≡ old.traffic
  pub same_source : new.source ≡ old.source
  pub looked : TakesNothing (cells_of gate) (view_of old.conductor) (view_of new.conductor)
  pub alone : workers_of gate ≡ 0 → OldestWaits (view_of old.conductor)

module _ {L W J D Cause : Type 0} (terms : SourceTerms L J Cause) where
  -- nothing was put, since the job source is over, or jobs are in the ring
  pub record PutsNone (old new : RoundState L W J D) : Type 0 where
    pub same : new.conductor ≡ old.conductor
    pub same_traffic : new.traffic ≡ old.traffic
    pub no_more : terms.left new.source ≤ terms.left old.source
    pub why : (old.traffic.over ≡ true) ⊎ (0 < old.traffic.waiting)

  -- ---- a round

  module _ (gate : Gate W J D) where
    -- A round may be made: the conductor is the one of this gate, its jobs are those that the job source gave, and
    -- those taken are those of which it kept what came
    pub record MayGoOn (entry : L) (at : RoundState L W J D) : Type 0 where
      pub mine : IsConductorOf gate at.conductor
      pub running : (view_of at.conductor).stopped ≡ false
      pub ready : (start : L) × HasGivenNothing terms start entry
      pub led_on : (start : L) → HasGivenNothing terms start entry
          → terms.stands (led start (view_of at.conductor).jobs (view_of at.conductor).taken) at.source
      pub waiting : at.traffic.waiting + (view_of at.conductor).taken ≡ jobs_put (view_of at.conductor)
      pub over : at.traffic.over ≡ true → terms.is_over at.source

    -- what a round came to: it goes on, or all was kept and there is no more
    abbrev pub Goes : L → RoundState L W J D → Round → Type 0
    Goes entry at Worked = MayGoOn entry at
    Goes entry at Waits = MayGoOn entry at
    Goes entry at Ended = (start : L) → HasGivenNothing terms start entry → EndsWell terms start at.source

  -- rounds may be made from here on, over this gate of N cells
  pub record MayRound (cells : ℕ) (gate : Gate W J D) (conductor : Conductor W J D) (now : L) : Type 0 where
    pub size : cells_of gate ≡ cells
    pub some : 0 < cells
    pub going : MayGoOn gate now (round_state conductor (record { waiting = 0; over = false }) now)

-- the conductor is the one of this gate, and didn't stop it
pub record IsRunning {W J D : Type 0} (gate : Gate W J D) (conductor : Conductor W J D) : Type 0 where
  pub mine : IsConductorOf gate conductor
  pub running : (view_of conductor).stopped ≡ false

module _ {L J Cause : Type 0} (terms : SourceTerms L J Cause) where
  -- it stopped for this cause, wherever it began
  abbrev pub RoundStops : Cause → L → L → Type 0
  RoundStops cause entry now = (start : L) → HasGivenNothing terms start entry → terms.stopped start cause now

  -- rounds were made, until all was kept or the job source stopped
  pub record HasRounded (answer : Result (Unit {0}) Cause) (before now : L) : Type 0 where
    pub all : (start : L) → HasGivenNothing terms start before → IfOk answer (λ _. EndsWell terms start now)
    pub stops : (start : L) → HasGivenNothing terms start before → IfErr answer (λ cause. terms.stopped start cause now)

  -- rounds may be made over some gate that the conductor is of, and a call with these conditions makes them
  pub record MayConduct {W D : Type 0} (conductor : Conductor W J D) (now : L)
      (pre : MutBor (Conductor W J D) → MutBor W → MutBor L → Type 0)
      (post : MutBor (Conductor W J D) → MutBor W → MutBor L → Result (Unit {0}) Cause
      → MutBor (Conductor W J D) → MutBor W → MutBor L → Type 0) : Type 0 where
    pub cells : ℕ
    pub gate : Gate W J D
    pub begins : MayRound terms cells gate conductor now
    pub may : (c : MutBor (Conductor W J D)) (own : MutBor W) (source : MutBor L)
        → MayRound terms cells gate c.now source.now → pre c own source
    pub makes : (c : MutBor (Conductor W J D)) (own : MutBor W) (source : MutBor L) (answer : Result (Unit {0}) Cause)
        (c' : MutBor (Conductor W J D)) (own' : MutBor W) (source' : MutBor L)
        → post c own source answer c' own' source'
        → IsRunning gate c'.now × HasRounded answer source.now source'.now
