-- A job source is led through a ring, round by round.
use Rattle.std.proofs.Common.{◌≡◌, ◌<◌, ◌≤◌, ◌+◌, ◌↔◌, ◌≢◌, ℕ, Bool, true, false, cond, IsTrue, List, [], ◌∷◌, ◌++◌}
use Rattle.std.proofs.Common.{length, length-append, sym, ap, ◌∙◌, subst, arith, ⊎_elim, ◌-◌, refl}
use Rattle.lr_gatecore.specs.declared.sizes.TheConstants.{MOST_JOBS}
use Rattle.lr_gatecore.proofs.Lists.{at_length}
use Rattle.lr_gate.proofs.Fewer.{same_left}
use Rattle.lr_gate.specs.Calls.{HasFinished}
use Rattle.lr_gate.specs.Left.{unfinished_count}
use Rattle.lr_gate.specs.Shows.{count_of}
use Rattle.lr_gate.specs.Seats.{cells_of, workers_of, IsConductorOf, view_of, jobs_put, TakesOldest, Helps}
use Rattle.lr_gate.specs.Seats.{SomeUnfinished}
use Rattle.lr_gate.specs.Steps.{after_put}
use Rattle.lr_gate.specs.declared.gate.Conductor.{Conductor}
use Rattle.lr_gate.specs.declared.gate.Gate.{Gate}
use Rattle.lr_gate.specs.declared.view.View.{View}
use Rattle.lr_rounds.specs.declared.job_source.NextJob.{NextJob}
use Rattle.lr_rounds.specs.JobSources.{Led, SourceTerms, led, Gives, IsDoneNext, MayGive, MayKeep, HasGivenNothing}
use Rattle.lr_rounds.specs.JobSources.{EndsWell, GivesJob, GivesNone, Keeps}
use Rattle.lr_rounds.specs.Rounds.{RoundState, round_state, rounds_left, SameJobs, KeepsNone, PutsNone, MayGoOn}
use Rattle.lr_rounds.specs.declared.round.Traffic.{Traffic}
use Rattle.lr_rounds.proofs.Left.{unfinished_more, unfinished_less}

-- what was taken came of the oldest job
pub done_next : {J D : Type 0} (gives : J → D) (n : ℕ) (v w : View J) (done : D) → TakesOldest gives n v w done
    → IsDoneNext gives v.jobs v.taken done
done_next gives n v w done takes = (takes.0, takes.1, takes.2)

-- what the job source has to give, by its variant
pub offered : {L J Cause : Type 0} (terms : SourceTerms L J Cause) (before now : L) (offer variant : NextJob J)
    → offer ≡ variant → ((so_far : Led L J) → terms.stands so_far before → Gives terms so_far before now offer)
    → (so_far : Led L J) → terms.stands so_far before → Gives terms so_far before now variant
offered terms before now offer variant is gives =
    λ so_far so. subst (Gives terms so_far before now) is (gives so_far so)

module _ {L W J D Cause : Type 0} (terms : SourceTerms L J Cause) (gate : Gate W J D) {entry : L}
    {old : RoundState L W J D} (may : MayGoOn terms gate entry old) where
  -- what was led so far, from a start on
  abbrev so_far_from : L → Led L J
  so_far_from start = led start (view_of old.conductor).jobs (view_of old.conductor).taken

  pub may_give : MayGive terms old.source
  may_give = (so_far_from may.ready.0, may.led_on may.ready.0 may.ready.1)

  pub may_keep : (gives : J → D) (done : D)
      → IsDoneNext gives (view_of old.conductor).jobs (view_of old.conductor).taken done
      → MayKeep terms gives done old.source
  may_keep gives done next = (so_far_from may.ready.0, may.led_on may.ready.0 may.ready.1, next)

  -- ---- what came of a job was kept

  module _ (gives : J → D) (done : D) (conductor' : Conductor W J D) (traffic' : Traffic) (now : L)
      (takes : TakesOldest gives (cells_of gate) (view_of old.conductor) (view_of conductor') done)
      (keeps : (so_far : Led L J) → terms.stands so_far old.source
      → IsDoneNext gives so_far.jobs so_far.kept done → Keeps terms so_far old.source now)
      (waiting : traffic'.waiting ≡ old.traffic.waiting - 1) (over : traffic'.over ≡ old.traffic.over) where
    next : IsDoneNext gives (view_of old.conductor).jobs (view_of old.conductor).taken done
    next = done_next gives (cells_of gate) (view_of old.conductor) (view_of conductor') done takes

    kept_from : (start : L) → HasGivenNothing terms start entry → Keeps terms (so_far_from start) old.source now
    kept_from start begins = keeps (so_far_from start) (may.led_on start begins) next

    jobs_same : (view_of conductor').jobs ≡ (view_of old.conductor).jobs
    jobs_same = ap (λ (v : View J). v.jobs) takes.3.1

    taken_more : (view_of conductor').taken ≡ (view_of old.conductor).taken + 1
    taken_more = ap (λ (v : View J). v.taken) takes.3.1

    some_waiting : (view_of old.conductor).taken < jobs_put (view_of old.conductor)
    some_waiting = at_length (view_of old.conductor).jobs (view_of old.conductor).taken takes.0 takes.1

    pub goes_on_kept : IsConductorOf gate conductor' → MayGoOn terms gate entry (round_state conductor' traffic' now)
    goes_on_kept mine = record {
      mine = mine;
      running = ap (λ (v : View J). v.stopped) takes.3.1 ∙ may.running;
      ready = may.ready;
      led_on = λ start begins.
          subst (λ (jobs : List J). terms.stands (led start jobs (view_of conductor').taken) now) (sym jobs_same)
          (subst (λ (kept : ℕ). terms.stands (led start (view_of old.conductor).jobs kept) now) (sym taken_more)
          (kept_from start begins).one_more);
      waiting = omega (
        arith,
        waiting,
        some_waiting,
        taken_more,
        may.waiting,
        ap (λ (l : List J). length l) jobs_same,
      );
      over = λ said. (kept_from may.ready.0 may.ready.1).still_over (may.over (sym over ∙ said));
    }

    pub fewer_kept : rounds_left terms (round_state conductor' traffic' now) < rounds_left terms old
    fewer_kept = omega (
      arith,
      (kept_from may.ready.0 may.ready.1).no_more,
      same_left (view_of old.conductor) (view_of conductor') jobs_same (ap (λ (v : View J). v.finished) takes.3.1),
      ap (λ (l : List J). length l) jobs_same,
      taken_more,
      some_waiting,
      ap {B = ℕ} (λ (b : Bool). cond b 0 1) over,
    )

  -- ---- a job was put

  module _ (job : J) (now : L) (gives : (so_far : Led L J) → terms.stands so_far old.source
      → GivesJob terms so_far old.source now job) where
    given_from : (start : L) → HasGivenNothing terms start entry
        → GivesJob terms (so_far_from start) old.source now job
    given_from start begins = gives (so_far_from start) (may.led_on start begins)

    pub few_put : jobs_put (view_of old.conductor) < MOST_JOBS
    few_put = (given_from may.ready.0 may.ready.1).few

    module _ (conductor' : Conductor W J D) (traffic' : Traffic)
        (is : view_of conductor' ≡ after_put (view_of old.conductor) job)
        (waiting : traffic'.waiting ≡ old.traffic.waiting + 1) (over : traffic'.over ≡ old.traffic.over)
        (going : old.traffic.over ≡ false) where
      jobs_more : (view_of conductor').jobs ≡ (view_of old.conductor).jobs ++ job ∷ []
      jobs_more = ap (λ (v : View J). v.jobs) is

      longer : jobs_put (view_of conductor') ≡ jobs_put (view_of old.conductor) + 1
      longer = ap (λ (l : List J). length l) jobs_more ∙ length-append (view_of old.conductor).jobs (job ∷ [])

      pub goes_on_put : IsConductorOf gate conductor' → MayGoOn terms gate entry (round_state conductor' traffic' now)
      goes_on_put mine = record {
        mine = mine;
        running = ap (λ (v : View J). v.stopped) is ∙ may.running;
        ready = may.ready;
        led_on = λ start begins.
            subst (λ (kept : ℕ). terms.stands (led start (view_of conductor').jobs kept) now)
            (sym (ap (λ (v : View J). v.taken) is))
            (subst (λ (jobs : List J). terms.stands (led start jobs (view_of old.conductor).taken) now) (sym jobs_more)
            (given_from start begins).one_more);
        waiting = omega (arith, waiting, longer, ap (λ (v : View J). v.taken) is, may.waiting);
        over = λ said. absurd (let clash : false ≡ true = sym going ∙ sym over ∙ said in cc);
      }

      pub fewer_put : rounds_left terms (round_state conductor' traffic' now) < rounds_left terms old
      fewer_put = omega (
        arith,
        (given_from may.ready.0 may.ready.1).fewer,
        unfinished_more (view_of old.conductor) (view_of conductor') (ap (λ (v : View J). v.finished) is) job jobs_more,
        longer,
        ap (λ (v : View J). v.taken) is,
        ap {B = ℕ} (λ (b : Bool). cond b 0 1) over,
      )

  -- ---- no job was put

  module _ (now : L) (same : (so_far : Led L J) → terms.stands so_far old.source
      → GivesNone terms so_far old.source now) where
    none_from : (start : L) → HasGivenNothing terms start entry → GivesNone terms (so_far_from start) old.source now
    none_from start begins = same (so_far_from start) (may.led_on start begins)

    pub no_more : terms.left now ≤ terms.left old.source
    no_more = (none_from may.ready.0 may.ready.1).no_more

    stands_as_before : (traffic' : Traffic) → traffic'.waiting ≡ old.traffic.waiting
        → (traffic'.over ≡ true → terms.is_over now) → MayGoOn terms gate entry (round_state old.conductor traffic' now)
    stands_as_before traffic' waiting over = record {
      mine = may.mine;
      running = may.running;
      ready = may.ready;
      led_on = λ start begins. (none_from start begins).same;
      waiting = omega (arith, waiting, may.waiting);
      over = over;
    }

    -- none for now
    pub goes_on_later : old.traffic.over ≡ false → MayGoOn terms gate entry (round_state old.conductor old.traffic now)
    goes_on_later going =
        stands_as_before old.traffic refl (λ said. absurd (let clash : false ≡ true = sym going ∙ said in cc))

    -- none from now on
    pub goes_on_over : terms.is_over now
        → MayGoOn terms gate entry (round_state old.conductor (record old.traffic { over = true }) now)
    goes_on_over ends = stands_as_before (record old.traffic { over = true }) refl (λ said. ends)

    pub fewer_over : old.traffic.over ≡ false
        → rounds_left terms (round_state old.conductor (record old.traffic { over = true }) now) < rounds_left terms old
    fewer_over going = omega (arith, no_more, ap {B = ℕ} (λ (b : Bool). cond b 0 1) going)

  -- ---- no job was put, and none taken

  pub goes_on_same : (conductor' : Conductor W J D) (traffic' : Traffic) (now : L) → IsConductorOf gate conductor'
      → SameJobs (view_of old.conductor) (view_of conductor') → traffic' ≡ old.traffic → now ≡ old.source
      → MayGoOn terms gate entry (round_state conductor' traffic' now)
  goes_on_same conductor' traffic' now mine same same_traffic same_source =
      subst (λ (t : Traffic). MayGoOn terms gate entry (round_state conductor' t now)) (sym same_traffic)
      (subst (λ (l : L). MayGoOn terms gate entry (round_state conductor' old.traffic l)) (sym same_source) (record {
        mine = mine;
        running = same.stopped ∙ may.running;
        ready = may.ready;
        led_on = λ start begins.
            subst (λ (jobs : List J). terms.stands (led start jobs (view_of conductor').taken) old.source)
            (sym same.jobs) (subst (λ (kept : ℕ). terms.stands (led start (view_of old.conductor).jobs kept) old.source)
            (sym same.taken) (may.led_on start begins));
        waiting = omega (arith, same.taken, may.waiting, ap (λ (l : List J). length l) same.jobs);
        over = may.over;
      }))

  -- ---- the end

  pub ends_well : old.traffic.over ≡ true → old.traffic.waiting ≡ 0 → (start : L) → HasGivenNothing terms start entry
      → EndsWell terms start old.source
  ends_well said none start begins = record {
    jobs = (view_of old.conductor).jobs;
    all_kept = subst (λ (kept : ℕ). terms.stands (led start (view_of old.conductor).jobs kept) old.source)
        (let all : (view_of old.conductor).taken ≡ length (view_of old.conductor).jobs =
        omega (arith, none, may.waiting) in all)
        (may.led_on start begins);
    over = may.over said;
  }

-- ---- a round in which neither the job source kept nor gave anything

module _ {L W J D Cause : Type 0} (terms : SourceTerms L J Cause) (gate : Gate W J D)
    {first second third : RoundState L W J D} (kept : KeepsNone gate first second)
    (put : PutsNone terms second third) where
  third_is : view_of third.conductor ≡ view_of second.conductor
  third_is = ap (λ (k : Conductor W J D). view_of k) put.same

  -- a job was done
  pub fewer_helped : (n : ℕ) (fourth : Conductor W J D) (did : Bool)
      → Helps n (view_of third.conductor) (view_of fourth) did → did ≡ true
      → rounds_left terms (round_state fourth third.traffic third.source) < rounds_left terms first
  fewer_helped n fourth did helps is =
      let done : Helps n (view_of third.conductor) (view_of fourth) true =
      subst (Helps n (view_of third.conductor) (view_of fourth)) is helps in
      omega (
        arith,
        unfinished_less n (view_of third.conductor) (view_of fourth) done,
        ap (λ (v : View J). unfinished_count v) third_is,
        same_left (view_of first.conductor) (view_of second.conductor) kept.same.jobs kept.finished,
        ap (λ (v : View J). length v.jobs) done.2,
        ap (λ (v : View J). v.taken) done.2,
        ap (λ (v : View J). length v.jobs) third_is,
        ap (λ (v : View J). v.taken) third_is,
        ap (λ (l : List J). length l) kept.same.jobs,
        kept.same.taken,
        put.no_more,
        ap terms.left kept.same_source,
        ap {B = ℕ} (λ (t : Traffic). cond t.over 0 1) put.same_traffic,
        ap {B = ℕ} (λ (t : Traffic). cond t.over 0 1) kept.same_traffic,
      )

  -- where no one else works, some job can be done
  pub never_waits : workers_of gate ≡ 0 → (did : Bool) → IsTrue did ↔ SomeUnfinished (view_of third.conductor)
      → did ≡ false → (view_of first.conductor).taken < jobs_put (view_of first.conductor) → ⊥
  never_waits alone did iff none some_left =
      let open_job : ¬ HasFinished (view_of first.conductor) (view_of first.conductor).taken = ⊎_elim
      (λ (e : jobs_put (view_of first.conductor) ≡ (view_of first.conductor).taken).
      absurd (omega (arith, e, some_left))) (λ u. u) (kept.alone alone) in
      let unfinished : SomeUnfinished (view_of second.conductor) = (
        (view_of first.conductor).taken,
        subst (λ (l : List J). (view_of first.conductor).taken < length l) (sym kept.same.jobs) some_left,
        λ fin. open_job (subst (λ (l : List ℕ). count_of (view_of first.conductor).taken l ≢ 0) kept.finished fin),
      ) in
      let yes : did ≡ true = iff.1 (subst (λ (v : View J). SomeUnfinished v) (sym third_is) unfinished) in
      let clash : false ≡ true = sym none ∙ yes in cc

-- a job was put, or none: no more is left to do
pub none_more : {L W J D Cause : Type 0} (terms : SourceTerms L J Cause) (old new : RoundState L W J D) (did : Bool)
    → (did ≡ true → rounds_left terms new < rounds_left terms old) → (did ≡ false → PutsNone terms old new)
    → rounds_left terms new ≤ rounds_left terms old
none_more terms old new true fewer none = let less = fewer refl in omega (arith, less)
none_more {L} {W} {J} {D} terms old new false fewer none =
    let put = none refl in
    omega (
      arith,
      put.no_more,
      ap (λ (k : Conductor W J D). unfinished_count (view_of k)) put.same,
      ap (λ (k : Conductor W J D). jobs_put (view_of k)) put.same,
      ap (λ (k : Conductor W J D). (view_of k).taken) put.same,
      ap {B = ℕ} (λ (t : Traffic). cond t.over 0 1) put.same_traffic,
    )
