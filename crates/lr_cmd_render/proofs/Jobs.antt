-- The jobs that were given and kept, step by step.
use Rattle.std.proofs.Common.{◌≡◌, inl, inr, ◌<◌, ◌≤◌, ◌+◌, ℕ, zero, suc, Bool, true, false}
use Rattle.std.proofs.Common.{Some, None, List, [], ◌∷◌, ◌++◌, length, take, drop, refl, sym, ap, ◌∙◌, subst, arith}
use Rattle.std.proofs.Common.{append-nil, append_assoc, length-append, length-drop, true≢false}
use Rattle.std.proofs.lemmas.List.{drop-append-le}
use Rattle.lr_bits.specs.File.{File}
use Rattle.lr_image.specs.declared.fault.ImageFault.{ImageFault}
use Rattle.lr_gatecore.proofs.Lists.{at_length}
use Rattle.lr_render.specs.Plans.{IsNewPlan, IsStripAt, PlanView, planned_strips}
use Rattle.lr_render.specs.declared.strip.StripSource.{StripSource}
use Rattle.lr_rounds.specs.JobSources.{IsDoneNext}
use Rattle.lr_shelf_format.specs.declared.stored.Stored.{Stored}
use Rattle.lr_cmd_render.specs.Leading.{Ahead, HasStripJobs, Imageless, Pending, Vacant, pending_in}
use Rattle.lr_cmd_render.specs.Queues.{AllGiven, EachUnderWay, FirstKeeps, FirstWaits, QueueGivesNone, QueueGivesOne}
use Rattle.lr_cmd_render.specs.Queues.{IsImageUnderWay, LastGives, LastIs, MayKeepFirst, OnlyLastGives, TakesFirst}
use Rattle.lr_cmd_render.specs.Queues.{all_left, all_waiting, files_under_way, image_of, strips_left_in, waiting_in}
use Rattle.lr_cmd_render.specs.declared.queue.UnderWay.{UnderWay}
use Rattle.lr_cmd_render.proofs.Lists.{drop_at, heads, tails}
use Rattle.lr_cmd_render.proofs.Queueing.{each_front, each_push, left-push, waiting-push, files-push, given_front}
use Rattle.lr_cmd_render.proofs.Queueing.{given_last, given_push, only_tail, first_push, gives_is, gives_waiting}
use Rattle.lr_cmd_render.proofs.Queueing.{gives_left, gives_going, gives_file, ends_is, ends_left, ends_waiting}
use Rattle.lr_cmd_render.proofs.Queueing.{ends_all, ends_file, keeps_is, oldest_waits, none_waits, keeps_waiting}
use Rattle.lr_cmd_render.proofs.Queueing.{keeps_left, keeps_file, keeps_all}

-- the last image became another one of the same file
last_files : {Becomes : UnderWay → UnderWay → Type 0} (old new : List UnderWay) (is : LastIs old new Becomes)
    → is.next.plan.file ≡ is.last.plan.file → files_under_way old ≡ files_under_way new
last_files old new is same =
    ap files_under_way is.old_is ∙ files-push is.front is.last
    ∙ ap (λ (f : File). files_under_way is.front ++ f ∷ []) (sym same) ∙ sym (files-push is.front is.next)
    ∙ sym (ap files_under_way is.new_is)

last_left : {Becomes : UnderWay → UnderWay → Type 0} (old new : List UnderWay) (is : LastIs old new Becomes)
    → all_left new + strips_left_in is.last ≡ all_left old + strips_left_in is.next
last_left old new is =
    omega (arith, ap all_left is.old_is, ap all_left is.new_is, left-push is.front is.last, left-push is.front is.next)

-- ---- a strip is given

module _ (jobs : List StripSource) (kept next : ℕ) (ahead : List Ahead) (old new : List UnderWay)
    (has : HasStripJobs jobs kept next ahead old) where
  last_each : {Becomes : UnderWay → UnderWay → Type 0} (is : LastIs old new Becomes)
      → EachUnderWay is.front × IsImageUnderWay is.last
  last_each is = each_front is.front is.last (subst EachUnderWay is.old_is has.each)

  last_given : {Becomes : UnderWay → UnderWay → Type 0} (is : LastIs old new Becomes) → AllGiven is.front
  last_given is = given_front is.front is.last (subst OnlyLastGives is.old_is has.only_last)

  module _ (strip : StripSource) (is : LastIs old new (λ last now. QueueGivesOne last now strip)) where
    pub given_left : all_left new + 1 ≡ all_left old
    given_left = omega (arith, last_left old new is, gives_left is.last is.next strip is.becomes)

    pub given_jobs : HasStripJobs (jobs ++ strip ∷ []) kept next ahead new
    given_jobs =
        let each = last_each is in
        record {
          each = subst EachUnderWay (sym is.new_is)
              (each_push is.front is.next each.0 (gives_is is.last is.next strip each.1 is.becomes));
          only_last = subst OnlyLastGives (sym is.new_is) (given_last is.front is.next (last_given is));
          files = has.files ∙ last_files old new is (gives_file is.last is.next strip is.becomes);
          behind = omega (arith, has.behind, length-append jobs (strip ∷ []));
          waiting =
              drop-append-le kept jobs (strip ∷ []) has.behind
              ∙ ap (λ (l : List StripSource). l ++ strip ∷ [])
              (has.waiting ∙ ap all_waiting is.old_is ∙ waiting-push is.front is.last)
              ∙ append_assoc (all_waiting is.front) (waiting_in is.last) (strip ∷ [])
              ∙ ap (λ (l : List StripSource). all_waiting is.front ++ l)
              (sym (gives_waiting is.last is.next strip each.1 is.becomes))
              ∙ sym (waiting-push is.front is.next) ∙ sym (ap all_waiting is.new_is);
          few = omega (arith, has.few, given_left, length-append jobs (strip ∷ []));
        }

    pub given_first : FirstWaits old → FirstWaits new
    given_first first =
        subst FirstWaits (sym is.new_is)
        (first_push is.front is.last is.next (gives_going is.last is.next strip is.becomes)
        (subst FirstWaits is.old_is first))

  -- ---- no strip is left to give

  ended_jobs : LastIs old new QueueGivesNone → HasStripJobs jobs kept next ahead new
  ended_jobs is =
      let each = last_each is in
      record {
        each = subst EachUnderWay (sym is.new_is)
            (each_push is.front is.next each.0 (ends_is is.last is.next each.1 is.becomes));
        only_last = subst OnlyLastGives (sym is.new_is) (given_last is.front is.next (last_given is));
        files = has.files ∙ last_files old new is (ends_file is.last is.next is.becomes);
        behind = has.behind;
        waiting =
            has.waiting ∙ ap all_waiting is.old_is ∙ waiting-push is.front is.last
            ∙ ap (λ (l : List StripSource). all_waiting is.front ++ l)
            (sym (ends_waiting is.last is.next is.becomes))
            ∙ sym (waiting-push is.front is.next) ∙ sym (ap all_waiting is.new_is);
        few = omega (arith, has.few, last_left old new is, ends_left is.last is.next is.becomes);
      }

  pub none_jobs : LastGives old new None → HasStripJobs jobs kept next ahead new
  none_jobs (inl empty) = subst (HasStripJobs jobs kept next ahead) (empty.0 ∙ sym empty.1) has
  none_jobs (inr is) = ended_jobs is

  pub none_given : LastGives old new None → AllGiven new
  none_given (inl empty) = subst AllGiven (sym empty.1) tt
  none_given (inr is) =
      subst AllGiven (sym is.new_is)
      (given_push is.front is.next (last_given is) (ends_all is.last is.next is.becomes))

  pub none_left : LastGives old new None → all_left new ≤ all_left old
  none_left (inl empty) = omega (arith, ap all_left empty.0, ap all_left empty.1)
  none_left (inr is) = omega (arith, last_left old new is, ends_left is.last is.next is.becomes)

  pub none_length : LastGives old new None → length new ≡ length old
  none_length (inl empty) = ap (λ (l : List UnderWay). length l) (empty.1 ∙ sym empty.0)
  none_length (inr is) =
      omega (
        arith,
        ap (λ (l : List UnderWay). length l) is.old_is,
        ap (λ (l : List UnderWay). length l) is.new_is,
        length-append is.front (is.last ∷ []),
        length-append is.front (is.next ∷ []),
      )

  pub given_length : (strip : StripSource) → LastGives old new (Some strip) → length new ≡ length old
  given_length strip is =
      omega (
        arith,
        ap (λ (l : List UnderWay). length l) is.old_is,
        ap (λ (l : List UnderWay). length l) is.new_is,
        length-append is.front (is.last ∷ []),
        length-append is.front (is.next ∷ []),
      )

-- ---- what came of a strip is kept

-- the first image waits where a job does
first_may : (images : List UnderWay) (job : StripSource) (rest : List StripSource) → EachUnderWay images
    → OnlyLastGives images → FirstWaits images → job ∷ rest ≡ all_waiting images → MayKeepFirst job images
first_may [] job rest each only first waits = cc (waits)
first_may (image ∷ images) job rest each only first waits = go image.waiting refl where
  alone : image.waiting ≡ 0 → image.all_given ≡ false → (others : List UnderWay) → images ≡ others → ⊥
  alone none going [] is =
      let nothing : job ∷ rest ≡ [] =
      waits ∙ ap (λ (l : List UnderWay). waiting_in image ++ all_waiting l) is
      ∙ ap (λ (l : List StripSource). l ++ []) (none_waits image each.0 none) in
      cc (nothing)
  alone none going (other ∷ others) is =
      let after = subst (λ (l : List UnderWay). OnlyLastGives (image ∷ l)) is only in
      absurd (true≢false (sym after.0 ∙ going))

  stuck : image.waiting ≡ 0 → (all : Bool) → image.all_given ≡ all → ⊥
  stuck none true all = omega (arith, first all, none)
  stuck none false all = alone none all images refl

  go : (waiting : ℕ) → image.waiting ≡ waiting → MayKeepFirst job (image ∷ images)
  go zero none = absurd (stuck none image.all_given refl)
  go (suc n) some =
      let waits' : 0 < image.waiting = omega (arith, some) in
      let oldest = oldest_waits image each.0 waits' in
      let same : job ≡ oldest.0 =
      heads (waits ∙ ap (λ (l : List StripSource). l ++ all_waiting images) oldest.2) in
      (each.0, waits', subst (IsStripAt image.plan image.plan.kept) (sym same) oldest.1)

module _ (jobs : List StripSource) (kept next : ℕ) (ahead : List Ahead) (old : List UnderWay)
    (has : HasStripJobs jobs kept next ahead old) (done : StripSource)
    (is : IsDoneNext (λ strip. strip) jobs kept done) where
  split : done ∷ drop (kept + 1) jobs ≡ all_waiting old
  split =
      ap (λ (s : StripSource). s ∷ drop (kept + 1) jobs) is.2 ∙ sym (drop_at jobs kept is.0 is.1) ∙ has.waiting

  pub may_keep : FirstWaits old → MayKeepFirst done old
  may_keep first = first_may old done (drop (kept + 1) jobs) has.each has.only_last first split

  module _ (new : List UnderWay) (keeps : FirstKeeps old new) (first_waits : 0 < keeps.first.waiting) where
    first_each : IsImageUnderWay keeps.first × EachUnderWay keeps.rest
    first_each = subst EachUnderWay keeps.old_is has.each

    rest_only : (rest : List UnderWay) → OnlyLastGives (keeps.first ∷ rest) → OnlyLastGives (keeps.next ∷ rest)
    rest_only [] only = tt
    rest_only (other ∷ rest) only =
        (keeps_all keeps.first keeps.next keeps.keeps ∙ only.0, only.1)

    pub kept_left : all_left new ≡ all_left old
    kept_left =
        omega (
          arith,
          ap all_left keeps.old_is,
          ap all_left keeps.new_is,
          keeps_left keeps.first keeps.next keeps.keeps,
        )

    pub kept_length : length new ≡ length old
    kept_length =
        omega (
          arith,
          ap (λ (l : List UnderWay). length l) keeps.old_is,
          ap (λ (l : List UnderWay). length l) keeps.new_is,
        )

    pub kept_given : AllGiven old → AllGiven new
    kept_given given =
        let all = subst AllGiven keeps.old_is given in
        subst AllGiven (sym keeps.new_is) (keeps_all keeps.first keeps.next keeps.keeps ∙ all.0, all.1)

    pub kept_jobs : HasStripJobs jobs (kept + 1) next ahead new
    kept_jobs =
        let oldest = oldest_waits keeps.first first_each.0 first_waits in
        let whole : done ∷ drop (kept + 1) jobs ≡ oldest.0
        ∷ (drop (keeps.first.plan.kept + 1) (take keeps.first.plan.given (planned_strips keeps.first.plan))
        ++ all_waiting keeps.rest) =
        split ∙ ap all_waiting keeps.old_is
        ∙ ap (λ (l : List StripSource). l ++ all_waiting keeps.rest) oldest.2 in
        record {
          each = subst EachUnderWay (sym keeps.new_is)
              (keeps_is keeps.first keeps.next first_each.0 first_waits keeps.keeps, first_each.1);
          only_last = subst OnlyLastGives (sym keeps.new_is)
              (rest_only keeps.rest (subst OnlyLastGives keeps.old_is has.only_last));
          files =
              has.files ∙ ap files_under_way keeps.old_is
              ∙ ap (λ (f : File). f ∷ files_under_way keeps.rest)
              (sym (keeps_file keeps.first keeps.next keeps.keeps))
              ∙ sym (ap files_under_way keeps.new_is);
          behind = omega (arith, at_length jobs kept is.0 is.1);
          waiting =
              tails whole
              ∙ ap (λ (l : List StripSource). l ++ all_waiting keeps.rest)
              (sym (keeps_waiting keeps.first keeps.next keeps.keeps))
              ∙ sym (ap all_waiting keeps.new_is);
          few = omega (arith, has.few, kept_left);
        }

-- ---- the first image is taken out

module _ (jobs : List StripSource) (kept next : ℕ) (ahead : List Ahead) (old new : List UnderWay) (plan : PlanView)
    (has : HasStripJobs jobs kept next ahead old) (takes : TakesFirst old new plan) where
  taken_each : IsImageUnderWay takes.first × EachUnderWay new
  taken_each = subst EachUnderWay takes.old_is has.each

  -- it kept all its strips
  pub taken_kept : plan.kept ≡ length (planned_strips plan)
  taken_kept =
      let first = takes.first in
      let all : first.plan.kept ≡ length (planned_strips first.plan) =
      omega (arith, taken_each.0.waits, takes.none, taken_each.0.all takes.all) in
      subst (λ (p : PlanView). p.kept ≡ length (planned_strips p)) (sym takes.plan_is) all

  pub taken_files : pending_in ahead ≡ plan.file ∷ files_under_way new
  taken_files =
      has.files ∙ ap files_under_way takes.old_is
      ∙ ap (λ (p : PlanView). p.file ∷ files_under_way new) (sym takes.plan_is)

  pub taken_left : all_left new ≤ all_left old
  taken_left = omega (arith, ap all_left takes.old_is)

  pub taken_length : length new + 1 ≡ length old
  taken_length = omega (arith, ap (λ (l : List UnderWay). length l) takes.old_is)

  pub taken_given : AllGiven old → AllGiven new
  taken_given given = let all = subst AllGiven takes.old_is given in all.1

  pub taken_jobs : (rest : List Ahead) → pending_in rest ≡ files_under_way new → HasStripJobs jobs kept next rest new
  taken_jobs rest files = record {
    each = taken_each.1;
    only_last = only_tail takes.first new (subst OnlyLastGives takes.old_is has.only_last);
    files = files;
    behind = has.behind;
    waiting =
        has.waiting ∙ ap all_waiting takes.old_is
        ∙ ap (λ (l : List StripSource). l ++ all_waiting new) (none_waits takes.first taken_each.0 takes.none);
    few = omega (arith, has.few, taken_left);
  }

-- ---- an entry is read

pub pending-push : (ahead : List Ahead) (stored : Stored)
    → pending_in (ahead ++ Pending stored ∷ []) ≡ pending_in ahead ++ stored.file ∷ []
pending-push [] stored = refl
pending-push (Vacant ∷ ahead) stored = pending-push ahead stored
pending-push (Imageless other fault ∷ ahead) stored = pending-push ahead stored
pending-push (Pending other ∷ ahead) stored = ap (λ (l : List File). other.file ∷ l) (pending-push ahead stored)

pub pending-vacant : (ahead : List Ahead) → pending_in (ahead ++ Vacant ∷ []) ≡ pending_in ahead
pending-vacant [] = refl
pending-vacant (Vacant ∷ ahead) = pending-vacant ahead
pending-vacant (Imageless other fault ∷ ahead) = pending-vacant ahead
pending-vacant (Pending other ∷ ahead) = ap (λ (l : List File). other.file ∷ l) (pending-vacant ahead)

pub pending-imageless : (ahead : List Ahead) (stored : Stored) (fault : ImageFault)
    → pending_in (ahead ++ Imageless stored fault ∷ []) ≡ pending_in ahead
pending-imageless [] stored fault = refl
pending-imageless (Vacant ∷ ahead) stored fault = pending-imageless ahead stored fault
pending-imageless (Imageless other first ∷ ahead) stored fault = pending-imageless ahead stored fault
pending-imageless (Pending other ∷ ahead) stored fault =
    ap (λ (l : List File). other.file ∷ l) (pending-imageless ahead stored fault)

module _ (jobs : List StripSource) (kept next : ℕ) (ahead : List Ahead) (images : List UnderWay)
    (has : HasStripJobs jobs kept next ahead images) where
  -- one without an image under way
  pub passed_jobs : (one : Ahead) → pending_in (ahead ++ one ∷ []) ≡ pending_in ahead
      → HasStripJobs jobs kept (next + 1) (ahead ++ one ∷ []) images
  passed_jobs one same = record {
    each = has.each;
    only_last = has.only_last;
    files = same ∙ has.files;
    behind = has.behind;
    waiting = has.waiting;
    few = omega (arith, has.few);
  }

  module _ (stored : Stored) (plan : PlanView) (is : IsNewPlan stored.file plan) where
    fresh_is : IsImageUnderWay (image_of plan)
    fresh_is = record {
      waits = omega (arith, is.none_given, is.none_kept);
      within = omega (arith, is.none_given);
      all = λ all. absurd (true≢false (sym all));
      few = omega (arith, is.none_given);
    }

    joined_left : all_left (images ++ image_of plan ∷ []) ≤ all_left images + 65535
    joined_left = omega (arith, left-push images (image_of plan))

    pub joined_jobs : AllGiven images
        → HasStripJobs jobs kept (next + 1) (ahead ++ Pending stored ∷ []) (images ++ image_of plan ∷ [])
    joined_jobs given = record {
      each = each_push images (image_of plan) has.each fresh_is;
      only_last = given_last images (image_of plan) given;
      files =
          pending-push ahead stored ∙ ap (λ (l : List File). l ++ stored.file ∷ []) has.files
          ∙ ap (λ (f : File). files_under_way images ++ f ∷ []) (sym is.file_is)
          ∙ sym (files-push images (image_of plan));
      behind = has.behind;
      waiting =
          has.waiting ∙ sym (append-nil (all_waiting images))
          ∙ ap (λ (l : List StripSource). all_waiting images ++ l)
          (sym (none_waits (image_of plan) fresh_is refl))
          ∙ sym (waiting-push images (image_of plan));
      few = omega (arith, has.few, joined_left);
    }

-- ---- all was kept

-- no image is under way where no job waits, all strips were given, and the first image isn't complete
pub none_under_way : (images : List UnderWay) → EachUnderWay images → AllGiven images → FirstWaits images
    → all_waiting images ≡ [] → images ≡ []
none_under_way [] each given first none = refl
none_under_way (image ∷ images) each given first none =
    let oldest = oldest_waits image each.0 (first given.0) in
    let some : oldest.0 ∷ (drop (image.plan.kept + 1) (take image.plan.given (planned_strips image.plan))
    ++ all_waiting images) ≡ [] =
    sym (ap (λ (l : List StripSource). l ++ all_waiting images) oldest.2) ∙ none in
    absurd (no_strips some)
  where
    no_strips : {s : StripSource} {l : List StripSource} → s ∷ l ≡ [] → ⊥
    no_strips same = cc (same)

-- a job waits where images are under way, whose strips were all given, and whose first one isn't complete
pub some_wait : (jobs : List StripSource) (kept : ℕ) (images : List UnderWay) → EachUnderWay images
    → AllGiven images → FirstWaits images → drop kept jobs ≡ all_waiting images → kept ≤ length jobs
    → 0 < length images → kept < length jobs
some_wait jobs kept images each given first waits behind some = more (all_waiting images) refl where
  more : (waiting : List StripSource) → all_waiting images ≡ waiting → kept < length jobs
  more [] none =
      let empty = none_under_way images each given first none in
      absurd (omega (arith, some, ap (λ (l : List UnderWay). length l) empty))
  more (strip ∷ waiting) is =
      omega (arith, behind, length-drop kept jobs, ap (λ (l : List StripSource). length l) (waits ∙ is))

-- ---- the first image may keep a strip

pub first_waits : (strip : StripSource) (old new : List UnderWay) (keeps : FirstKeeps old new)
    → MayKeepFirst strip old → 0 < keeps.first.waiting
first_waits strip old new keeps may =
    let first : MayKeepFirst strip (keeps.first ∷ keeps.rest) = subst (MayKeepFirst strip) keeps.old_is may in
    first.1

pub some_may : (strip : StripSource) (images : List UnderWay) → MayKeepFirst strip images → 0 < length images
some_may strip [] may = absurd may
some_may strip (image ∷ images) may = omega arith
