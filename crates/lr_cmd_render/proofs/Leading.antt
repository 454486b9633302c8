-- What the calls of the job source come to.
use Rattle.std.proofs.Common.{◌≡◌, ◌<◌, ◌≤◌, ◌+◌, ◌-◌, ◌*◌, ℕ, Bool, true, false, MatchBool}
use Rattle.std.proofs.Common.{Some, None, List, [], length, sym, ap, ◌∙◌}
use Rattle.std.proofs.Common.{arith}
use Rattle.lr_io.specs.declared.sink.Sink.{Ghosts as SinkOf}
use Rattle.lr_disk.specs.declared.disk.Disk.{Ghosts as DiskOf}
use Rattle.lr_render.specs.declared.strip.StripSource.{StripSource}
use Rattle.lr_shelf.specs.Kept.{kept_by}
use Rattle.lr_shelf.specs.declared.shelf.Shelf.{Shelf}
use Rattle.lr_causes.specs.declared.cause.Refusal.{Refusal}
use Rattle.lr_rounds.specs.JobSources.{Gives, IsDoneNext, Keeps, led}
use Rattle.lr_rounds.specs.declared.job_source.NextJob.TheVariants.{Job, NotYet, Finished}
use Rattle.lr_cmd_render.specs.declared.sizes.TheConstants.{MOST_STRIPS}
use Rattle.lr_cmd_render.specs.Leading.{RenderGoes, IsRenderOver, IsSameBut, PutsImages, Stands, count_in}
use Rattle.lr_cmd_render.specs.Leading.{images_under_way, jobs_left, render_terms}
use Rattle.lr_cmd_render.specs.Queues.{AllGiven, FirstKeeps, LastGives, MayKeepFirst, all_left}
use Rattle.lr_cmd_render.specs.declared.render_source.RenderSource.{RenderSource}
use Rattle.lr_cmd_render.proofs.Jobs.{may_keep, kept_left, kept_given, first_waits, some_may, some_wait}
use Rattle.lr_cmd_render.proofs.UnderWay.{gives_goes, gives_first, gives_fewer, keeps_goes, few_jobs}

module _ {D O : Type 0} (disk : DiskOf D) (out : SinkOf O) where
  -- ---- a strip is kept

  module _ {start before : RenderSource D O} {jobs : List StripSource} {kept : ℕ}
      (at : Stands disk out (led start jobs kept) before) (done : StripSource)
      (is : IsDoneNext (λ strip. strip) jobs kept done) where
    pub may_keep_first : MayKeepFirst done (images_under_way before)
    may_keep_first = may_keep jobs kept before.next at.goes.ahead (images_under_way before) at.goes.has_jobs done is
        at.first

    pub some_kept : 0 < length (images_under_way before)
    some_kept = some_may done (images_under_way before) may_keep_first

    module _ (mid : RenderSource D O) (same : IsSameBut before mid) (out_is : mid.out.now ≡ before.out.now)
        (tally_is : mid.tally ≡ before.tally)
        (keeps : FirstKeeps (images_under_way before) (images_under_way mid)) where
      waits : 0 < keeps.first.waiting
      waits = first_waits done (images_under_way before) (images_under_way mid) keeps may_keep_first

      pub kept_goes : RenderGoes disk out (led start jobs (kept + 1)) mid
      kept_goes = keeps_goes disk out at.goes mid same out_is tally_is done is keeps waits

      pub kept_same : all_left (images_under_way mid) ≡ all_left (images_under_way before)
      kept_same = kept_left jobs kept before.next at.goes.ahead (images_under_way before) at.goes.has_jobs done is
          (images_under_way mid) keeps waits

      pub kept_all : AllGiven (images_under_way before) → AllGiven (images_under_way mid)
      kept_all = kept_given jobs kept before.next at.goes.ahead (images_under_way before) at.goes.has_jobs done is
          (images_under_way mid) keeps waits

  -- ---- what the calls of the job source come to

  pub puts_more : {first old new : RenderSource D O} → PutsImages first old → PutsImages old new → PutsImages first new
  puts_more one other = record {
    same = record {
      disk = other.same.disk ∙ one.same.disk;
      out = other.same.out ∙ one.same.out;
      shelf = other.same.shelf ∙ one.same.shelf;
      next = other.same.next ∙ one.same.next;
      refusal = other.same.refusal ∙ one.same.refusal;
      room = other.same.room ∙ one.same.room;
    };
    left = omega (arith, one.left, other.left);
    given = λ given. other.given (one.given given);
  }

  -- images that were put left no more to come
  pub puts_left : {old new : RenderSource D O} → PutsImages old new → jobs_left new ≤ jobs_left old
  puts_left {old} {new} puts =
      omega (
        arith,
        puts.left,
        ap (λ (s : Shelf). MOST_STRIPS * (length (kept_by s).way.entries - new.next)) puts.same.shelf,
        ap (λ (n : ℕ). MOST_STRIPS * (count_in old - n)) puts.same.next,
      )

  module _ {start before : RenderSource D O} {jobs : List StripSource} {kept : ℕ}
      (at : Stands disk out (led start jobs kept) before) (entry : RenderSource D O) where
    pub gives_job : jobs_left before ≤ jobs_left entry → (now : RenderSource D O) → IsSameBut before now
        → now.out.now ≡ before.out.now → now.tally ≡ before.tally → (strip : StripSource)
        → LastGives (images_under_way before) (images_under_way now) (Some strip)
        → Gives (render_terms disk out) (led start jobs kept) entry now (Job strip)
    gives_job left now same out_is tally_is strip gives = record {
      one_more = record {
        goes = gives_goes disk out at.goes now same out_is tally_is strip gives;
        first = gives_first disk out at.goes now same out_is tally_is strip gives at.first;
      };
      few = few_jobs disk out at.goes;
      fewer = omega (arith, left, gives_fewer disk out at.goes now same out_is tally_is strip gives);
    }

    -- nothing is given for now, since there is no room
    pub gives_later : jobs_left before ≤ jobs_left entry → AllGiven (images_under_way before)
        → 0 < length (images_under_way before)
        → Gives (render_terms disk out) (led start jobs kept) entry before NotYet
    gives_later left given some = (
      record { same = at; no_more = left },
      some_wait jobs kept (images_under_way before) at.goes.has_jobs.each given at.first at.goes.has_jobs.waiting
          at.goes.has_jobs.behind some,
    )

    -- nothing is given any more
    pub gives_over : jobs_left before ≤ jobs_left entry → IsRenderOver before
        → Gives (render_terms disk out) (led start jobs kept) entry before Finished
    gives_over left over = (record { same = at; no_more = left }, over)

  -- a test that told which of two facts holds
  pub told_true : (A B : Type 0) (b : Bool) → b ≡ true → MatchBool b A B → A
  told_true A B true is both = both
  told_true A B false is both = absurd (let clash : false ≡ true = is in cc)

  pub told_false : (A B : Type 0) (b : Bool) → b ≡ false → MatchBool b A B → B
  told_false A B true is both = absurd (let clash : true ≡ false = is in cc)
  told_false A B false is both = both

  -- what came of a strip was kept, and images put
  pub keeps_on : {start before mid now : RenderSource D O} {jobs : List StripSource} {kept : ℕ}
      → IsSameBut before mid → all_left (images_under_way mid) ≡ all_left (images_under_way before)
      → (AllGiven (images_under_way before) → AllGiven (images_under_way mid)) → PutsImages mid now
      → ((refusal : Refusal) → now.refusal ≡ Some refusal → images_under_way now ≡ [] → ⊥)
      → Stands disk out (led start jobs (kept + 1)) now
      → Keeps (render_terms disk out) (led start jobs kept) before now
  keeps_on {start} {before} {mid} {now} {jobs} {kept} same left_is given puts waits stands = record {
    one_more = stands;
    no_more = omega (
      arith,
      puts_left puts,
      left_is,
      ap (λ (s : Shelf). MOST_STRIPS * (length (kept_by s).way.entries - mid.next)) same.shelf,
      ap (λ (n : ℕ). MOST_STRIPS * (count_in before - n)) same.next,
    );
    still_over = λ over. record {
      given = puts.given (given over.given);
      all = λ none. over_all over (sym same.refusal ∙ sym puts.same.refusal ∙ none);
      waits = waits;
    };
  }
    where
      over_all : IsRenderOver before → before.refusal ≡ None → count_in now ≤ now.next
      over_all over none =
          omega (
            arith,
            over.all none,
            ap (λ (s : Shelf). length (kept_by s).way.entries) same.shelf,
            ap (λ (s : Shelf). length (kept_by s).way.entries) puts.same.shelf,
            same.next,
            puts.same.next,
          )
