-- What strips that are given and kept make of the images under way.
use Rattle.std.proofs.Common.{◌≡◌, inr, ◌<◌, ◌≤◌, ◌+◌, ◌-◌, Bool, true, false, cond}
use Rattle.std.proofs.Common.{Option, Some, None, Result, Ok, Err, IfOk}
use Rattle.std.proofs.Common.{List, [], ◌∷◌, ◌++◌, length, take, drop, refl, sym, ap, ◌∙◌, subst, arith}
use Rattle.std.proofs.Common.{append-nil, append_assoc, length-take, length-drop, true≢false}
use Rattle.std.proofs.lemmas.List.{drop-append-le}
use Rattle.lr_bits.specs.File.{File}
use Rattle.lr_bits.specs.declared.refusals.NoMemory.{NoMemory}
use Rattle.lr_gatecore.proofs.Lists.{at_length}
use Rattle.lr_render.specs.Plans.{IsStripAt, planned_strips}
use Rattle.lr_render.specs.declared.strip.StripSource.{StripSource}
use Rattle.lr_cmd_render.specs.Queues.{AllGiven, EachUnderWay, FirstWaits, QueueGivesNext, QueueGivesNone}
use Rattle.lr_cmd_render.specs.Queues.{QueueGivesOne, IsImageUnderWay, KeepsOne, LastGives, OnlyLastGives, all_left}
use Rattle.lr_cmd_render.specs.Queues.{all_waiting, files_under_way, strips_left_in, waiting_in}
use Rattle.lr_cmd_render.specs.declared.queue.UnderWay.{UnderWay}
use Rattle.lr_cmd_render.proofs.Lists.{take_at, drop_at, elem_at, at_first}

-- ---- one image at the end

pub each_front : (front : List UnderWay) (last : UnderWay) → EachUnderWay (front ++ last ∷ [])
    → EachUnderWay front × IsImageUnderWay last
each_front [] last each = (tt, each.0)
each_front (image ∷ front) last each =
    let rest = each_front front last each.1 in ((each.0, rest.0), rest.1)

pub each_push : (front : List UnderWay) (last : UnderWay) → EachUnderWay front → IsImageUnderWay last
    → EachUnderWay (front ++ last ∷ [])
each_push [] last each is = (is, tt)
each_push (image ∷ front) last each is = (each.0, each_push front last each.1 is)

pub left-push : (front : List UnderWay) (last : UnderWay)
    → all_left (front ++ last ∷ []) ≡ all_left front + strips_left_in last
left-push [] last = omega arith
left-push (image ∷ front) last = omega (arith, left-push front last)

pub waiting-push : (front : List UnderWay) (last : UnderWay)
    → all_waiting (front ++ last ∷ []) ≡ all_waiting front ++ waiting_in last
waiting-push [] last = append-nil (waiting_in last)
waiting-push (image ∷ front) last =
    ap (λ (l : List StripSource). waiting_in image ++ l) (waiting-push front last)
    ∙ sym (append_assoc (waiting_in image) (all_waiting front) (waiting_in last))

pub files-push : (front : List UnderWay) (last : UnderWay)
    → files_under_way (front ++ last ∷ []) ≡ files_under_way front ++ last.plan.file ∷ []
files-push [] last = refl
files-push (image ∷ front) last = ap (λ (l : List File). image.plan.file ∷ l) (files-push front last)

pub files-length : (images : List UnderWay) → length (files_under_way images) ≡ length images
files-length [] = refl
files-length (image ∷ images) = omega (arith, files-length images)

pub given_front : (front : List UnderWay) (last : UnderWay) → OnlyLastGives (front ++ last ∷ []) → AllGiven front
given_front [] last only = tt
given_front (image ∷ []) last only = (only.0, tt)
given_front (image ∷ next ∷ front) last only = (only.0, given_front (next ∷ front) last only.1)

pub given_last : (front : List UnderWay) (last : UnderWay) → AllGiven front → OnlyLastGives (front ++ last ∷ [])
given_last [] last given = tt
given_last (image ∷ []) last given = (given.0, tt)
given_last (image ∷ next ∷ front) last given = (given.0, given_last (next ∷ front) last given.1)

pub given_push : (front : List UnderWay) (last : UnderWay) → AllGiven front → last.all_given ≡ true
    → AllGiven (front ++ last ∷ [])
given_push [] last given all = (all, tt)
given_push (image ∷ front) last given all = (given.0, given_push front last given.1 all)

pub given_only : (images : List UnderWay) → AllGiven images → OnlyLastGives images
given_only [] given = tt
given_only (image ∷ []) given = tt
given_only (image ∷ next ∷ images) given = (given.0, given_only (next ∷ images) given.1)

pub only_tail : (image : UnderWay) (images : List UnderWay) → OnlyLastGives (image ∷ images) → OnlyLastGives images
only_tail image [] only = tt
only_tail image (next ∷ images) only = only.1

-- the first one isn't complete, where a last one that isn't was put in the last one's place, or after it
pub first_push : (front : List UnderWay) (last next : UnderWay) → next.all_given ≡ false
    → FirstWaits (front ++ last ∷ []) → FirstWaits (front ++ next ∷ [])
first_push [] last next going first = λ all. absurd (true≢false (sym all ∙ going))
first_push (image ∷ front) last next going first = first

pub first_join : (images : List UnderWay) (next : UnderWay) → next.all_given ≡ false → FirstWaits images
    → FirstWaits (images ++ next ∷ [])
first_join [] next going first = λ all. absurd (true≢false (sym all ∙ going))
first_join (image ∷ images) next going first = first

-- ---- a strip is given

left_going : (image : UnderWay) → image.all_given ≡ false → strips_left_in image ≡ 65535 - image.plan.given
left_going image going = ap (λ (b : Bool). cond b 0 (65535 - image.plan.given)) going

given_is : (old : UnderWay) (strip : StripSource) → IsImageUnderWay old → IsStripAt old.plan old.plan.given strip
    → old.all_given ≡ false → old.plan.given + 1 ≤ 65535
    → IsImageUnderWay (record old { plan = record old.plan { given = old.plan.given + 1 }; waiting = old.waiting + 1 })
given_is old strip is at going few = record {
  waits = omega (arith, is.waits);
  within = omega (arith, at_length (planned_strips old.plan) old.plan.given strip at);
  all = λ all. absurd (true≢false (sym all ∙ going));
  few = few;
}

pub gives_is : (old new : UnderWay) (strip : StripSource) → IsImageUnderWay old → QueueGivesOne old new strip
    → IsImageUnderWay new
gives_is old new strip is gives =
    subst IsImageUnderWay (sym gives.is) (given_is old strip is gives.at gives.going gives.few)

pub gives_waiting : (old new : UnderWay) (strip : StripSource) → IsImageUnderWay old → QueueGivesOne old new strip
    → waiting_in new ≡ waiting_in old ++ strip ∷ []
gives_waiting old new strip is gives =
    let strips = planned_strips old.plan in
    ap waiting_in gives.is ∙ ap (drop old.plan.kept) (take_at strips old.plan.given strip gives.at)
    ∙ drop-append-le old.plan.kept (take old.plan.given strips) (strip ∷ [])
    (omega (arith, is.waits, is.within, length-take old.plan.given strips))

pub gives_left : (old new : UnderWay) (strip : StripSource) → QueueGivesOne old new strip
    → strips_left_in new + 1 ≡ strips_left_in old
gives_left old new strip gives =
    omega (
      arith,
      ap strips_left_in gives.is,
      left_going old gives.going,
      gives.few,
      left_going (record old {
        plan = record old.plan { given = old.plan.given + 1 };
        waiting = old.waiting + 1;
      }) gives.going,
    )

pub gives_going : (old new : UnderWay) (strip : StripSource) → QueueGivesOne old new strip → new.all_given ≡ false
gives_going old new strip gives = ap (λ (image : UnderWay). image.all_given) gives.is ∙ gives.going

pub gives_file : (old new : UnderWay) (strip : StripSource) → QueueGivesOne old new strip
    → new.plan.file ≡ old.plan.file
gives_file old new strip gives = ap (λ (image : UnderWay). image.plan.file) gives.is

-- ---- no strip is left

none_is : (old : UnderWay) → IsImageUnderWay old → old.plan.given ≡ length (planned_strips old.plan)
    → IsImageUnderWay (record old { all_given = true })
none_is old is all = record {
  waits = is.waits;
  within = is.within;
  all = λ given. all;
  few = is.few;
}

pub ends_is : (old new : UnderWay) → IsImageUnderWay old → QueueGivesNone old new → IsImageUnderWay new
ends_is old new is none = subst IsImageUnderWay (sym none.is) (none_is old is none.all)

pub ends_left : (old new : UnderWay) → QueueGivesNone old new → strips_left_in new ≡ 0
ends_left old new none = ap strips_left_in none.is

pub ends_waiting : (old new : UnderWay) → QueueGivesNone old new → waiting_in new ≡ waiting_in old
ends_waiting old new none = ap waiting_in none.is

pub ends_all : (old new : UnderWay) → QueueGivesNone old new → new.all_given ≡ true
ends_all old new none = ap (λ (image : UnderWay). image.all_given) none.is

pub ends_file : (old new : UnderWay) → QueueGivesNone old new → new.plan.file ≡ old.plan.file
ends_file old new none = ap (λ (image : UnderWay). image.plan.file) none.is

-- ---- a strip is kept

pub keeps_is : (old new : UnderWay) → IsImageUnderWay old → 0 < old.waiting → KeepsOne old new → IsImageUnderWay new
keeps_is old new is waits keeps = subst IsImageUnderWay (sym keeps) (record {
  waits = omega (arith, is.waits, waits);
  within = is.within;
  all = is.all;
  few = is.few;
})

-- the oldest of an image's strips, and the others that wait
pub oldest_waits : (image : UnderWay) → IsImageUnderWay image → 0 < image.waiting → (strip : StripSource)
    × IsStripAt image.plan image.plan.kept strip
    × (waiting_in image ≡ strip ∷ drop (image.plan.kept + 1) (take image.plan.given (planned_strips image.plan)))
oldest_waits image is waits =
    let strips = planned_strips image.plan in
    let one = elem_at strips image.plan.kept (omega (arith, is.waits, is.within, waits)) in (
      one.0,
      one.1,
      drop_at (take image.plan.given strips) image.plan.kept one.0
          (at_first strips image.plan.given image.plan.kept one.0 (omega (arith, is.waits, waits)) one.1),
    )

pub none_waits : (image : UnderWay) → IsImageUnderWay image → image.waiting ≡ 0 → waiting_in image ≡ []
none_waits image is none = none_of (waiting_in image)
    (omega (
      arith,
      length-drop image.plan.kept (take image.plan.given (planned_strips image.plan)),
      length-take image.plan.given (planned_strips image.plan),
      is.waits,
      none,
    ))
  where
    none_of : (l : List StripSource) → length l ≡ 0 → l ≡ []
    none_of [] h = refl
    none_of (x ∷ l) h = absurd (omega arith)

pub keeps_waiting : (old new : UnderWay) → KeepsOne old new
    → waiting_in new ≡ drop (old.plan.kept + 1) (take old.plan.given (planned_strips old.plan))
keeps_waiting old new keeps = ap waiting_in keeps

pub keeps_left : (old new : UnderWay) → KeepsOne old new → strips_left_in new ≡ strips_left_in old
keeps_left old new keeps = ap strips_left_in keeps

pub keeps_file : (old new : UnderWay) → KeepsOne old new → new.plan.file ≡ old.plan.file
keeps_file old new keeps = ap (λ (image : UnderWay). image.plan.file) keeps

pub keeps_all : (old new : UnderWay) → KeepsOne old new → new.all_given ≡ old.all_given
keeps_all old new keeps = ap (λ (image : UnderWay). image.all_given) keeps

-- ---- the last image

pub last_gives : (front : List UnderWay) (last next : UnderWay) {old new : List UnderWay}
    → old ≡ front ++ last ∷ [] → new ≡ front ++ next ∷ [] → (result : Result (Option StripSource) NoMemory)
    → IfOk result (QueueGivesNext last next) → IfOk result (LastGives old new)
last_gives front last next old_is new_is (Ok (Some strip)) gives =
    record { front = front; last = last; next = next; old_is = old_is; new_is = new_is; becomes = gives }
last_gives front last next old_is new_is (Ok None) gives =
    inr (record { front = front; last = last; next = next; old_is = old_is; new_is = new_is; becomes = gives })
last_gives front last next old_is new_is (Err error) gives = tt
