use Rattle.std.proofs.Common.{arith, ap, length, refl, ◌∙◌, subst, sym, List, ℕ, ◌≡◌, ◌≤◌, ◌∷◌, [], take}
use Rattle.std.proofs.lemmas.Option.{slice_get_read}
use Rattle.std.proofs.lemmas.Result.{IfOk-weaker}
use Rattle.lr_disk.specs.MemDisk.{held_by}
use Rattle.lr_disk.specs.Mem.{State, after_all, at_start, reach, span, state_at}
use Rattle.lr_disk.specs.Stop.{IsLeftInside, StopsInside, inside, left_of_kind}
use Rattle.lr_disk.specs.declared.past.Call.{Call}
use Rattle.lr_disk.proofs.Steps.{greatest_at, greatest_take, reach_more, span_more}
use Rattle.lr_disk.proofs.StopLemmas.{stop_is_image}
use Rattle.lr_disk.proofs.mem.MemDisk.image.Goals as goal

pub make_all-requires-clause-logged : goal.make_all-requires-clause-logged
make_all-requires-clause-logged c =
    omega (
      arith,
      greatest_take reach reach_more c.args.call c.deref-3.result.now,
      ap reach c.deref-3.ensures.value,
      c.args.self.now.past.logged,
      ap length c.deref-2.ensures.value,
    )

pub make_all-requires-clause-small : goal.make_all-requires-clause-small
make_all-requires-clause-small c =
    omega (
      arith,
      greatest_take span span_more c.args.call c.deref-3.result.now,
      ap span c.deref-3.ensures.value,
      c.args.self.now.small,
      c.in_ok-left.ensures.room,
    )

pub stop_in-requires : goal.stop_in-requires
stop_in-requires c =
    let calls = c.args.self.now.past.calls.items in
    let call = c.index.result.now in
    record {
      logged = subst (λ (one : Call). reach (one ∷ []) ≤ length c.deref-4.result.now) (sym c.index.ensures)
          (omega (
            arith,
            greatest_at reach reach_more calls c.args.call call c.requires.made,
            c.args.self.now.past.logged,
            ap length c.deref-4.ensures.value,
          ));
      small = subst (λ (one : Call). span (one ∷ []) ≤ c.make_all.new.self.room) (sym c.index.ensures)
          (omega (
            arith,
            greatest_at span span_more calls c.args.call call c.requires.made,
            c.args.self.now.small,
            c.in_ok-left.ensures.room,
            c.make_all.ensures.room,
          ));
    }

-- the bytes that are handed on are those of the stop
left_is : (c : goal.After-of-2) → c.kind.result.items ≡ left_of_kind c.args.kind (
    inside c.args.self.now.past.log.items c.index.result.now
    (state_at c.args.self.now.past.first.items c.args.self.now.past.log.items c.args.self.now.past.calls.items
    c.args.call)
    )
left_is c =
    let made = c.make_all.ensures.shows (at_start c.deref.result.now) c.in_ok-left.ensures.shows in
    let first : c.deref.result.now ≡ c.args.self.now.past.first.items = c.deref.ensures.value in
    let log : c.deref-2.result.now ≡ c.args.self.now.past.log.items = c.deref-2.ensures.value in
    let log' : c.deref-4.result.now ≡ c.args.self.now.past.log.items = c.deref-4.ensures.value in
    let calls : c.deref-3.result.now ≡ c.args.self.now.past.calls.items = c.deref-3.ensures.value in
    let state : after_all c.deref-2.result.now (take c.args.call c.deref-3.result.now) (at_start c.deref.result.now)
    ≡ state_at c.args.self.now.past.first.items c.args.self.now.past.log.items c.args.self.now.past.calls.items
    c.args.call =
    ap (λ (l : List ℕ). after_all c.deref-2.result.now (take c.args.call c.deref-3.result.now) (at_start l)) first
    ∙ ap (λ (l : List Call). after_all c.deref-2.result.now (take c.args.call l)
    (at_start c.args.self.now.past.first.items)) calls
    ∙ ap (λ (l : List ℕ). after_all l (take c.args.call c.args.self.now.past.calls.items)
    (at_start c.args.self.now.past.first.items)) log in
    c.kind.ensures.value _ (c.stop_in.ensures.shows _ made)
    ∙ ap (λ (s : State). left_of_kind c.args.kind (inside c.deref-4.result.now c.index.result.now s)) state
    ∙ ap (λ (l : List ℕ). left_of_kind c.args.kind
    (inside l c.index.result.now
    (state_at c.args.self.now.past.first.items c.args.self.now.past.log.items c.args.self.now.past.calls.items
    c.args.call))) log'

pub returns-clause-left : goal.returns-clause-left
returns-clause-left c =
    IfOk-weaker c.of-2.result (λ disk. held_by disk ≡ c.kind.result.items)
    (λ disk. StopsInside c.args.self.now c.args.call c.args.kind (held_by disk))
    (λ disk is. record {
      call = c.index.result.now;
      there = slice_get_read c.args.self.now.past.calls.items
          (length c.args.self.now.past.calls.items) c.args.call c.index.result.now refl c.requires.made c.index.ensures;
      left = is ∙ left_is c;
    })
    c.of-2.ensures.contents

pub returns-clause-image : goal.returns-clause-image
returns-clause-image c =
    IfOk-weaker c.of-2.result (λ disk. held_by disk ≡ c.kind.result.items)
    (λ disk. IsLeftInside c.args.self.now c.args.call (held_by disk))
    (λ disk is. subst (IsLeftInside c.args.self.now c.args.call) (sym (is ∙ left_is c))
    (
    stop_is_image c.args.self.now.past.first.items c.args.self.now.past.log.items c.args.self.now.past.calls.items
    c.args.call c.args.kind c.index.result.now c.requires.made c.index.ensures
    ))
    c.of-2.ensures.contents
