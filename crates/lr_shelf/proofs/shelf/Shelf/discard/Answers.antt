use Rattle.std.proofs.Common.{◌≡◌, ◌+◌, ◌-◌, List, refl, ap, ◌∙◌, sym, subst, arith}
use Rattle.std.proofs.lemmas.Result.{err_from_is_err_and}
use Rattle.lr_shelf_format.specs.Items.{discard_item}
use Rattle.lr_shelf_format.specs.Way.{entries_with_gone}
use Rattle.lr_shelf_format.specs.declared.entry.Entry.{Entry}
use Rattle.lr_shelf.specs.Kept.{kept_by, kept_with}
use Rattle.lr_shelf.specs.Walking.{EndBefore}
use Rattle.lr_shelf_format.specs.declared.item.ItemHead.TheVariants.{Discard}
use Rattle.lr_shelf.proofs.AddingExits.{kept_made, put, stopped}
use Rattle.lr_shelf.proofs.EntryLemmas.{EndBefore-with}
use Rattle.lr_shelf.proofs.Refusals.{discard_err, discard_ok, discard_refused, entry_to_discard, not_disk}
use Rattle.lr_shelf.proofs.shelf.Shelf.discard.Goals as goal

pub returns-in_err-_entry : goal.returns-in_err-_entry
returns-in_err-_entry g c =
    let old = c.args.self.now in
    let is = c.in_err-_entry.ensures.err in
    let p = err_from_is_err_and c.from_residual.result c.from_residual.ensures.1 in
    rw (p.1, p.2)
    (
    discard_refused g.D.Disk g.met.D.Disk.only_now c.args.number old old c.args.disk.now _
    (entry_to_discard c.args.number (kept_by old) _ is) (not_disk c.args.number (kept_by old) _ is) refl
    )

pub returns-then-needed-capacity : goal.returns-then-needed-capacity
returns-then-needed-capacity g c =
    discard_refused g.D.Disk g.met.D.Disk.only_now c.args.number c.args.self.now c.args.self.now c.args.disk.now _
    (c.in_ok-_entry.ensures.ok.askable, omega arith, omega arith, refl) (λ e. cc (e)) refl

pub invariant_of-self : goal.invariant_of-self
invariant_of-self g c =
    let old = c.args.self.now in
    record {
      some = omega (arith, old.some);
      allowed = old.allowed;
      low = subst (EndBefore c.saturating_add-needed.result) (sym c.mark.ensures)
          (EndBefore-with old.end c.saturating_add-needed.result (old.end - 1) (Discard c.args.number) old.entries.items
          (omega (arith, old.some, old.allowed.most)) (omega (arith, old.allowed.most)) old.low);
      whole = old.whole;
    }

pub returns-in-Ok : goal.returns-in-Ok
returns-in-Ok g c =
    let old = c.args.self.now in
    let askable = c.in_ok-_entry.ensures.ok.askable in
    let add = c.add.ensures in
    let done = c.in-Ok.ensures in
    let end : c.saturating_add-needed.result ≡ old.end + 1 + 11 = omega (arith, old.allowed.most) in
    let one : kept_made old.capacity c.mark.new.entries.items c.saturating_add-needed.result old.failed
    ≡ kept_with (discard_item c.args.number) (kept_by old) =
    ap (λ (es : List Entry). kept_made old.capacity es c.saturating_add-needed.result old.failed) c.mark.ensures
    ∙ ap (λ n. kept_made old.capacity (entries_with_gone c.args.number old.entries.items) n old.failed) end in
    discard_ok g.D.Disk c.args.number old _ c.args.disk.now c.add.new.disk _
    (
    put g.D.Disk (discard_item c.args.number) c.ranges.number.fits old (askable.there, askable.stays) c.args.disk.now
    c.add.new.disk c.discard_of-staged.result (omega arith) c.discard_of-staged.ensures add.call.tell.told
    add.call.tell.untold
    add.outside add.outside_any_moment add.any_moment g.met.D.Disk.counts_now _ _ done.call.cause.kept askable.working
    done.stands done.durable done.added one
    )
    askable (omega arith)

pub returns-in-Err : goal.returns-in-Err
returns-in-Err g c =
    let old = c.args.self.now in
    let askable = c.in_ok-_entry.ensures.ok.askable in
    let add = c.add.ensures in
    let left = c.in-Err.ensures in
    discard_err g.D.Disk c.args.number old _ c.args.disk.now c.add.new.disk _
    (
    stopped g.D.Disk (discard_item c.args.number) c.ranges.number.fits old (askable.there, askable.stays)
    c.args.disk.now c.add.new.disk c.discard_of-staged.result (omega arith) c.discard_of-staged.ensures
    add.call.tell.told
    add.call.tell.untold add.outside add.outside_any_moment add.any_moment g.met.D.Disk.counts_now _
    left.call.cause.later
    left.call.cause.rose left.failed refl
    )
    (askable, omega arith)
