use Rattle.std.proofs.Common.{◌≡◌, List, ℕ, Option, IfNone, take, sym, subst, arith}
use Rattle.std.proofs.lemmas.List.{take-take}
use Rattle.lr_shelf_format.specs.Items.{Begins, HasForm, IsFileRecord}
use Rattle.lr_shelf_format.specs.declared.item.ItemHead.{ItemHead}
use Rattle.lr_shelf_format.proofs.ItemLemmas.{head_is, Begins-twelve}
use Rattle.lr_shelf_format.proofs.read.record_in.Goals as goal

pub returns-in_err-head-clause-none : goal.returns-in_err-head-clause-none
returns-in_err-head-clause-none c =
    let bytes = c.args.bytes.now in
    let same : take 12 bytes ≡ take 12 (take 12 bytes) = sym (take-take 12 12 bytes (omega arith)) in
    let none : IsFileRecord bytes → ⊥ = λ is.
    c.in_err-head.ensures.none is.head
    (subst (λ (l : List ℕ). Begins l is.head) (sym c.copy_from_slice.ensures.after)
    (Begins-twelve bytes (take 12 bytes) is.head same is.begins)) in
    subst (λ (o : Option ItemHead). IfNone o (IsFileRecord bytes → ⊥)) (sym c.from_residual.ensures) none

pub returns-then-not-has_form-clause-none : goal.returns-then-not-has_form-clause-none
returns-then-not-has_form-clause-none c is =
    let bytes = c.args.bytes.now in
    let head = c.in_ok-head.head in
    let begins : Begins bytes head =
    Begins-twelve (take 12 bytes) bytes head (take-take 12 12 bytes (omega arith))
    (subst (λ (l : List ℕ). Begins l head) c.copy_from_slice.ensures.after c.in_ok-head.ensures.found) in
    let form : HasForm bytes head = subst (HasForm bytes) (head_is bytes is.head head is.begins begins) is.form in
    cc (c.has_form.ensures.1 form, c.if-not-has_form.true)
