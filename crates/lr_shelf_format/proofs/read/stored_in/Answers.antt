use Rattle.std.proofs.Common.{Some, sym, subst, arith}
use Rattle.std.proofs.lemmas.List.{get_or_default}
use Rattle.lr_bits.specs.declared.placed.Origin.{Origin}
use Rattle.lr_shelf_format.specs.Items.{Begins, HasForm, Holds}
use Rattle.lr_shelf_format.proofs.NumberLemmas.{AreBytes}
use Rattle.lr_shelf_format.proofs.ItemLemmas.{holds_add, holds_old}
use Rattle.lr_shelf_format.proofs.read.stored_in.Goals as goal

pub returns-in_ok-file-in-Old : goal.returns-in_ok-file-in-Old
returns-in_ok-file-in-Old c =
    let bytes = c.args.bytes.now in
    let fit : AreBytes bytes = λ k d inside. omega (arith, c.type_inv.bytes k, get_or_default bytes k d 0 inside) in
    holds_old bytes fit c.requires.right c.in-Old.fields c.in_ok-file-in-Old.file
    (subst (Begins bytes) c.in-Old.is c.requires.begins)
    (subst (HasForm bytes) c.in-Old.is c.requires.form) c.in_ok-file-in-Old.ensures

pub returns-in_ok-file-in-Add : goal.returns-in_ok-file-in-Add
returns-in_ok-file-in-Add c =
    let bytes = c.args.bytes.now in
    let fit : AreBytes bytes = λ k d inside. omega (arith, c.type_inv.bytes k, get_or_default bytes k d 0 inside) in
    subst (λ (o : Origin). Holds bytes (record { file = c.in_ok-file-in-Add.file; origin = Some o }))
    (sym c.origin_in.ensures)
    (holds_add bytes fit c.requires.right c.in-Add.fields c.in_ok-file-in-Add.file
    (subst (Begins bytes) c.in-Add.is c.requires.begins)
    (subst (HasForm bytes) c.in-Add.is c.requires.form) c.in_ok-file-in-Add.ensures)
