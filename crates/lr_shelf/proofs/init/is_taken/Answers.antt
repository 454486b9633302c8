use Rattle.std.proofs.Common.{◌↔◌, Bool, IsTrue, sym, ◌∙◌, subst}
use Rattle.lr_shelf.specs.Init.{IsTaken}
use Rattle.lr_shelf.proofs.HeaderReading.{taken_is}
use Rattle.lr_shelf.proofs.init.is_taken.Goals as goal

pub returns-clause-taken : goal.returns-clause-taken
returns-clause-taken g c told =
    let contents = g.D.Disk.contents c.args.disk.now in
    subst (λ (b : Bool). IsTrue b ↔ IsTaken contents) (sym c.is_some.ensures)
    (taken_is contents c.in_ok-read_capacity.field-0 (sym (c.requires told) ∙ c.if-size.false)
    (c.in_ok-read_capacity.ensures.found told))
