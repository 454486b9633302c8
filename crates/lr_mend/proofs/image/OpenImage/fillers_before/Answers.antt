use Rattle.std.proofs.Common.{◌≡◌, ◌≤◌, ◌<◌, ◌+◌, arith, ap, sym, ◌∙◌}
use Rattle.lr_packet.specs.Reading.{good}
use Rattle.lr_mend.specs.Mending.{Image}
use Rattle.lr_mend.proofs.Fillers.{fillers_wanted, fillers_before-all, fillers_before-many, fillers_before-not}
use Rattle.lr_mend.proofs.image.OpenImage.fillers_before.Goals as goal
use Rattle.lr_mend.proofs.image.OpenImage.fillers_before.Goals.{else-can_fill-via-then-can_fill+else-self-fillers}
use Rattle.lr_mend.proofs.image.OpenImage.fillers_before.Goals.{else-can_fill-via-else-can_fill}
use Rattle.std.specs.Prelude.{min}

pub returns-then-self-fillers-clause-value : goal.returns-then-self-fillers-clause-value
returns-then-self-fillers-clause-value c =
    let image = c.args.self.now in
    let p = good c.args.packet.now in
    let before = ap (λ (i : Image). i.fillers) c.self.view_is in
    let wanted : c.min-fillers.result ≡ fillers_wanted image p =
    c.min-fillers.ensures
    ∙ (λ i. min ((c.from.ensures ∙ c.missing_before-missing.ensures) i) (c.needed_before.ensures i)) in
    let few : image.fillers + fillers_wanted image p ≤ c.args.most =
    omega (arith, c.if-self-fillers.true, before, wanted) in
    wanted ∙ fillers_before-all c.args.most image p (sym c.can_fill.ensures ∙ c.if-can_fill.true) few

pub returns-else-can_fill-clause-value : goal.returns-else-can_fill-clause-value
returns-else-can_fill-clause-value c =
    let image = c.args.self.now in
    let p = good c.args.packet.now in
    let before = ap (λ (i : Image). i.fillers) c.self.view_is in
    let wanted : c.min-fillers.result ≡ fillers_wanted image p =
    c.min-fillers.ensures
    ∙ (λ i. min ((c.from.ensures ∙ c.missing_before-missing.ensures) i) (c.needed_before.ensures i)) in
    elim c.else-can_fill.branch [
      | else-can_fill-via-then-can_fill+else-self-fillers w ↦
          let many : c.args.most < image.fillers + fillers_wanted image p =
          omega (arith, w.if-self-fillers.false, before, wanted) in
          fillers_before-many c.args.most image p (sym c.can_fill.ensures ∙ w.if-can_fill.true) many
      | else-can_fill-via-else-can_fill w ↦
          fillers_before-not c.args.most image p (sym c.can_fill.ensures ∙ w.if-can_fill.false)
    ]
