use Rattle.std.proofs.Common.{◌≡◌, ◌-◌, ◌&&◌, cond, eqb, arith, sym, ◌∙◌}
use Rattle.std.proofs.lemmas.Bool.Decides.{nat_tests}
use Rattle.lr_mend.specs.Mending.{Filling}
use Rattle.lr_mend.proofs.Fillers.{fillers_from-next, fillers_from-none}
use Rattle.lr_mend.proofs.gap.Gap.next.Goals as goal
use Rattle.lr_mend.proofs.gap.Gap.next.Goals.{then-self+then-self-eq0-2, else-self}
use Rattle.lr_mend.proofs.gap.Gap.next.Goals.{else-self-via-then-self+else-self-eq0-2, else-self-via-else-self}

pub returns-then-self-eq0 : goal.returns-then-self-eq0
returns-then-self-eq0 c =
    let parts = c.self.inside in
    let filling : Filling = record { vc = parts.vc; apid = parts.apid; body = parts.body.now; ends = parts.ends } in
    sym c.self.view_is ∙ fillers_from-none filling parts.left parts.count c.if-self-eq0.true

pub returns : goal.returns
returns c =
    let parts = c.self.inside in
    let filling : Filling = record { vc = parts.vc; apid = parts.apid; body = parts.body.now; ends = parts.ends } in
    let flags : c.if-self.flags ≡ cond (parts.ends && eqb (parts.left - 1) 0) 2 0 =
    elim c.if-self.branch [
      | then-self+then-self-eq0-2 w ↦ rw (w.if-self.true, w.if-self-eq0-2.true) w.flags-is
      | else-self w ↦ elim w.else-self.branch [
        | else-self-via-then-self+else-self-eq0-2 w' ↦ grind (arith, nat_tests)
        | else-self-via-else-self w' ↦ rw w'.if-self.false w.flags-is
      ]
    ] in
    sym c.self.view_is ∙ fillers_from-next filling parts.left parts.count c.if-self.flags c.if-self-eq0.false flags
