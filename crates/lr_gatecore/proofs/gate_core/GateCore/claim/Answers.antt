use Rattle.std.proofs.Common.{◌+◌, ◌-◌, ◌%◌, sym, ◌∙◌, arith, length-set}
use Rattle.lr_gatecore.specs.declared.event.Event.TheVariants.{Claim}
use Rattle.lr_gatecore.specs.declared.stage.Stage.TheVariants.{Ready, Busy}
use Rattle.lr_gatecore.proofs.Lists.{at_length, of_some, of_none}
use Rattle.lr_gatecore.proofs.Steps.{claim_busy, claim_other, claim_moves, kept_after}
use Rattle.lr_gatecore.proofs.gate_core.GateCore.claim.Goals as goal

pub returns-then-is_some-clause-steps : goal.returns-then-is_some-clause-steps
returns-then-is_some-clause-steps c = let old = c.self.inside in
    let busy = of_some c.place_of.result (sym c.is_some.ensures ∙ c.if-is_some.true) c.place_of.ensures.some in
    rw (← c.self.view_is) (claim_busy old.size old.taken busy.0 c.args.worker c.args.cell
    old.window.items old.stopped busy.1)

pub returns-then-not-is_at-clause-steps : goal.returns-then-not-is_at-clause-steps
returns-then-not-is_at-clause-steps c = let old = c.self.inside in
    rw (← c.self.view_is) (claim_other old.size old.taken c.args.worker c.args.cell
    old.window.items old.stopped c.self.invariant.some_cell (omega arith) c.self.invariant.fits
    (rw (c.from.ensures, c.from-cells.ensures) at c.if-not-is_at.ensures.no))

pub index_mut-requires : goal.index_mut-requires
index_mut-requires c = let cells = c.from-cells.result in
    let below = at_length c.self.inside.window.items ((c.from.result + cells - c.self.inside.taken % cells) % cells)
    Ready c.if-not-is_at.ensures.yes in omega arith

pub returns-clause-steps : goal.returns-clause-steps
returns-clause-steps c = let old = c.self.inside in
    rw (← c.self.view_is, c.from.ensures, c.from-cells.ensures) (claim_moves old.size old.taken
    c.args.worker c.args.cell old.window.items old.stopped c.self.invariant.some_cell (omega arith) (omega arith)
    (of_none c.place_of.result (sym c.is_some.ensures ∙ c.if-is_some.false) c.place_of.ensures.none)
    (rw (c.from.ensures, c.from-cells.ensures) at c.if-not-is_at.ensures.yes))

pub invariant_of-self : goal.invariant_of-self
invariant_of-self c = let old = c.self.inside in
    let cells = old.size.cells in
    let same = length-set old.window.items ((c.args.cell + cells - old.taken % cells) % cells) (Busy c.args.worker) in
    rw (c.from.ensures, c.from-cells.ensures) (kept_after old.size old.taken old.taken old.stopped
    old.window.items _ _ _ (Claim c.args.worker c.args.cell) c.self.invariant
    (claim_moves old.size old.taken c.args.worker c.args.cell old.window.items old.stopped
    c.self.invariant.some_cell (omega arith) (omega arith)
    (of_none c.place_of.result (sym c.is_some.ensures ∙ c.if-is_some.false) c.place_of.ensures.none)
    (rw (c.from.ensures, c.from-cells.ensures) at c.if-not-is_at.ensures.yes))
    (omega arith) (omega arith) (omega arith))
