use Rattle.std.proofs.Common.{◌-◌, List, ℕ, take, drop, subst}
use Rattle.lr_shelf.specs.Gate.{IsGateIn}
use Rattle.lr_shelf.proofs.Gates.{gate_ahead}
use Rattle.lr_shelf.proofs.ahead.Ahead.held_gate.Goals as goal

pub returns-clause-gate : goal.returns-clause-gate
returns-clause-gate c contents enough =
    let ahead = c.args.self.now in
    let at = c.args.at in
    let from = at - ahead.start in
    let read : IsGateIn (take (c.min-to.result - from) (drop from ahead.buffer.items)) c.gate_in.result =
    subst (λ (l : List ℕ). IsGateIn (take (c.min-to.result - from) (drop from l)) c.gate_in.result)
    c.deref.ensures.value c.gate_in.ensures.gate in
    gate_ahead contents at c.min-to.result ahead c.gate_in.result enough c.min-to.ensures read
