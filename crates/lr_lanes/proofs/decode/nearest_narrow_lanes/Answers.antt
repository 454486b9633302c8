use Rattle.std.proofs.Common.{subst, sym, ◌≡◌, ◌+◌, ◌*◌, ℕ, List, length, arith}
use Rattle.lr_trellis.specs.Words.{IsDecided}
use Rattle.lr_lanes.proofs.decode.nearest_narrow_lanes.Goals as goal

pub read_bytes-requires-clause-decided : goal.read_bytes-requires-clause-decided
read_bytes-requires-clause-decided c =
    let steps : 8165 ≡ 8 * length c.args.out.now + 5 = omega (arith, c.told-out) in
    let costs = c.decide_by_narrow_lanes-least_costs.result in
    subst (λ (n : ℕ). IsDecided c.args.line c.args.window.now n c.as_slice.result.now costs) steps
    (subst (λ (words : List ℕ). IsDecided c.args.line c.args.window.now 8165 words costs)
    (sym c.as_slice.ensures.value) c.decide_by_narrow_lanes-least_costs.ensures)
