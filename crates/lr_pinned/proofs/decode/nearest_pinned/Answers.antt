use Rattle.std.proofs.Common.{subst, ◌≡◌, ◌+◌, ◌*◌, ℕ, length, arith}
use Rattle.lr_pinned.specs.Steps.{IsPinDecided}
use Rattle.lr_pinned.proofs.decode.nearest_pinned.Goals as goal

pub read_bytes-requires-clause-decided : goal.read_bytes-requires-clause-decided
read_bytes-requires-clause-decided c =
    let steps : 8165 ≡ 8 * length c.args.out.now + 5 = omega (arith, c.told-out) in
    subst (λ (n : ℕ). IsPinDecided c.args.line c.args.pins.now c.args.window.now n c.forward-costs.new.words
    c.forward-costs.result) steps c.forward-costs.ensures
