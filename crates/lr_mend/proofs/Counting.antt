-- A packet whose count follows leaves nothing missing.
use Rattle.lr_bits.specs.declared.sizes.TheConstants.{SEQUENCE_COUNTS}
use Rattle.std.proofs.Common.{◌≡◌, ℕ, zero, suc, ◌+◌, ◌-◌, ◌*◌, ◌%◌, ◌/◌, sym, ap, ◌∙◌, arith}
use Rattle.std.proofs.Math.Nat.{mod-add-div}

-- what is left of one turn, at the same place in any turn
turns : (rest turns : ℕ) → (rest + SEQUENCE_COUNTS - (rest + SEQUENCE_COUNTS * turns)) % SEQUENCE_COUNTS ≡ 0
turns rest zero =
    ap (λ n. n % SEQUENCE_COUNTS)
    (let e : rest + SEQUENCE_COUNTS - (rest + SEQUENCE_COUNTS * 0) ≡ SEQUENCE_COUNTS = omega arith in e)
turns rest (suc more) =
    ap (λ n. n % SEQUENCE_COUNTS)
    (let e : rest + SEQUENCE_COUNTS - (rest + SEQUENCE_COUNTS * suc more) ≡ 0 = omega arith in e)

pub nothing_missing : (last count : ℕ) → count ≡ (last + 1) % SEQUENCE_COUNTS
    → (count + SEQUENCE_COUNTS - (last + 1)) % SEQUENCE_COUNTS ≡ 0
nothing_missing last count is =
    let turn = (last + 1) / SEQUENCE_COUNTS in
    let whole : (last + 1) % SEQUENCE_COUNTS + SEQUENCE_COUNTS * turn ≡ last + 1 =
    mod-add-div (last + 1) SEQUENCE_COUNTS in
    (λ i. (is i + SEQUENCE_COUNTS - (sym whole i)) % SEQUENCE_COUNTS) ∙ turns ((last + 1) % SEQUENCE_COUNTS) turn
