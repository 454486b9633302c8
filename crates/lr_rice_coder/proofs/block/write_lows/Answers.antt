use Rattle.std.proofs.Common.{◌≡◌, ◌*◌, ◌%◌, ◌^◌, ◌++◌, ℕ, get_or, take, ap, sym, ◌∙◌, arith}
use Rattle.std.specs.List.{flat_map}
use Rattle.std.proofs.lemmas.List.{append_assoc}
use Rattle.std.proofs.lemmas.Nat.{one_shl}
use Rattle.lr_bits.specs.Bits.{number_bits}
use Rattle.lr_rice.proofs.ItemLemmas.{number_bits-mod}
use Rattle.lr_rice_coder.proofs.CostLemmas.{flat_map-next}
use Rattle.lr_rice_coder.proofs.block.write_lows.Goals as goal

pub loop-value-preserved : goal.loop-value-preserved
loop-value-preserved c =
    let values = c.args.values.now in
    let k = c.args.low_bits in
    let i = c.loop-value.value-index in
    let value = get_or values i 0 in
    let front = flat_map (number_bits k) (take i values) in
    let one : 1 * 2 ^ k % 2 ^ 32 ≡ 2 ^ k = one_shl k 32 (omega (arith, c.requires)) in
    let low : number_bits k (value % (1 * 2 ^ k % 2 ^ 32)) ≡ number_bits k value =
    ap (λ (n : ℕ). number_bits k (value % n)) one ∙ sym (number_bits-mod k value) in
    c.in_ok-number.ensures ∙ ap (λ (n : ℕ). c.loop-value.writer ++ number_bits k n) c.from.ensures
    ∙ ap (λ l. c.loop-value.writer ++ l) low ∙ ap (λ l. l ++ number_bits k value) c.loop-value.invariant
    ∙ append_assoc c.args.writer.now front (number_bits k value)
    ∙ ap (λ l. c.args.writer.now ++ l) (sym (flat_map-next (number_bits k) values i (omega arith)))
