use Rattle.std.proofs.Common.{◌≡◌, ◌+◌, ◌-◌, ◌++◌, ap, ◌∙◌, arith}
use Rattle.std.proofs.Math.Nat.{pow-le-pow_right}
use Rattle.std.proofs.lemmas.List.{append_assoc}
use Rattle.lr_bits.specs.Bits.{number_bits, zeros_and_one}
use Rattle.lr_rice.proofs.ItemLemmas.{OnOk_from}
use Rattle.lr_rice_coder.proofs.WriterLemmas.{one_after_zeros, zeros_before}
use Rattle.lr_rice_coder.proofs.writer.BitWriter.sequence.Goals as goal

pub loop-left-preserved : goal.loop-left-preserved
loop-left-preserved c =
    let left = c.loop-left.left in
    let whole : 32 + (left - 32) ≡ left = omega arith in
    ap (λ l. l ++ zeros_and_one (left - 32)) c.in_ok-number.ensures
    ∙ append_assoc c.loop-left.self (number_bits 32 0) (zeros_and_one (left - 32))
    ∙ ap (λ l. c.loop-left.self ++ l) (zeros_before 32 (left - 32) ∙ ap zeros_and_one whole)
    ∙ c.loop-left.invariant

pub number-requires-2-clause-fits : goal.number-requires-2-clause-fits
number-requires-2-clause-fits c =
    omega (arith, pow-le-pow_right {n = 2} (omega arith) {i = 1} {j = c.loop-left.left + 1} (omega arith))

pub returns : goal.returns
returns c =
    OnOk_from c.number-2.result (c.number-2.new.self ≡ c.loop-left.self ++ number_bits (c.loop-left.left + 1) 1)
    (c.number-2.new.self ≡ c.args.self.now ++ zeros_and_one c.args.zeros)
    (λ is. is ∙ ap (λ l. c.loop-left.self ++ l) (one_after_zeros c.loop-left.left) ∙ c.loop-left.invariant)
    c.number-2.ensures
