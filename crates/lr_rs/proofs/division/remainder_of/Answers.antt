use Rattle.std.proofs.Common.{subst, sym, ◌∙◌, arith, take}
use Rattle.std.proofs.lemmas.List.{take_all, take_more}
use Rattle.lr_rs.specs.Division.{IsWordRemainder, IsRemainderOf}
use Rattle.lr_rs.proofs.DivisionSteps.{of_word}
use Rattle.lr_rs.proofs.division.remainder_of.Goals as goal

pub loop-byte-preserved : goal.loop-byte-preserved
loop-byte-preserved c =
    let i = c.loop-byte.byte-index in
    let word = c.args.word.now in
    subst (λ bytes. IsRemainderOf bytes c.with_byte-divided.result)
    (sym (take_more word i 0 (omega (arith, c.told-word))))
    (c.with_byte-divided.ensures (take i word) c.loop-byte.invariant)

pub returns-clause-remainder : goal.returns-clause-remainder
returns-clause-remainder c =
    let word = c.args.word.now in
    subst (IsWordRemainder word) (sym (c.put_elements.ensures ∙ c.divided.view_is))
    (of_word word c.loop-byte.divided c.told-word
    (subst (λ bytes. IsRemainderOf bytes c.loop-byte.divided)
    (take_all c.loop-byte.byte-index word (omega (arith, c.told-word))) c.loop-byte.invariant))
