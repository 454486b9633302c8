use Rattle.std.proofs.Common.{◌≡◌, suc, ◌+◌, ◌-◌, ◌≤◌, take, length, refl, sym, subst, inl, inr, arith}
use Rattle.std.proofs.lemmas.List.{length-take-le, get_or-take}
use Rattle.lr_rice.specs.CodedLines.{greatest}
use Rattle.lr_rice.proofs.ItemLemmas.{All-from_each, SequencesFail-behind}
use Rattle.lr_rice.specs.declared.fault.Cause.TheVariants.{Ended, OutOfRange}
use Rattle.lr_rice.proofs.values.read_sequences.Goals as goal

pub returns-clause-small : goal.returns-clause-small
returns-clause-small c = All-from_each (λ value. value ≤ greatest c.args.bits) c.loop-i.values
    (λ k inside. c.loop-i.invariant.small k (omega arith))

pub returns-in_default-clause-err : goal.returns-in_default-clause-err
returns-in_default-clause-err c =
    let i = c.loop-i.i in
    let values = c.loop-i.values in
    let n = length values - (i + 1) in
    let size : length (take i values) ≡ i = length-take-le i values (omega arith) in
    SequencesFail-behind c.args.bits (take i values) (suc n)
    (length c.args.values.now) c.args.reader.now c.loop-i.own Ended
    (omega (arith, size, c.loop-i.invariant.same_length))
    (λ k inside. subst (λ v. v ≤ greatest c.args.bits) (sym (get_or-take i values k 0 (omega (arith, size))))
    (c.loop-i.invariant.small k (omega (arith, size))))
    c.loop-i.invariant.reads
    (inl (c.in_default.ensures.err.0, refl))

pub returns-then-value-most-clause-err : goal.returns-then-value-most-clause-err
returns-then-value-most-clause-err c =
    let i = c.loop-i.i in
    let values = c.loop-i.values in
    let n = length values - (i + 1) in
    let size : length (take i values) ≡ i = length-take-le i values (omega arith) in
    SequencesFail-behind c.args.bits (take i values) (suc n)
    (length c.args.values.now) c.args.reader.now c.loop-i.own OutOfRange
    (omega (arith, size, c.loop-i.invariant.same_length))
    (λ k inside. subst (λ v. v ≤ greatest c.args.bits) (sym (get_or-take i values k 0 (omega (arith, size))))
    (c.loop-i.invariant.small k (omega (arith, size))))
    c.loop-i.invariant.reads
    (inr (c.in-Ok.value, c.zeros.new.self, c.in-Ok.ensures.ok, inl (omega (arith, c.most_of-most.ensures.value), refl)))
