use Rattle.std.proofs.Common.{◌≡◌, ◌⊎◌, suc, ◌+◌, ◌-◌, ◌*◌, ◌/◌, ◌<◌, ◌≤◌, [], ◌∷◌, ◌++◌, get_or, take, set, length}
use Rattle.std.proofs.Common.{refl, ap, sym, subst, ◌∙◌, inl, inr, arith, length-set}
use Rattle.std.specs.Prelude.{IsFalse}
use Rattle.std.proofs.lemmas.Bool.{cases_lt}
use Rattle.std.proofs.lemmas.List.{length-take-le, get_or-take, take_more_set, append_assoc, get_or-set_same}
use Rattle.std.proofs.lemmas.List.{get_or-set_other}
use Rattle.lr_bits.specs.Bits.{zeros_and_one}
use Rattle.lr_rice.specs.CodedLines.{greatest, pair_number, pairs_string}
use Rattle.lr_rice.proofs.ItemLemmas.{PairsFail-at, pairs_string-push, lead_of, lead_of-is, pair_fails, pair_small}
use Rattle.lr_rice.specs.declared.fault.Cause.TheVariants.{Ended}
use Rattle.lr_rice.proofs.values.read_pairs.Goals as goal

pub returns-in_default-clause-err : goal.returns-in_default-clause-err
returns-in_default-clause-err c =
    let i = c.loop-i.i in
    let values = c.loop-i.values in
    let n = length values / 2 - (i + 1) in
    let size : length (take (2 * i) values) ≡ 2 * i = length-take-le (2 * i) values (omega arith) in
    PairsFail-at c.args.bits c.args.first (take (2 * i) values) (suc n)
    (length c.args.values.now / 2) c.args.reader.now c.loop-i.reader Ended
    (omega (arith, size)) (omega (arith, size, c.loop-i.invariant.same_length))
    (λ k inside tested. subst (λ v. v ≤ greatest c.args.bits)
    (sym (get_or-take (2 * i) values k 0 (omega (arith, size))))
    (c.loop-i.invariant.small k (omega (arith, size)) tested))
    c.loop-i.invariant.reads
    (inl (c.in_default.ensures.err.0, refl))

pub returns-in-Err-clause-err : goal.returns-in-Err-clause-err
returns-in-Err-clause-err c =
    let i = c.loop-i.i in
    let values = c.loop-i.values in
    let n = length values / 2 - (i + 1) in
    let size : length (take (2 * i) values) ≡ 2 * i = length-take-le (2 * i) values (omega arith) in
    let a = c.pair_of-a.result.0 in
    let b = c.pair_of-a.result.1 in
    let read : c.loop-i.reader ≡ zeros_and_one (pair_number a b) ++ c.zeros.new.self = c.in-Ok.ensures.ok
    ∙ ap (λ m. zeros_and_one m ++ c.zeros.new.self) c.pair_of-a.ensures in
    let lead : c.is_lead.result ≡ lead_of c.args.first (take (2 * i) values) =
    lead_of-is c.args.first c.is_lead.result values i (omega arith) c.is_lead.ensures.here c.is_lead.ensures.later in
    PairsFail-at c.args.bits c.args.first (take (2 * i) values) (suc n)
    (length c.args.values.now / 2) c.args.reader.now c.loop-i.reader c.in-Err.cause
    (omega (arith, size)) (omega (arith, size, c.loop-i.invariant.same_length))
    (λ k inside tested. subst (λ v. v ≤ greatest c.args.bits)
    (sym (get_or-take (2 * i) values k 0 (omega (arith, size))))
    (c.loop-i.invariant.small k (omega (arith, size)) tested))
    c.loop-i.invariant.reads
    (pair_fails c.args.bits c.most_of-most.result c.is_lead.result
    (lead_of c.args.first (take (2 * i) values)) n a b c.loop-i.reader c.zeros.new.self c.in-Err.cause
    c.most_of-most.ensures.value lead read c.in-Err.ensures.err)

pub loop-i-preserved : goal.loop-i-preserved
loop-i-preserved c =
    let i = c.loop-i.i in
    let values = c.loop-i.values in
    let size : length (take (2 * i) values) ≡ 2 * i = length-take-le (2 * i) values (omega arith) in
    let a = c.pair_of-a.result.0 in
    let b = c.pair_of-a.result.1 in
    let one = set values (2 * i) a in
    let both = set one (2 * i + 1) b in
    let long : length one ≡ length values = length-set values (2 * i) a in
    let read : c.loop-i.reader ≡ zeros_and_one (pair_number a b) ++ c.zeros.new.self = c.in-Ok.ensures.ok
    ∙ ap (λ m. zeros_and_one m ++ c.zeros.new.self) c.pair_of-a.ensures in
    let lead : c.is_lead.result ≡ lead_of c.args.first (take (2 * i) values) =
    lead_of-is c.args.first c.is_lead.result values i (omega arith) c.is_lead.ensures.here c.is_lead.ensures.later in
    let turn : 2 * (i + 1) ≡ 2 * i + 1 + 1 = omega arith in
    let next : take (2 * (i + 1)) both ≡ take (2 * i) values ++ a ∷ b ∷ [] =
    ap (λ n. take n both) turn ∙ take_more_set one (2 * i + 1) b (omega (arith, long))
    ∙ ap (λ l. l ++ b ∷ []) (take_more_set values (2 * i) a (omega arith))
    ∙ append_assoc (take (2 * i) values) (a ∷ []) (b ∷ []) in
    let tested = pair_small c.args.bits c.most_of-most.result c.args.first c.is_lead.result i a b
    c.most_of-most.ensures.value c.is_lead.ensures.later c.is_lead.ensures.here c.in-Ok-tested.ensures.ok in
    record {
      reads = c.loop-i.invariant.reads ∙ ap (λ l. pairs_string (take (2 * i) values) ++ l) read
          ∙ sym (append_assoc (pairs_string (take (2 * i) values)) (zeros_and_one (pair_number a b)) c.zeros.new.self)
          ∙ ap (λ l. l ++ c.zeros.new.self)
          (sym (ap pairs_string next ∙ pairs_string-push (take (2 * i) values) a b (omega (arith, size))));
      same_length = length-set one (2 * i + 1) b ∙ long ∙ c.loop-i.invariant.same_length;
      small = λ k inside asked. elim (cases_lt k (2 * i)) [
        | inl early ↦ subst (λ v. v ≤ greatest c.args.bits)
            (sym (get_or-set_other one (2 * i + 1) k b 0 (λ same. absurd (omega arith))
            ∙ get_or-set_other values (2 * i) k a 0 (λ same. absurd (omega arith))))
            (c.loop-i.invariant.small k early asked)
        | inr late ↦ elim (cases_lt k (2 * i + 1)) [
          | inl first ↦
              let here : k ≡ 2 * i = omega arith in
              subst (λ v. v ≤ greatest c.args.bits)
              (sym (get_or-set_other one (2 * i + 1) k b 0 (λ same. absurd (omega arith))
              ∙ ap (λ j. get_or one j 0) here ∙ get_or-set_same values (2 * i) a 0 (omega arith)))
              (tested.1 (subst (λ j. (0 < j) ⊎ IsFalse c.args.first) here asked))
          | inr second ↦
              let here : k ≡ 2 * i + 1 = omega arith in
              subst (λ v. v ≤ greatest c.args.bits)
              (sym (ap (λ j. get_or both j 0) here ∙ get_or-set_same one (2 * i + 1) b 0 (omega (arith, long))))
              tested.0
        ]
      ];
    }
