use Rattle.std.proofs.Common.{◌≡◌, ℕ, ◌+◌, ◌*◌, ◌/◌, ◌%◌, ◌^◌, ◌<◌, ◌≤◌, [], ◌∷◌, ◌++◌, get_or, take, set, map}
use Rattle.std.proofs.Common.{length, refl, ap, sym, subst, ◌∙◌, inl, inr, arith, length-set}
use Rattle.std.proofs.lemmas.List.{take_more_set, take_more, map-append, drop-set-lt}
use Rattle.std.proofs.lemmas.Nat.{shl_whole, div-mul-add}
use Rattle.std.specs.List.{flat_map}
use Rattle.lr_bits.specs.Bits.{number_bits}
use Rattle.lr_rice.specs.CodedLines.{greatest}
use Rattle.lr_rice.proofs.ItemLemmas.{All-from_each, LowBitsFail-at, same_at, same_behind, too_great, item_more}
use Rattle.lr_rice.proofs.ItemLemmas.{below_set, number_bits-low}
use Rattle.lr_rice.specs.declared.fault.Cause.TheVariants.{Ended, OutOfRange}
use Rattle.lr_rice.proofs.values.read_lows.Goals as goal

pub returns-clause-small : goal.returns-clause-small
returns-clause-small c = All-from_each (λ value. value ≤ greatest c.args.bits) c.loop-i.values
    (λ k inside. c.loop-i.invariant.small k (omega arith))

pub returns-in_default-clause-err : goal.returns-in_default-clause-err
returns-in_default-clause-err c =
    let old = c.args.values.now in
    LowBitsFail-at c.args.bits c.args.k old c.loop-i.values c.loop-i.i c.args.reader.now c.loop-i.own Ended
    (omega (arith, c.loop-i.invariant.same_length)) c.loop-i.invariant.highs c.loop-i.invariant.same_length
    c.loop-i.invariant.small c.loop-i.invariant.reads
    (inl (c.in_default.ensures.err.0, refl))

pub returns-then-high-most-clause-err : goal.returns-then-high-most-clause-err
returns-then-high-most-clause-err c =
    let old = c.args.values.now in
    let i = c.loop-i.i in
    let high = get_or old i 0 in
    let same : get_or c.loop-i.values i 0 ≡ high = same_at c.loop-i.values old i c.loop-i.invariant.kept in
    LowBitsFail-at c.args.bits c.args.k old c.loop-i.values i c.args.reader.now c.loop-i.own OutOfRange
    (omega (arith, c.loop-i.invariant.same_length)) c.loop-i.invariant.highs c.loop-i.invariant.same_length
    c.loop-i.invariant.small c.loop-i.invariant.reads
    (inr (
      c.in-Ok.low,
      c.bits.new.self,
      c.in-Ok.ensures.fits,
      c.in-Ok.ensures.ok,
      inl (
        too_great (greatest c.args.bits) high c.args.k c.in-Ok.low
            (omega (arith, same, c.most_of-most.ensures.value)),
        refl,
      ),
    ))

pub returns-then-value-most-clause-err : goal.returns-then-value-most-clause-err
returns-then-value-most-clause-err c =
    let old = c.args.values.now in
    let i = c.loop-i.i in
    let k = c.args.k in
    let high = get_or old i 0 in
    let here = get_or c.loop-i.values i 0 in
    let same : here ≡ high = same_at c.loop-i.values old i c.loop-i.invariant.kept in
    let shifted : here * 2 ^ k % 2 ^ 64 ≡ high * 2 ^ k = shl_whole here 16 k 64
    (omega (arith, c.most_of-most.ensures.fits)) (omega arith) ∙ ap (λ n. n * 2 ^ k) same in
    LowBitsFail-at c.args.bits k old c.loop-i.values i c.args.reader.now c.loop-i.own OutOfRange
    (omega (arith, c.loop-i.invariant.same_length)) c.loop-i.invariant.highs c.loop-i.invariant.same_length
    c.loop-i.invariant.small c.loop-i.invariant.reads
    (inr (
      c.in-Ok.low,
      c.bits.new.self,
      c.in-Ok.ensures.fits,
      c.in-Ok.ensures.ok,
      inl (omega (arith, shifted, c.most_of-most.ensures.value), refl),
    ))

pub loop-i-preserved : goal.loop-i-preserved
loop-i-preserved c =
    let old = c.args.values.now in
    let values = c.loop-i.values in
    let i = c.loop-i.i in
    let k = c.args.k in
    let low = c.in-Ok.low in
    let high = get_or old i 0 in
    let here = get_or values i 0 in
    let value = here * 2 ^ k % 2 ^ 64 + low in
    let inside : i < length values = omega arith in
    let same : here ≡ high = same_at values old i c.loop-i.invariant.kept in
    let shifted : here * 2 ^ k % 2 ^ 64 ≡ high * 2 ^ k = shl_whole here 16 k 64
    (omega (arith, c.most_of-most.ensures.fits)) (omega arith) ∙ ap (λ n. n * 2 ^ k) same in
    let is : value ≡ high * 2 ^ k + low = ap (λ n. n + low) shifted in
    let next : take (i + 1) (set values i value) ≡ take i values ++ value ∷ [] = take_more_set values i value inside in
    let written : c.loop-i.own ≡ number_bits k value ++ c.bits.new.self =
    c.in-Ok.ensures.ok
    ∙ ap (λ l. l ++ c.bits.new.self) (sym (ap (number_bits k) is ∙ number_bits-low k high low c.in-Ok.ensures.fits)) in
    let divided : value / 2 ^ k ≡ high = ap (λ n. n / 2 ^ k) is ∙ div-mul-add high (2 ^ k) low c.in-Ok.ensures.fits in
    record {
      reads = subst (λ l. c.args.reader.now ≡ flat_map (number_bits k) l ++ c.bits.new.self) (sym next)
          (item_more (number_bits k)
          (take i values) value c.args.reader.now c.loop-i.own c.bits.new.self c.loop-i.invariant.reads written);
      highs = ap (map (λ v. v / 2 ^ k)) next ∙ map-append (λ (v : ℕ). v / 2 ^ k) (take i values) (value ∷ [])
          ∙ ap (λ l. l ++ (value / 2 ^ k) ∷ []) c.loop-i.invariant.highs ∙ ap (λ v. take i old ++ v ∷ []) divided
          ∙ sym (take_more old i 0 (omega (arith, c.loop-i.invariant.same_length)));
      kept = drop-set-lt (i + 1) values i value (omega arith) ∙ same_behind values old i c.loop-i.invariant.kept;
      same_length = length-set values i value ∙ c.loop-i.invariant.same_length;
      small = below_set (λ v. v ≤ greatest c.args.bits) values i value inside c.loop-i.invariant.small
          (omega (arith, c.most_of-most.ensures.value));
    }
