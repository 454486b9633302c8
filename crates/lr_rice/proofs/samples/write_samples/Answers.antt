use Rattle.std.proofs.Common.{◌≡◌, ◌+◌, ◌<◌, [], ◌∷◌, ◌++◌, take, drop, length, get_or, sym, ap, ◌∙◌, inl, inr, arith}
use Rattle.std.proofs.Common.{length-set, length-drop}
use Rattle.std.proofs.lemmas.Bool.{cases_lt}
use Rattle.std.proofs.lemmas.List.{append_assoc, drop_more, drop_all, drop-drop, drop-set-lt, take_more_set}
use Rattle.lr_rice.specs.Samples.{sample_of, samples_from, sample_after}
use Rattle.lr_rice.proofs.SampleLemmas.{samples_from-cons, sample_after-cons, sample_after-nil, length-samples_from}
use Rattle.lr_rice.proofs.SampleLemmas.{places_after-is}
use Rattle.lr_rice.proofs.samples.write_samples.Goals as goal

pub loop-i-preserved : goal.loop-i-preserved
loop-i-preserved c =
    let most = c.args.most in
    let values = c.args.values.now in
    let i = c.loop-i.i in
    let last = c.loop-i.last in
    let value = get_or values i 0 in
    let next = c.sample-last.result in
    let out = c.loop-i.out in
    let is : next ≡ sample_of most last value = c.sample-last.ensures.value in
    let more : drop i values ≡ value ∷ drop (i + 1) values = drop_more values i 0 (omega arith) in
    let inside : i < length out = omega (arith, c.loop-i.invariant.same_length) in
    record {
      in_range = c.sample-last.ensures.in_range;
      kept = drop-set-lt (i + 1) out i next (omega arith) ∙ sym (drop-drop 1 i out)
          ∙ ap (drop 1) c.loop-i.invariant.kept ∙ drop-drop 1 i c.args.out.now;
      same_length = length-set out i next ∙ c.loop-i.invariant.same_length;
      written = c.loop-i.invariant.written ∙ ap (λ l. take i out ++ samples_from most last l) more
          ∙ ap (λ l. take i out ++ l) (samples_from-cons most last value (drop (i + 1) values)
          ∙ ap (λ s. s ∷ samples_from most s (drop (i + 1) values)) (sym is))
          ∙ sym (append_assoc (take i out) (next ∷ []) (samples_from most next (drop (i + 1) values)))
          ∙ ap (λ l. l ++ samples_from most next (drop (i + 1) values)) (sym (take_more_set out i next inside));
      after = c.loop-i.invariant.after ∙ ap (sample_after most last) more
          ∙ sample_after-cons most last value (drop (i + 1) values)
          ∙ ap (λ s. sample_after most s (drop (i + 1) values)) (sym is);
    }

pub returns-clause-written : goal.returns-clause-written
returns-clause-written c =
    let most = c.args.most in
    let values = c.args.values.now in
    let i = c.loop-i.i in
    let rest = samples_from most c.loop-i.last (drop i values) in
    let long : length rest ≡ length (drop i values) = length-samples_from most c.loop-i.last (drop i values) in
    places_after-is c.args.out.now c.loop-i.out
    (samples_from most c.args.p values) rest i c.loop-i.invariant.same_length
    (omega arith) c.loop-i.invariant.kept c.loop-i.invariant.written
    (elim (cases_lt i (length c.args.out.now)) [
      | inl less ↦ inl (omega (arith, long, length-drop i values))
      | inr full ↦ inr (omega arith)
    ])

pub returns-clause-last : goal.returns-clause-last
returns-clause-last c enough =
    let most = c.args.most in
    let values = c.args.values.now in
    let i = c.loop-i.i in
    sym (c.loop-i.invariant.after ∙ ap (sample_after most c.loop-i.last) (drop_all i values (omega arith))
    ∙ sample_after-nil most c.loop-i.last)
