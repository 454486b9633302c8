use Rattle.std.proofs.Common.{◌≡◌, ℕ, ◌-◌, ◌++◌, take, drop, length, replicate, sym, ap, ◌∙◌, inl, inr, arith}
use Rattle.std.proofs.Common.{length-append, length-drop, min}
use Rattle.std.proofs.lemmas.Bool.{cases_lt}
use Rattle.std.proofs.lemmas.List.{take_at, drop_at, length-replicate, replicate-append-replicate, length-take-le}
use Rattle.lr_rice.specs.Samples.{samples_from}
use Rattle.lr_rice.proofs.SampleLemmas.{samples_from-zeros, places_after-is}
use Rattle.lr_rice.proofs.samples.repeat_sample.Goals as goal

pub returns : goal.returns
returns c =
    let p = c.args.p in
    let count = c.args.count in
    let old = c.args.out.now in
    let end = c.min-end.result in
    let is : end ≡ min count (length old) = c.min-end.ensures in
    let size : length (take end old) ≡ end = length-take-le end old (omega arith) in
    let filled : c.fill.new.self ≡ replicate end p = c.fill.ensures.after (λ y same. same)
    ∙ ap (λ n. replicate n p) size in
    let front : length c.fill.new.self ≡ end = ap length filled ∙ length-replicate end p in
    let new = c.fill.new.self ++ drop end old in
    places_after-is old new (samples_from c.args.most p (replicate count 0)) (replicate (count - end) p) end
    (omega (arith, length-append c.fill.new.self (drop end old), length-drop end old, front))
    (omega arith)
    (drop_at c.fill.new.self (drop end old) end front)
    (samples_from-zeros c.args.most p count ∙ ap (λ n. replicate n p) (omega arith)
    ∙ sym (replicate-append-replicate end (count - end) p)
    ∙ ap (λ l. l ++ replicate (count - end) p) (sym filled ∙ sym (take_at c.fill.new.self (drop end old) end front)))
    (elim (cases_lt count (length old)) [
      | inl less ↦ inl
          (omega (arith, length-replicate {A = ℕ} (count - end) p))
      | inr full ↦ inr (omega arith)
    ])
