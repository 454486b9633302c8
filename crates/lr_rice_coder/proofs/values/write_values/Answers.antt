use Rattle.std.proofs.Common.{◌≡◌, ◌+◌, ◌-◌, ◌<◌, ◌∷◌, ◌++◌, [], ℕ, suc, length, get_or, take, drop, set, replicate}
use Rattle.std.proofs.Common.{ap, sym, ◌∙◌, arith}
use Rattle.std.proofs.lemmas.List.{append_assoc, drop-drop, drop-replicate, drop-set-lt, drop_more, length-set}
use Rattle.std.proofs.Math.Seq.{take-suc-set}
use Rattle.lr_rice.specs.CodedLines.{mapped_value}
use Rattle.lr_rice_coder.specs.Shortest.{mapped_from}
use Rattle.lr_rice_coder.proofs.values.write_values.Goals as goal

pub loop-i-preserved : goal.loop-i-preserved
loop-i-preserved c =
    let samples = c.args.samples.now in
    let places = c.loop-i.places in
    let most = c.args.most in
    let i = c.loop-i.i in
    let value = c.mapped.result in
    let p = get_or samples (i - 1) 0 in
    let sample = get_or samples i 0 in
    let next : i + 1 ≡ suc i = omega arith in
    let back : i + 1 - 1 ≡ i = omega arith in
    let there : i < length places = omega (arith, c.requires.room, c.loop-i.auto.places) in
    let later = mapped_from most sample (drop (i + 1) samples) in
    let is : value ≡ mapped_value most p sample =
    c.mapped.ensures.value ∙ ap (λ (a : ℕ). mapped_value most a c.from-in-loop-i.result) c.from.ensures
    ∙ ap (λ (b : ℕ). mapped_value most p b) c.from-in-loop-i.ensures in
    record {
      made = ap (λ (k : ℕ). take (i + 1) (set places i value)
          ++ mapped_from most (get_or samples k 0) (drop (i + 1) samples)) back
          ∙ ap (λ l. l ++ later) (ap (λ (k : ℕ). take k (set places i value)) next ∙ take-suc-set places i value there)
          ∙ append_assoc (take i places) (value ∷ []) later
          ∙ ap (λ (v : ℕ). take i places ++ v ∷ later) is
          ∙ ap (λ l. take i places ++ mapped_from most p l) (sym (drop_more samples i 0 (omega arith)))
          ∙ c.loop-i.invariant.made;
      clear = drop-set-lt (i + 1) places i value (omega arith)
          ∙ sym (drop-drop 1 i places) ∙ ap (drop 1) c.loop-i.invariant.clear
          ∙ drop-replicate 1 (length places - i) 0
          ∙ ap (λ (n : ℕ). replicate n 0) (omega (arith, length-set places i value));
    }
