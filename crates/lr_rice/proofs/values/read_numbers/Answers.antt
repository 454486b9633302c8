use Rattle.std.proofs.Common.{◌≡◌, ◌+◌, ◌*◌, ◌^◌, ◌<◌, ◌≤◌, take, length, ap, ◌∙◌, arith, length-append}
use Rattle.std.specs.List.{flat_map}
use Rattle.std.proofs.Math.Nat.{mul-le-mul_right}
use Rattle.std.proofs.lemmas.List.{length-take-le}
use Rattle.lr_bits.specs.Bits.{number_bits}
use Rattle.lr_rice.proofs.ItemLemmas.{All-from_each, length-flat_map_numbers}
use Rattle.lr_rice.proofs.values.read_numbers.Goals as goal

pub returns-clause-fits : goal.returns-clause-fits
returns-clause-fits c = All-from_each (λ value. value < 2 ^ c.args.width) c.loop-i.values
    (λ k inside. c.loop-i.invariant.small k (omega arith))

pub returns-in_default-clause-err : goal.returns-in_default-clause-err
returns-in_default-clause-err c =
    let i = c.loop-i.i in
    let width = c.args.width in
    let values = c.loop-i.values in
    let front = flat_map (number_bits width) (take i values) in
    let size : length front ≡ i * width = length-flat_map_numbers width (take i values)
    ∙ ap (λ n. n * width) (length-take-le i values (omega arith)) in
    let all : (i + 1) * width ≤ length c.args.values.now * width = mul-le-mul_right width
    (omega (arith, c.loop-i.invariant.same_length)) in
    omega (
      arith,
      ap length c.loop-i.invariant.reads,
      length-append front c.loop-i.own,
      size,
      all,
      c.in_default.ensures.err.0,
    )
