use Rattle.std.proofs.Common.{◌≡◌, ◌/◌, ◌^◌, ◌++◌, take}
use Rattle.std.specs.List.{flat_map}
use Rattle.lr_bits.specs.Bits.{zeros_and_one}
use Rattle.lr_rice_coder.proofs.block.write_highs.Given as goal

-- the values so far
abbrev pub invariant-loop-value : goal.invariant-loop-value
invariant-loop-value l =
    l.writer ≡ l.fn.writer ++ flat_map (λ value. zeros_and_one (value / 2 ^ l.low_bits)) (take l.value-index l.values)
