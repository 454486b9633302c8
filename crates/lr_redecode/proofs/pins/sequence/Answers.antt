use Rattle.std.proofs.Common.{ap, ◌∙◌, get_or}
use Rattle.std.specs.Prelude.{bit_xor}
use Rattle.std.specs.Int.Bits.{xor_zero_l}
use Rattle.std.proofs.lemmas.List.{get_or-replicate}
use Rattle.lr_bits.specs.declared.sizes.TheConstants.{BLOCK_BYTES}
use Rattle.lr_block.specs.Randomiser.{sequence_byte}
use Rattle.lr_block.proofs.Sequence.{get_or-randomised_block}
use Rattle.lr_redecode.proofs.pins.sequence.Goals as goal

pub returns : goal.returns
returns c = λ i l.
    ap (λ b. get_or b i 0) c.derandomise.ensures ∙ get_or-randomised_block _ i l
    ∙ ap (λ x. bit_xor x (sequence_byte i)) (get_or-replicate BLOCK_BYTES i 0 0 l)
    ∙ xor_zero_l (sequence_byte i)
