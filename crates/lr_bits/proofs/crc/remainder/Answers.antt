use Rattle.std.proofs.Common.{◌∙◌, ap, get_or, [], arith}
use Rattle.lr_bits.specs.declared.remainders.TheConstants.{REMAINDERS}
use Rattle.lr_bits.proofs.CrcLemmas.{get_or-remainders}
use Rattle.lr_bits.proofs.crc.remainder.Goals as goal

pub returns : goal.returns
returns c =
    ap (λ place. get_or (get_or REMAINDERS c.args.zeros []) place 0) c.from.ensures
    ∙ get_or-remainders c.args.zeros c.args.byte c.requires (omega arith)
