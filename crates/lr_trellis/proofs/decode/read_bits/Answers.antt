use Rattle.std.proofs.Common.{zero-add}
use Rattle.lr_trellis.proofs.decode.read_bits.Goals as goal

pub returns : goal.returns
returns c =
    let walk = rw zero-add at c.bits_back.ensures.path in
    c.last_state-state.ensures.read c.bits_back.new.out c.bits_back.result c.bits_back.auto.out
    c.bits_back.ensures.state walk
