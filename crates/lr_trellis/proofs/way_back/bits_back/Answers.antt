use Rattle.std.proofs.Common.{arith, refl, ◌+◌, ◌-◌}
use Rattle.lr_trellis.specs.Words.{decisions}
use Rattle.lr_trellis.proofs.ReadBack.{no_bits, one_bit_more}
use Rattle.lr_trellis.proofs.way_back.bits_back.Goals as goal

pub loop-i-init : goal.loop-i-init
loop-i-init c =
    no_bits c.args.line (decisions c.args.words.now) c.args.first c.args.state c.args.out.now c.requires.state

pub older_state-state-requires : goal.older_state-state-requires
older_state-state-requires c = c.loop-i.invariant.low

pub loop-i-preserved : goal.loop-i-preserved
unfolding decisions
loop-i-preserved c =
    one_bit_more c.args.line (decisions c.args.words.now) c.args.first _ (c.loop-i.i - 1) c.loop-i.i
    (c.args.first + (c.loop-i.i - 1)) c.loop-i.state _ c.loop-i.out _ (omega arith) refl
    (omega arith) c.older_state-state.ensures c.bit_of.ensures c.loop-i.invariant
