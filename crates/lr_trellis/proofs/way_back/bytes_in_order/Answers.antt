use Rattle.std.proofs.Common.{arith, ◌++◌, ◌-◌, []}
use Rattle.lr_trellis.specs.Words.{decisions}
use Rattle.lr_trellis.proofs.ReadBack.{all_bytes, no_bytes, one_byte_more}
use Rattle.lr_trellis.proofs.way_back.bytes_in_order.Goals as goal

pub loop-k-init : goal.loop-k-init
loop-k-init c = record {
  low = c.requires.state;
  read = ([], no_bytes c.args.line (decisions c.args.words.now) c.args.first c.args.state c.args.out.now);
}

pub loop-k-preserved : goal.loop-k-preserved
loop-k-preserved c =
    let before = c.loop-k.invariant.read in
    record {
      low = c.bits_back-state.ensures.state;
      read = (
        c.bits_back-state.new.out ++ before.0,
        one_byte_more c.args.line (decisions c.args.words.now) c.args.first c.args.state
            (c.loop-k.k - 1) c.loop-k.k c.loop-k.state c.bits_back-state.result c.byte_of.result c.loop-k.out before.0
            c.bits_back-state.new.out (omega arith)
            (omega arith) c.bits_back-state.auto.out c.byte_of.ensures c.bits_back-state.ensures.path before.1,
      );
    }

pub returns-clause-read : goal.returns-clause-read
returns-clause-read c =
    all_bytes c.args.line c.args.words.now c.args.first c.args.state c.loop-k.k c.loop-k.state c.loop-k.out
    (omega arith)
    c.loop-k.invariant
