use Rattle.std.proofs.Common.{arith}
use Rattle.lr_downlinks.proofs.Bundling.{found_set}
use Rattle.lr_downlinks.proofs.bundle.find_ends.Goals as goal

pub loop-k-preserved : goal.loop-k-preserved
loop-k-preserved c =
    found_set c.args.bytes.now c.loop-k.ends c.loop-k.k c.in_ok-at.at c.loop-k.at
    (omega (arith, c.loop-k-test.true, c.loop-k.auto.ends)) c.loop-k.invariant.0 c.loop-k.invariant.1
    c.in_ok-at.ensures
