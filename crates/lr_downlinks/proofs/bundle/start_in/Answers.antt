use Rattle.std.proofs.Common.{sym, arith}
use Rattle.lr_downlinks.proofs.Bundling.{start_later}
use Rattle.lr_downlinks.proofs.bundle.start_in.Goals as goal

pub returns-else-downlink-eq0 : goal.returns-else-downlink-eq0
returns-else-downlink-eq0 c =
    sym (start_later 1 c.args.ends.now c.args.downlink (omega (arith, c.if-downlink-eq0.false)))
