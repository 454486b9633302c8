use Rattle.std.proofs.Common.{◌++◌, arith}
use Rattle.lr_vc.proofs.Starts.{packet_end_is, length_field}
use Rattle.lr_vc.proofs.zone.end_across.Goals as goal

pub returns-clause-end : goal.returns-clause-end
returns-clause-end c =
    let all = c.args.so_far.now ++ c.args.zone.now in
    omega (arith, packet_end_is all 0, length_field all 0, c.byte_across-high.ensures, c.byte_across-low.ensures)
