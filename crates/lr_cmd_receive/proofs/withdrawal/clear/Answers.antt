use Rattle.lr_disk.proofs.Moments.{cut_moments, cut_sync_moments}
use Rattle.lr_cmd_receive.proofs.withdrawal.clear.Goals as goal

pub returns-in_err-cut-clause-any_moment : goal.returns-in_err-cut-clause-any_moment
returns-in_err-cut-clause-any_moment g c told durable =
    cut_moments g.D.Disk g.met.D.Disk.only_now told durable (c.cut.ensures.crash told) (c.cut.ensures.time told)

pub returns-clause-any_moment : goal.returns-clause-any_moment
returns-clause-any_moment g c told durable =
    let then = c.cut.ensures.tell.told told in
    cut_sync_moments g.D.Disk g.met.D.Disk.only_now told durable (c.cut.ensures.crash told) (c.cut.ensures.time told)
    then (c.sync.ensures.crash then) (c.sync.ensures.time then)
