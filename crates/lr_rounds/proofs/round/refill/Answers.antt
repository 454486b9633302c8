use Rattle.lr_rounds.proofs.Leading.{none_more}
use Rattle.lr_rounds.proofs.round.refill.Goals as goal

pub returns-clause-no_more : goal.returns-clause-no_more
returns-clause-no_more g c =
    none_more g.L.JobSource.terms _ _ c.in_ok-put_next.field-0 c.in_ok-put_next.ensures.fewer
    c.in_ok-put_next.ensures.none
