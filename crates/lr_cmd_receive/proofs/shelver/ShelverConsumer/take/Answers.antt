use Rattle.std.proofs.Common.{refl}
use Rattle.std.proofs.lemmas.Result.{err_from_is_err_and}
use Rattle.lr_cmd_receive.proofs.Taking.{shelver_more, shelver_stopped}
use Rattle.lr_cmd_receive.proofs.shelver.ShelverConsumer.take.Goals as goal

pub returns-in_err-shelve_outcome-clause-stops : goal.returns-in_err-shelve_outcome-clause-stops
returns-in_err-shelve_outcome-clause-stops g c = λ before arrivals took.
    let p = err_from_is_err_and c.from_residual.result c.from_residual.ensures.1 in
    rw (p.1, p.2)
    (shelver_stopped g.D.Disk g.O.Sink took c.args.arrival.now _
    (record { same_layers = refl; same_shelf = refl; same_disk = refl; same_out = refl }) _
    (c.in_err-shelve_outcome.ensures.stopped _ _ took.stands c.requires.whole))

pub returns-clause-takes : goal.returns-clause-takes
returns-clause-takes g c = λ before arrivals took.
    let e = c.in_ok-shelve_outcome.ensures in
    shelver_more g.D.Disk g.O.Sink took c.args.arrival.now _
    (record { same_layers = refl; same_shelf = refl; same_disk = refl; same_out = refl }) (e.stands _ _ took.stands)
    c.counts-self.ensures.value refl (e.gained _ _ took.stands)
